-- One answer: any two that the contract of a public function permits are equal, and so is what it leaves. The contract is taken as Rattle
-- reads it: `Post κs a z e`, of the lifetimes, the arguments, the answer and the parameters at exit, arguments and parameters in the order
-- of the declaration. Assumes nothing.
use mathlib.Core.Path.{◌≡◌}
use Rattle.rules.proofs.Unique.{one_answer, OneAnswer, by_equation}
use Rattle.lowest.proofs.Lowest.{lowest_once}
use Rattle.output.proofs.Unique.{appended_once}
use Rattle.stored.proofs.take_states.Reads as take_states
use Rattle.stored.proofs.lowest_filled.Reads as lowest_filled
use Rattle.stored.proofs.is_reached.Reads as is_reached
use Rattle.stored.proofs.stamp.Reads as stamp

pub take_states_once :
    (κs : _) (a : _) (z z' : _) (e e' : _) → take_states.Post κs a z e → take_states.Post κs a z' e'
    → e.1.1.0.now ≡ e'.1.1.0.now
take_states_once κs a z z' e e' h h' = (appended_once h h').1

pub lowest_filled_once : OneAnswer lowest_filled.Post
lowest_filled_once = record { once = λ κs a z z' e e' h h'. lowest_once _ _ _ _ h h' }

pub is_reached_once : OneAnswer is_reached.Post
is_reached_once = by_equation

pub stamp_once :
    (κs : _) (a : _) (z z' : _) (e e' : _) → stamp.Post κs a z e → stamp.Post κs a z' e'
    → e.1.1.1.0.now ≡ e'.1.1.1.0.now
stamp_once κs a z z' e e' h h' = one_answer h h'
