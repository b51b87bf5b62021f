-- `tell_causes` meets its contract: plan by plan. Assumes nothing.
use Rattle.std.proofs.Common.{◌≡◌, sym, ◌∙◌, List, ℕ, ◌<◌, length, get_or, arith}
use lib.Seq.{ext_get_or}
use Rattle.rules.specs.States.{cause_code}
use Rattle.rules.proofs.Below.{length_map_below, at_map_below}
use Rattle.moves.specs.Causes.{cause_told, causes_told}
use Rattle.pass.proofs.tell_causes.Goals as goal

all_told :
    (t s w new causes : List ℕ) (n : ℕ) → length causes ≡ n
    → ((k : ℕ) → k < n → get_or causes k 0 ≡ cause_code (cause_told t s w new k)) → causes ≡ causes_told t s w new n
unfolding causes_told
all_told t s w new causes n long told =
    let f : ℕ → ℕ = (λ p. cause_code (cause_told t s w new p)) in
    ext_get_or 0 causes _ (long ∙ sym (length_map_below f n))
    (λ k l. let within : k < n = omega (arith, long, l) in told k within ∙ sym (at_map_below f n k within))

pub returns : goal.returns
returns c =
    all_told c.args.table.now c.args.old.now c.args.words.now c.args.new.now c.loop-p.causes (length c.args.causes.now)
    c.loop-p.auto.causes (λ k l. c.loop-p.invariant k (omega (arith, l, c.loop-p-test.false)))
