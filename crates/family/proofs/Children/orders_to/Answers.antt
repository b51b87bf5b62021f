-- `orders_to` meets its contract: each question about the children is answered. Assumes nothing.
use Rattle.std.proofs.Common.{ap, ap₂, ◌∙◌, Bool, ◌&&◌, ℕ, eqb}
use Rattle.rules.specs.Table.{body_of, retry_aborted}
use Rattle.rules.specs.Step.{due}
use Rattle.family.proofs.ChildWords.{first_is, orders_is}
use Rattle.family.proofs.Children.orders_to.Goals as goal

pub returns : goal.returns
unfolding due
returns c t s choice p known ranked ee ec =
    let body = c.body_kind-body.ensures ∙ ap body_of ee in
    let again = c.retries_aborted-again.ensures ∙ ap retry_aborted ee in
    let is_first = ap (λ (r : ℕ). eqb r 0) ranked.ranked ∙ first_is known ranked.child in
    c.orders_by.ensures
    ∙ orders_is t s _ choice _ p body again
    (ap (λ (r : ℕ). eqb r c.first_not_done.result) ranked.ranked ∙ c.first_not_done.ensures t s p known ranked.child again)
    (c.gate_open.ensures t s known)
    (ap₂ (λ (a b : Bool). a && b) (c.may_activate.ensures t s known again) ec)
    (λ two. c.due-is_due.ensures t s known (known.two two) ∙ rw (body, is_first))
