-- `may_complete` meets its contract: wait-for of the Completed children, and whether all are ended. Assumes nothing.
use Rattle.std.proofs.Common.{◌≡◌, refl, sym, ap, ◌∙◌, Bool, true, false, not, ◌&&◌, ◌||◌, List, ℕ, ◌+◌, ◌*◌, get_or}
use Rattle.rules.specs.States.{code}
use Rattle.rules.specs.Table.{entry, body_of, wait_for_optional}
use Rattle.rules.specs.Step.{all_ended, children_complete}
use Rattle.rules.specs.declared.PlanState.TheVariants.{Completed}
use Rattle.formulas.specs.Asked.{TellsWaitFor}
use Rattle.family.specs.ChildWords.{ChildWords}
use Rattle.family.proofs.ChildWords.{in_one, complete_is}
use Rattle.family.proofs.Scene.may_complete.Goals as goal

-- where wait-for has been asked of the Completed children: what decides
record Decided (holds optional over r : Bool) : Type 0 where
  is : (holds && (not optional || over)) ≡ r

decides :
    {sets : List ℕ} {w q : ℕ} {holds : Bool} (t s : List ℕ) → ChildWords t s q sets → w ≡ get_or sets (q * 9 + code Completed) 0
    → TellsWaitFor t q w holds → (over : Bool) → over ≡ all_ended t s q
    → Decided holds (wait_for_optional (entry t q)) over (children_complete t s q)
decides t s known e tells over eo = record { is = complete_is (in_one known Completed e) tells eo }

-- wait-for fails of the Completed children; it holds, and the others do not count; it holds, and all must be ended
module _ {holds optional over r : Bool} (by : Decided holds optional over r) where
  too_few : holds ≡ false → false ≡ r
  too_few few = rw few at by.is

  others_free : holds ≡ true → optional ≡ false → true ≡ r
  others_free some free = rw (some, free) at by.is

  by_others : holds ≡ true → optional ≡ true → over ≡ r
  by_others some waits = rw (some, waits) at by.is

pub returns-then-not-wait_for : goal.returns-then-not-wait_for
returns-then-not-wait_for c s known =
    let completed = rw (c.children-children.ensures.0, c.children-children.ensures.1) at c.in_state-completed.ensures in
    too_few (decides _ s known completed c.wait_for.ensures _ refl) c.if-not-wait_for.true

pub returns-then-not-waits_for_optional : goal.returns-then-not-waits_for_optional
returns-then-not-waits_for_optional c s known =
    let completed = rw (c.children-children.ensures.0, c.children-children.ensures.1) at c.in_state-completed.ensures in
    let optional = sym (c.waits_for_optional.ensures ∙ ap wait_for_optional c.entry_at-e.ensures) ∙ c.if-not-waits_for_optional.true in
    others_free (decides _ s known completed c.wait_for.ensures _ refl) c.if-not-wait_for.false optional

pub returns : goal.returns
returns c s known =
    let completed = rw (c.children-children.ensures.0, c.children-children.ensures.1) at c.in_state-completed.ensures in
    let over = rw (c.children-children.ensures.0, c.children-children.ensures.1) at c.all_ended.ensures in
    let optional = sym (c.waits_for_optional.ensures ∙ ap wait_for_optional c.entry_at-e.ensures) ∙ c.if-not-waits_for_optional.false in
    let body = c.body_kind.ensures ∙ ap body_of c.entry_at-e.ensures in
    by_others (decides _ s known completed c.wait_for.ensures _ (over _ s known body))
    c.if-not-wait_for.false optional
