-- A table of version 2 whose nodes are all of kind 5: each formula is one node, each node begins one, and it asks for a number that check 9
-- lets pass. Assumes that the table passes its checks.
use Prim.Native.Nat.{ℕ, ◌<◌}
use mathlib.Core.Bool.{Bool, true, false, cond, not, ◌&&◌, ◌||◌, false≢true}
use mathlib.Core.Path.{◌≡◌, refl, sym, ◌∙◌, ap, ap₂}
use mathlib.Core.List.{List, [], ◌∷◌}
use lib.Dec.{eqb, ltb}
use borrow.Author.Tests.{eq-eqb, eqb-true, not-false}
use Rattle.rules.specs.Lists.{some, some_below}
use Rattle.rules.specs.Table.{plan_count, entry}
use Rattle.rules.specs.WaitFor.{asks, operands, node_count, node, is_leaf, owner}
use Rattle.rules.specs.Answers.{too_many, asks_too_many, bad_wait, bad_bytes, bad_node, formulas_check, Done}
use Rattle.rules.specs.declared.Asks.{Asks}
use Rattle.rules.specs.declared.Asks.TheVariants.{AtLeast}
use Rattle.rules.proofs.Tree.{or_left, or_right}
use Rattle.rules.proofs.Below.{none_below, none_true}
use Rattle.nodes.proofs.Standing.{good, first_there, some_begins, first_stands}
use Rattle.versions.specs.Versions.{number_waited, other_kind}
use Rattle.versions.proofs.Laid.{Numbered}
use Rattle.faithful.proofs.Passing.{MayMoveTo1, is_second}

pub all_of_kind_5 : (t : List ℕ) → ((i : ℕ) → i < node_count t → (node t i).kind ≡ 5) → other_kind t ≡ false
unfolding other_kind
all_of_kind_5 t kinds = none_below _ (node_count t) (λ i l. ap not (eq-eqb (node t i).kind 5 (kinds i l)))

module _ {t : List ℕ} (may : MayMoveTo1 t) where
  formulas_done : formulas_check t ≡ Done
  formulas_done = may.passed.formulas (is_second t may.second)

  module _ (i : ℕ) (l : i < node_count t) where
    pub kind_5 : (node t i).kind ≡ 5
    unfolding other_kind
    kind_5 = eqb-true (node t i).kind 5 (not-false _ (none_true _ (node_count t) may.plain i l))

    asks_number : asks (node t i) ≡ AtLeast (node t i).a
    asks_number = rw kind_5

    -- a node has only a
    pub node_plain : (node t i).kind ∷ (node t i).a ∷ (node t i).b ∷ (node t i).last ∷ [] ≡ 5 ∷ (node t i).a ∷ 0 ∷ 0 ∷ []
    unfolding bad_node bad_bytes
    node_plain =
        let bad = or_left _ _ (or_left _ _ (good t formulas_done i l)) in
        let unused = rw asks_number at (or_right (ltb 5 (node t i).kind || not (eqb (node t i).last 0)) _ bad) in
        let none : (node t i).b ≡ 0 = eqb-true (node t i).b 0 (not-false _ unused) in
        let end : (node t i).last ≡ 0 =
        eqb-true (node t i).last 0 (not-false _ (or_right (ltb 5 (node t i).kind) _ (or_left _ _ bad))) in
        rw (kind_5, none, end) refl

  -- the formula of a plan with children begins with a node, and each node begins one
  pub begins_there : (p : ℕ) → p < plan_count t → is_leaf t p ≡ false → (entry t p).wait < node_count t
  begins_there = first_there t formulas_done

  pub begins_some : (i : ℕ) → i < node_count t → Numbered t (λ p. (entry t p).wait) (plan_count t) i
  begins_some i l =
      let found = some_begins t formulas_done i l (λ j m. ap (λ (a : Asks). some (eqb i) (operands a)) (asks_number j m)) in
      let both = two (is_leaf t found.0) (eqb (entry t found.0).wait i) found.2 in
      record { plan = found.0; inside = found.1; parts = both.0; here = eqb-true (entry t found.0).wait i both.1 }
    where
      two : (leaf same : Bool) → (not leaf && same) ≡ true → (leaf ≡ false) × (same ≡ true)
      two true same e = absurd (false≢true e)
      two false same e = (refl, e)

  module _ (p : ℕ) (l : p < plan_count t) (parts : is_leaf t p ≡ false) where
    -- that node asks for a number
    pub number_asked : asks (node t (entry t p).wait) ≡ AtLeast (number_waited t p)
    number_asked = asks_number (entry t p).wait (begins_there p l parts)

    -- that is not above the number of the plan's named children
    pub number_fits : too_many t p (number_waited t p) ≡ false
    unfolding bad_wait asks_too_many
    number_fits =
        let i : ℕ = (entry t p).wait in
        let there = begins_there p l parts in
        let none : some_below (asks_too_many t p) (node_count t) ≡ false =
        sym (ap (λ (b : Bool). cond b (too_many t p i) (some_below (asks_too_many t p) (node_count t))) (is_second t may.second))
        ∙ may.passed.waits p l in
        sym
        (ap₂ (λ (a b : Bool). a && b && too_many t p (node t i).a) (eq-eqb (owner t i) p (first_stands t formulas_done p l parts))
        (eq-eqb (node t i).kind 5 (kind_5 i there)))
        ∙ none_true (asks_too_many t p) (node_count t) none i there
