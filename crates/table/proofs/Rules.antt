-- Laws of checks 7, 8 and 9: a rule said of what is known of a plan is the rule said of the table. Assumes nothing.
use Prim.Native.Nat.{ℕ, ◌<◌}
use mathlib.Core.Path.{◌≡◌, ap, ◌∙◌}
use mathlib.Core.Bool.{not}
use mathlib.Core.List.{List}
use lib.Count.{ones}
use lib.Dec.{leb}
use lib.ListN.{get_or}
use Rattle.rules.specs.Bytes.{byte_at}
use Rattle.rules.specs.Table.{entry, named}
use Rattle.rules.specs.Answers.{unfit, unfit_entry, too_many}
use Rattle.children.proofs.Sets.{set_ones}
use Rattle.nodes.proofs.Owners.{not_leb}
use Rattle.table.specs.Facts.{Known}

module _ (t : List ℕ) (n : ℕ) (counts names : List ℕ) (known : Known t n counts names) (p : ℕ) (l : p < n) where
  pub unfit_is : unfit_entry p (byte_at counts p) (entry t p) ≡ unfit t p
  unfolding unfit
  unfit_is = ap (λ (k : ℕ). unfit_entry p k (entry t p)) (known.counted p l)

  pub too_many_is : not (leb (entry t p).wait (ones (get_or names p 0))) ≡ too_many t p (entry t p).wait
  unfolding too_many
  too_many_is =
      ap (λ (w : ℕ). not (leb (entry t p).wait (ones w))) (known.collected p l)
      ∙ ap (λ (k : ℕ). not (leb (entry t p).wait k)) (set_ones t p (λ c. named (entry t c)))
      ∙ not_leb (entry t p).wait _
