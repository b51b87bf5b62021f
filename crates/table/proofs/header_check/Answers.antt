-- `header_check` meets its contract: each refusal by the tests that led there. Assumes nothing.
use Rattle.std.proofs.Common.{ℕ, sym, ap, ◌∙◌}
use borrow.Author.Tests.{lt-ltb, le-ltb}
use mathlib.Core.Bool.{Bool, not, ◌||◌}
use mathlib.Core.List.{List}
use lib.Dec.{eqb, ltb}
use Rattle.rules.specs.Bytes.{byte_at}
use Rattle.rules.specs.Answers.{refuse_if, header_check}
use Rattle.rules.specs.declared.Refusal.TheVariants.{TableCount}
use Rattle.rules.proofs.Outcomes.{pass, stop, pass_last, stop_last}
use Rattle.table.proofs.header_check.Goals as goal

-- another version than 1 and 2
abbrev wrongVersion : ℕ → Bool
wrongVersion version = not (eqb version 1 || eqb version 2)

-- 1 to 3 have passed: the number of plans decides
abbrev wrong : List ℕ → ℕ → Bool
wrong t n = ltb n 1 || ltb 256 n || not (eqb (byte_at t 7) 0)

pub returns-then-table-lt8 : goal.returns-then-table-lt8
unfolding header_check
returns-then-table-lt8 c = sym (stop _ _ _ (lt-ltb _ _ c.if-table-lt8.true))

pub returns-then-not-has_mark : goal.returns-then-not-has_mark
unfolding header_check
returns-then-not-has_mark c =
    sym
    (pass _ _ _ (le-ltb _ _ c.if-table-lt8.false)
    ∙ stop _ _ _ (ap not (sym c.has_mark.ensures ∙ c.if-not-has_mark.true)))

pub returns-then-not-is_version : goal.returns-then-not-is_version
unfolding header_check
returns-then-not-is_version c =
    sym
    (pass _ _ _ (le-ltb _ _ c.if-table-lt8.false)
    ∙ pass _ _ _ (ap not (sym c.has_mark.ensures ∙ c.if-not-has_mark.false))
    ∙ stop _ _ _ (ap wrongVersion (sym c.u16_at-version.ensures) ∙ ap not (sym c.is_version.ensures ∙ c.if-not-is_version.true)))

pub returns-then-n-table : goal.returns-then-n-table
unfolding header_check
returns-then-n-table c =
    sym
    (pass _ _ _ (le-ltb _ _ c.if-table-lt8.false)
    ∙ pass _ _ _ (ap not (sym c.has_mark.ensures ∙ c.if-not-has_mark.false))
    ∙ pass _ _ _ (ap wrongVersion (sym c.u16_at-version.ensures) ∙ ap not (sym c.is_version.ensures ∙ c.if-not-is_version.false))
    ∙ ap (λ (n : ℕ). refuse_if (wrong c.args.table.now n) TableCount) (sym c.u16_at-n.ensures)
    ∙ stop_last _ _ c.if-n-table.true)

pub returns : goal.returns
unfolding header_check
returns c =
    sym
    (pass _ _ _ (le-ltb _ _ c.if-table-lt8.false)
    ∙ pass _ _ _ (ap not (sym c.has_mark.ensures ∙ c.if-not-has_mark.false))
    ∙ pass _ _ _ (ap wrongVersion (sym c.u16_at-version.ensures) ∙ ap not (sym c.is_version.ensures ∙ c.if-not-is_version.false))
    ∙ ap (λ (n : ℕ). refuse_if (wrong c.args.table.now n) TableCount) (sym c.u16_at-n.ensures)
    ∙ pass_last _ _ c.if-n-table.false)
