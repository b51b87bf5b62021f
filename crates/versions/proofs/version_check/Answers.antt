-- `version_check` meets its contract: each refusal by the tests that led there. Assumes nothing.
use Rattle.std.proofs.Common.{ℕ, sym, ap, ◌∙◌, eqb}
use borrow.Author.Tests.{eq-eqb, ne_eqb, lt-ltb, le-ltb}
use mathlib.Core.Bool.{not}
use Rattle.rules.specs.Answers.{refuse_if}
use Rattle.rules.specs.declared.Refusal.TheVariants.{TableVersion}
use Rattle.rules.proofs.Outcomes.{pass, stop, pass_last, stop_last}
use Rattle.versions.specs.Versions.{version_check}
use Rattle.versions.proofs.version_check.Goals as goal

pub returns-then-table-lt8 : goal.returns-then-table-lt8
unfolding version_check
returns-then-table-lt8 c = sym (stop _ _ _ (lt-ltb _ _ c.if-table-lt8.true))

pub returns-then-not-has_mark : goal.returns-then-not-has_mark
unfolding version_check
returns-then-not-has_mark c =
    sym
    (pass _ _ _ (le-ltb _ _ c.if-table-lt8.false)
    ∙ stop _ _ _ (ap not (sym c.has_mark.ensures ∙ c.if-not-has_mark.true)))

-- 1 and 2 have passed: the version decides
pub returns-then-u16_at-from : goal.returns-then-u16_at-from
unfolding version_check
returns-then-u16_at-from c =
    sym
    (pass _ _ _ (le-ltb _ _ c.if-table-lt8.false)
    ∙ pass _ _ _ (ap not (sym c.has_mark.ensures ∙ c.if-not-has_mark.false))
    ∙ ap (λ (v : ℕ). refuse_if (not (eqb v c.args.from)) TableVersion) (sym c.u16_at.ensures)
    ∙ stop_last _ _ (ap not (ne_eqb _ _ c.if-u16_at-from.true)))

pub returns : goal.returns
unfolding version_check
returns c =
    sym
    (pass _ _ _ (le-ltb _ _ c.if-table-lt8.false)
    ∙ pass _ _ _ (ap not (sym c.has_mark.ensures ∙ c.if-not-has_mark.false))
    ∙ ap (λ (v : ℕ). refuse_if (not (eqb v c.args.from)) TableVersion) (sym c.u16_at.ensures)
    ∙ pass_last _ _ (ap not (eq-eqb _ _ c.if-u16_at-from.false)))
