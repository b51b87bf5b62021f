-- `wait_for` meets its contract: by the number that the plan asks for, or by its formula. Assumes nothing.
use Rattle.std.proofs.Common.{◌<◌, ℕ, false, sym, ap, ap₂, ◌∙◌, arith}
use borrow.Author.Tests.{eqb-true}
use lib.Bits.{bit_and}
use lib.Count.{ones}
use lib.Dec.{leb}
use Rattle.rules.specs.Bytes.{byte_at}
use Rattle.rules.specs.WaitFor.{formula_holds}
use Rattle.rules.specs.declared.PlanEntry.{PlanEntry}
use Rattle.formulas.proofs.Evaluated.{named_ones, first_there}
use Rattle.formulas.proofs.Numbers.{by_number, none_waited, by_formula, wait_small, number_small}
use Rattle.formulas.proofs.wait_for.Goals as goal

pub returns-then-waits_for_none : goal.returns-then-waits_for_none
returns-then-waits_for_none c f es =
    none_waited _ _ f (sym c.requires.number ∙ eqb-true _ _ (sym c.waits_for_none.ensures ∙ c.if-waits_for_none.true))

-- where the number is 256 the plan has children, and its formula tells wait-for
pub formula-requires : goal.formula-requires
formula-requires c =
    let t = c.args.table.now in
    let bytes : (i : ℕ) → byte_at t i < 256 = λ i. omega (arith, c.type_inv.table i) in
    let told =
    by_formula t c.args.p (λ q. false) (wait_small t bytes c.args.p) (sym c.requires.number ∙ c.if-number-eq-OTHERWISE.true)
    in
    let first = c.from.ensures ∙ ap (λ (e : PlanEntry). e.wait) c.entry_at.ensures in
    let formed = c.requires.table.formed told.0 in
    let there = first_there _ formed _ (omega (arith, c.requires.within, c.requires.table.whole)) told.1.0 in
    (formed, omega (arith, there, first))

pub returns-then-number-eq-OTHERWISE : goal.returns-then-number-eq-OTHERWISE
returns-then-number-eq-OTHERWISE c f es =
    let t = c.args.table.now in
    let bytes : (i : ℕ) → byte_at t i < 256 = λ i. omega (arith, c.type_inv.table i) in
    let told = by_formula t c.args.p f (wait_small t bytes c.args.p) (sym c.requires.number ∙ c.if-number-eq-OTHERWISE.true) in
    let first = c.from.ensures ∙ ap (λ (e : PlanEntry). e.wait) c.entry_at.ensures in
    c.formula.ensures c.args.p f 256 c.requires.collected es (omega arith)
    ∙ ap (formula_holds t c.args.p f 256) first
    ∙ told.1.1

-- another number is that of named children
pub overflow_cast-number : goal.overflow_cast-number
overflow_cast-number c =
    let t = c.args.table.now in
    let bytes : (i : ℕ) → byte_at t i < 256 = λ i. omega (arith, c.type_inv.table i) in
    record { fits = omega (arith, number_small t bytes c.args.p, c.requires.number) }

pub returns : goal.returns
returns c f es =
    let t = c.args.table.now in
    let bytes : (i : ℕ) → byte_at t i < 256 = λ i. omega (arith, c.type_inv.table i) in
    c.at_least.ensures
    ∙ ap₂ leb c.requires.number (ap ones (ap₂ bit_and c.requires.collected es))
    ∙ named_ones _ _ _ f
    ∙ by_number _ _ f (omega (arith, number_small t bytes c.args.p, c.requires.number, c.if-number-eq-OTHERWISE.false))
