-- `advance` meets its contract: plans move in table order, each after its parent. Assumes nothing.
use Rattle.std.proofs.Common.{◌≡◌, sym, ap, ◌∙◌, ℕ, ◌<◌, length, take, arith}
use Rattle.rules.specs.States.{code}
use Rattle.rules.specs.Table.{plan_count}
use Rattle.rules.specs.Step.{chosen, step_first}
use Rattle.family.specs.StepFacts.{picks_of}
use Rattle.pass.proofs.Turns.{none_moved, one_more_moved, all_moved, none_written, one_more_written}
use Rattle.pass.proofs.advance.Goals as goal

pub loop-p-init : goal.loop-p-init
loop-p-init c = record { moved = none_moved _ _ _ _ _ c.args.new.now; rest = none_written c.args.new.now }

pub loop-p-preserved : goal.loop-p-preserved
loop-p-preserved c =
    let at = c.loop-p in
    let inside : at.p < plan_count c.args.scene.now.table.now = omega (arith, c.requires.room.0, c.loop-p-test.true) in
    let placed : at.p < length at.new = omega (arith, c.requires.room.1, at.invariant.rest.long, c.loop-p-test.true) in
    record {
      moved =
          one_more_moved _ _ _ _ _ at.new at.p _ (λ h. c.requires.facts.down at.p h inside) placed
          (c.from.ensures ∙ ap code c.next_state.ensures) at.invariant.moved;
      rest = one_more_written _ at.new at.p _ at.invariant.rest;
    }

pub returns-clause-moved : goal.returns-clause-moved
returns-clause-moved c =
    let scene = c.args.scene.now in
    let t = scene.table.now in
    let s = scene.old.now in
    let w = scene.words.now in
    let picks : ℕ → ℕ = picks_of scene.picks.now in
    let at = c.loop-p in
    let end : at.p ≡ scene.n = omega (arith, at.auto.p-end, c.loop-p-test.false) in
    ap (λ (k : ℕ). take k at.new) (sym end)
    ∙ at.invariant.moved
    ∙ ap (λ (k : ℕ). step_first scene.rule t s w (chosen t s picks) k) (end ∙ c.requires.room.0)
    ∙ all_moved scene.rule t s w picks
