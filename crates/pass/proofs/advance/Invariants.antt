-- What `advance` keeps: the plans passed have moved, in table order, and nothing behind them is written.
use Rattle.std.proofs.Common.{◌≡◌, take}
use Rattle.rules.specs.Step.{chosen, step_first}
use Rattle.children.specs.Sets.{Beyond}
use Rattle.family.specs.StepFacts.{picks_of}
use Rattle.pass.proofs.advance.Given as goal

abbrev pub invariant-loop-p : goal.invariant-loop-p
invariant-loop-p l =
    record {
      moved :
          take l.p l.new
          ≡ step_first l.scene.rule l.scene.table.now l.scene.old.now l.scene.words.now
          (chosen l.scene.table.now l.scene.old.now (picks_of l.scene.picks.now)) l.p;
      rest : Beyond l.p l.initial.new l.new;
    }
