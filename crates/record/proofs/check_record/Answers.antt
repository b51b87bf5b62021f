-- `check_record` meets its contract: the record's form, and then its steps. Assumes nothing.
use Rattle.std.proofs.Common.{sym, ◌∙◌, arith}
use Rattle.rules.proofs.Tree.{passes, tree}
use Rattle.record.proofs.Form.{header_refused, length_refused, form_passes}
use Rattle.record.proofs.check_record.Goals as goal

pub plan_count-n-requires : goal.plan_count-n-requires
plan_count-n-requires c = omega (arith, (passes _ c.requires.table.done).long)

pub returns-then-wrong_header : goal.returns-then-wrong_header
returns-then-wrong_header c =
    let told = sym (c.wrong_header.ensures c.args.table.now c.plan_count-n.ensures) in
    header_refused _ _ _ c.requires.ruled c.requires.table.done (told ∙ c.if-wrong_header.true)

-- there is a plan, so that a step has bytes
pub nonzero_div-steps : goal.nonzero_div-steps
nonzero_div-steps c = omega (arith, c.plan_count-n.ensures, (tree _ (passes _ c.requires.table.done)).some)

pub nonzero_rem-body : goal.nonzero_rem-body
nonzero_rem-body c = omega (arith, c.plan_count-n.ensures, (tree _ (passes _ c.requires.table.done)).some)

pub returns-then-body-size : goal.returns-then-body-size
returns-then-body-size c =
    let told = sym (c.wrong_header.ensures c.args.table.now c.plan_count-n.ensures) in
    length_refused _ _ _ c.requires.ruled c.requires.table.done _ c.plan_count-n.ensures (told ∙ c.if-wrong_header.false) c.if-body-size.true

pub check_steps-requires-clause-sound : goal.check_steps-requires-clause-sound
check_steps-requires-clause-sound c =
    let told = sym (c.wrong_header.ensures c.args.table.now c.plan_count-n.ensures) in
    record {
      done =
          form_passes _ _ _ c.requires.ruled c.requires.table.done _ c.plan_count-n.ensures (told ∙ c.if-wrong_header.false)
          c.if-body-size.false;
      prepared = c.requires.table;
    }
