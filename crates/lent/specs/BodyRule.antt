-- The rule of a plan's body in check 11, by what counts of the lower children. Assumes nothing.
use Rattle.std.specs.Prelude.{Bool, false, not, ◌&&◌, ◌||◌}
use Rattle.rules.specs.States.{is, in_execution}
use Rattle.rules.specs.Table.{is_body}
use Rattle.rules.specs.HandedIn.{lets_later}
use Rattle.rules.specs.declared.Body.{Body}
use Rattle.rules.specs.declared.Body.TheVariants.{
  Leaf,
  Sequential,
  Parallel,
  AnyOrder,
  Unordered,
  OnAbort,
  OnSuspend,
  OnAbortOrSuspend,
  IfThenElse,
}
use Rattle.rules.specs.declared.PlanState.{PlanState}
use Rattle.rules.specs.declared.PlanState.TheVariants.{Inactive}

-- a child keeps a second one from standing as it does: any-order, in execution; if-then-else, other than Inactive. What it says of other
-- bodies is not read
abbrev pub stands_alone : Body → PlanState → Bool
stands_alone body child = in_execution child || is_body IfThenElse body && not (is Inactive child)

-- a child keeps the later ones Inactive. An Inactive one counts whatever the body, so that it is marked without a look at that: of
-- sequential, on abort, on suspend and on abort or suspend it is so, and what it says of the others is not read
abbrev pub shuts : Body → Bool → PlanState → Bool
shuts body again child = is Inactive child || not (lets_later body again child)

-- a child breaks the rule of its parent's body, where some lower child stands alone, or shuts
abbrev pub breaks_by : Body → PlanState → Bool → Bool → Bool
breaks_by Leaf child alone shut = false
breaks_by Sequential child alone shut = not (is Inactive child) && shut
breaks_by Parallel child alone shut = false
breaks_by AnyOrder child alone shut = in_execution child && alone
breaks_by Unordered child alone shut = false
breaks_by OnAbort child alone shut = not (is Inactive child) && shut
breaks_by OnSuspend child alone shut = not (is Inactive child) && shut
breaks_by OnAbortOrSuspend child alone shut = not (is Inactive child) && shut
breaks_by IfThenElse child alone shut = not (is Inactive child) && alone
