-- `Plans::count_nodes` meets its contract: the plans that pass the filter are those with children. Assumes nothing.
use Rattle.std.proofs.Common.{ℕ, ◌∙◌, rules, arith}
use mathlib.Core.Bool.{not}
use Rattle.std.proofs.lemmas.Iterator.{YieldsList-from_range}
use Rattle.std.proofs.lemmas.Iterator.Consumers.{count_from_yields_List, YieldsList-from_filter}
use Rattle.rules.specs.WaitFor.{is_leaf}
use Rattle.versions.proofs.Turns.{counted}
use Rattle.versions.proofs.Plans.count_nodes.Goals as goal

pub returns : goal.returns
returns c =
    let t = c.args.self.now.table.now in
    let n = c.args.self.now.n in
    count_from_yields_List c.filter.result _ c.count.ensures.ran
    (YieldsList-from_filter _ (λ (p : ℕ). not (is_leaf t p)) (YieldsList-from_range 0 n n c.filter.ensures.source (omega arith))
    c.filter.ensures.closure (λ x b q k. search rules))
    ∙ counted t n
