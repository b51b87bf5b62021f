-- `Owned::lowest_asking` meets its contract: the plans that pass the filter are the owners of nodes that ask for too many. Assumes nothing.
use Rattle.std.proofs.Common.{sym, ◌∙◌, subst, rules, arith}
use Rattle.std.proofs.lemmas.Iterator.{YieldsList-from_range}
use Rattle.std.proofs.lemmas.Iterator.Adapters.{option_map_id}
use Rattle.std.proofs.lemmas.Iterator.Consumers.{min_from_yields_List, YieldsList-from_filter_map}
use Rattle.lowest.specs.Lowest.{Lowest}
use Rattle.nodes.specs.Checking.{asking, asking_plan}
use Rattle.nodes.proofs.Owners.{asked_by}
use Rattle.nodes.proofs.Owned.lowest_asking.Goals as goal

pub returns : goal.returns
returns c =
    let here = c.args.self.now in
    let t = here.nodes.table.now in
    let k = here.nodes.k in
    subst (Lowest (asking t k) here.nodes.n)
    (sym
    (sym (option_map_id c.min.result)
    ∙ min_from_yields_List _ _ c.min.ensures.ran
    (YieldsList-from_filter_map _ (asking_plan t) (YieldsList-from_range 0 k k c.filter_map.ensures.source (omega arith))
    c.filter_map.ensures.closure (λ x r q d. search rules))))
    (asked_by t here.nodes.n k here.nodes.there here.owners.now here.owned)
