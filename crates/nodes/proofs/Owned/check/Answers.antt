-- `Owned::check` meets its contract: each search finds the lowest node or plan that breaks its rule. Assumes nothing.
use Rattle.std.proofs.Common.{sym, ◌∙◌}
use Rattle.rules.proofs.Outcomes.{pass_at, stop_at, pass_at_last, stop_at_last}
use Rattle.lowest.proofs.Lowest.{lowest_is}
use Rattle.nodes.proofs.Owners.{lowest_wait}
use Rattle.nodes.proofs.Owned.check.Goals as goal

pub returns-in-Some : goal.returns-in-Some
returns-in-Some c = sym (stop_at _ _ _ _ (lowest_is _ _ _ c.lowest_bad_rank.ensures ∙ c.in-Some.is))

pub returns-in-Some-lowest_asking : goal.returns-in-Some-lowest_asking
returns-in-Some-lowest_asking c =
    let wait = lowest_is _ _ _ (lowest_wait _ _ _ _ c.args.self.now.nodes.there c.lowest_asking.ensures) in
    sym
    (pass_at _ _ _ (lowest_is _ _ _ c.lowest_bad_rank.ensures ∙ c.in_default.is)
    ∙ stop_at_last _ _ _ (wait ∙ c.in-Some-lowest_asking.is))

pub returns : goal.returns
returns c =
    let wait = lowest_is _ _ _ (lowest_wait _ _ _ _ c.args.self.now.nodes.there c.lowest_asking.ensures) in
    sym
    (pass_at _ _ _ (lowest_is _ _ _ c.lowest_bad_rank.ensures ∙ c.in_default.is)
    ∙ pass_at_last _ _ (wait ∙ c.in_default-lowest_asking.is))
