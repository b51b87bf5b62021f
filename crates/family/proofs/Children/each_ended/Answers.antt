-- `each_ended` meets its contract: no child is in a state that is not ended. Assumes nothing.
use Rattle.family.proofs.ChildWords.{ended_is}
use Rattle.family.proofs.Children.each_ended.Goals as goal

pub returns : goal.returns
returns c t s known = ended_is (c.not_ended.ensures t s known)
