-- One answer: any two that the contract of a public function permits are equal, the contract being as Rattle reads it. Assumes nothing.
use Rattle.rules.proofs.Unique.{OneAnswer, by_equation}
use Rattle.reading.proofs.entry_at.Reads as entry_at
use Rattle.reading.proofs.is_leaf.Reads as is_leaf
use Rattle.reading.proofs.parent_at.Reads as parent_at
use Rattle.reading.proofs.word_at.Reads as word_at
use Rattle.reading.proofs.is_first_version.Reads as is_first_version
use Rattle.reading.proofs.plan_count.Reads as plan_count
use Rattle.reading.proofs.node_count.Reads as node_count
use Rattle.reading.proofs.node_at.Reads as node_at
use Rattle.reading.proofs.u16_at.Reads as u16_at
use Rattle.reading.proofs.u32_at.Reads as u32_at
use Rattle.reading.proofs.byte_at.Reads as byte_at
use Rattle.reading.proofs.u16_within.Reads as u16_within

-- every function of this crate
pub reading_once :
    OneAnswer entry_at.Post
    × OneAnswer is_leaf.Post
    × OneAnswer parent_at.Post
    × OneAnswer word_at.Post
    × OneAnswer is_first_version.Post
    × OneAnswer plan_count.Post
    × OneAnswer node_count.Post
    × OneAnswer node_at.Post
    × OneAnswer u16_at.Post
    × OneAnswer u32_at.Post
    × OneAnswer byte_at.Post
    × OneAnswer u16_within.Post
reading_once = (
  by_equation,
  by_equation,
  by_equation,
  by_equation,
  by_equation,
  by_equation,
  by_equation,
  by_equation,
  by_equation,
  by_equation,
  by_equation,
  by_equation,
)
