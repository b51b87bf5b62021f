-- One answer: any two that the contract of a public function permits are equal, function by function, the contract being as Rattle reads
-- it: `Post κs a z e`, of the lifetimes, the arguments, the answer and the parameters at exit, arguments and parameters in the order of
-- the declaration. So is what the three buffers of `read_table` hold of the plans of a table that passes; past these, and of a refused
-- table, it leaves them open (docs/DECISIONS.md). Assumes nothing.
use Prim.Native.Nat.{ℕ, ◌+◌, ◌<◌}
use mathlib.Core.Path.{◌≡◌, ◌∙◌}
use mathlib.Core.List.{List}
use lib.ListN.{get_or}
use contract.Lifetimes.{Lfts}
use Rattle.rules.specs.Table.{plan_count}
use Rattle.rules.specs.Answers.{table_check, Outcome, Done}
use Rattle.rules.proofs.Unique.{one_answer, OneAnswer, by_equation}
use Rattle.children.proofs.Unique.{Alike}
use Rattle.table.specs.Facts.{Facts}
use Rattle.table.proofs.has_mark.Reads as has_mark
use Rattle.table.proofs.header_check.Reads as header_check
use Rattle.table.proofs.table_size.Reads as table_size
use Rattle.table.proofs.read_table.Reads as read_table
use Rattle.table.proofs.check_table.Reads as check_table
use Rattle.table.proofs.sub_tree.Reads as sub_tree

-- the functions that are lent nothing to write
pub checks_once :
    OneAnswer has_mark.Post × OneAnswer header_check.Post × OneAnswer table_size.Post × OneAnswer check_table.Post
checks_once = (by_equation, by_equation, by_equation, by_equation)

-- of the part that is handed back, its bytes
pub sub_tree_once :
    (κs : Lfts 2) (a : _) (z z' : _) (e e' : _) → sub_tree.Post κs a z e → sub_tree.Post κs a z' e' → z.now ≡ z'.now
sub_tree_once κs a z z' e e' h h' = one_answer h h'

-- three buffers, and three others that hold the same of the plans of a table
pub record SameFacts (t ranks counts names ranks' counts' names' : List ℕ) : Type 0 where
  pub ranked : Alike (plan_count t) ranks ranks'
  pub counted : Alike (plan_count t) counts counts'
  pub collected : Alike (plan_count t) names names'
  pub numbers : (q : ℕ) → q < plan_count t → get_or names (plan_count t + q) 0 ≡ get_or names' (plan_count t + q) 0

module _ (t ranks counts names ranks' counts' names' : List ℕ) where
  -- the facts of a table are one
  pub facts_once :
      Facts t ranks counts names → Facts t ranks' counts' names' → SameFacts t ranks counts names ranks' counts' names'
  facts_once h h' =
      record {
        ranked = λ p l. one_answer (h.ranked p l) (h'.ranked p l);
        counted = λ q l. one_answer (h.counted q l) (h'.counted q l);
        collected = λ q l. one_answer (h.collected q l) (h'.collected q l);
        numbers = λ q l. one_answer (h.numbers q l) (h'.numbers q l);
      }

pub read_table_once : OneAnswer read_table.Post
read_table_once = record { once = λ κs a z z' e e' h h'. one_answer h.is h'.is }

-- `read_table`: of a table that passes, what it leaves in the buffers is one
pub read_table_facts_once :
    (κs : Lfts 4) (a : _) (z z' : Outcome) (e e' : _) → read_table.Post κs a z e → read_table.Post κs a z' e'
    → let t = a.0.now in table_check t ≡ Done
    → SameFacts t e.1.0.now e.1.1.0.now e.1.1.1.0.now
    e'.1.0.now e'.1.1.0.now e'.1.1.1.0.now
read_table_facts_once κs a z z' e e' h h' d = facts_once _ _ _ _ _ _ _ (h.facts (h.is ∙ d)) (h'.facts (h'.is ∙ d))
