-- `rank_children` meets its contract: a turn at plan p adds p to its parent's children. Assumes nothing.
use Rattle.std.proofs.Common.{arith}
use lib.ListN.{length-set}
use lib.Seq.{get_or-set_same}
use Rattle.children.proofs.Kin.{rank_turn, ranked_root, beyond_none}
use Rattle.children.proofs.rank_children.Goals as goal

pub loop-p-init : goal.loop-p-init
loop-p-init c =
    let ranks = c.args.ranks.now in
    let counts = c.args.counts.now in
    record {
      started = omega arith;
      within = omega arith;
      ranks_room = simp length-set (omega arith);
      counts_room = simp length-set (omega arith);
      ranks_rest = beyond_none _ _;
      counts_rest = beyond_none _ _;
      found = ranked_root _ _ _ (get_or-set_same ranks 0 0 0 (omega arith)) (get_or-set_same counts 0 0 0 (omega arith));
    }

pub overflow_add-counts : goal.overflow_add-counts
overflow_add-counts c =
    omega
    (arith, (rank_turn _ _ _ c.requires.rooted _ _ _ _ c.loop-p.invariant c.loop-p-test.true _ c.parent_at-q.ensures).fits)

pub loop-p-preserved : goal.loop-p-preserved
loop-p-preserved c =
    (rank_turn _ _ _ c.requires.rooted _ _ _ _ c.loop-p.invariant c.loop-p-test.true _ c.parent_at-q.ensures).next
