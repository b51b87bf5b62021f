-- `collect_named` meets its contract: a turn at plan p adds p's bit to its parent's word. Assumes nothing.
use Rattle.std.proofs.Common.{◌≡◌, Bool, true, false, refl, ap, ◌∙◌, arith}
use lib.ListN.{length-set}
use lib.Seq.{get_or-set_same}
use Rattle.std.specs.Int.{from_bool}
use Rattle.rules.proofs.Digits.{bit}
use Rattle.rules.specs.Table.{named}
use Rattle.children.proofs.Kin.{shifted, collect_turn, collected_root, beyond_none}
use Rattle.children.proofs.collect_named.Goals as goal

-- a truth as a number is its bit
told_bit : (b : Bool) → from_bool b ≡ bit b
told_bit true = refl
told_bit false = refl

pub loop-p-init : goal.loop-p-init
loop-p-init c =
    let words = c.args.words.now in
    record {
      started = omega arith;
      within = omega arith;
      room = simp length-set (omega arith);
      rest = beyond_none _ _;
      found = collected_root _ _ _ (get_or-set_same words 0 0 0 (omega arith));
    }

pub overflow_add-words : goal.overflow_add-words
overflow_add-words c =
    let flag = c.is_named.ensures ∙ ap named c.entry_at.ensures in
    let bit = shifted _ _ _ _ (c.from.ensures ∙ told_bit c.is_named.result ∙ ap bit flag) (c.requires.narrow.ranked _ c.loop-p-test.true) (c.requires.narrow.narrow _ c.loop-p-test.true) in
    record {
      fits = (collect_turn _ _ _ c.requires.rooted _ _ _ c.loop-p.invariant c.loop-p-test.true (c.requires.narrow.narrow _ c.loop-p-test.true) _ _ c.parent_at-q.ensures bit).fits;
    }

pub loop-p-preserved : goal.loop-p-preserved
loop-p-preserved c =
    let flag = c.is_named.ensures ∙ ap named c.entry_at.ensures in
    let bit = shifted _ _ _ _ (c.from.ensures ∙ told_bit c.is_named.result ∙ ap bit flag) (c.requires.narrow.ranked _ c.loop-p-test.true) (c.requires.narrow.narrow _ c.loop-p-test.true) in
    (collect_turn _ _ _ c.requires.rooted _ _ _ c.loop-p.invariant c.loop-p-test.true (c.requires.narrow.narrow _ c.loop-p-test.true) _ _ c.parent_at-q.ensures bit).next
