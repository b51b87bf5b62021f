-- `is_in_order` meets its contract: from the last of the samples that are left on, the minutes rise. Assumes nothing.
use Rattle.std.proofs.Common.{◌≡◌, ◌<◌, ◌≤◌, ◌++◌, ◌∷◌, [], ℕ, suc, false, List, length, length-append, append_assoc, append-nil, get_or, refl, sym, ◌∙◌, ap, arith}
use Rattle.std.proofs.Math.Seq.{get_or-append_seam}
use Rattle.time.specs.Patterns.{every, edge, in_order, minute_at}
use Rattle.time.proofs.Histories.{edge_in, edge_end, goes_up, falls_at, rises_at}
use Rattle.pattern.proofs.History.is_in_order.Goals as goal

-- one turn: x is taken off the end of what is left
module _ (samples rest after left : List ℕ) (x : ℕ) (split : samples ≡ rest ++ after) (step : rest ≡ left ++ x ∷ []) where
  splits : samples ≡ left ++ x ∷ after
  splits = split ∙ ap (λ (l : List ℕ). l ++ after) step ∙ append_assoc left (x ∷ []) after

  here : get_or samples (length left) 0 ≡ x
  here = rw splits (get_or-append_seam left x after 0)

  inside : length left < length samples
  inside = omega (arith, simp length-append at (ap length splits))

  one_less : length rest ≡ suc (length left)
  one_less = omega (arith, simp length-append at (ap length step))

  module _ (asked until : ℕ) (was : until ≡ edge samples asked (length rest)) where
    before : until ≡ edge samples asked (suc (length left))
    before = was ∙ ap (edge samples asked) one_less

    falls : until ≤ minute_at samples (length left) → in_order samples asked ≡ false
    falls l = falls_at samples asked (length left) inside (omega (arith, before))

    rises : minute_at samples (length left) < until → every (goes_up samples asked) (length left) ≡ every (goes_up samples asked) (length rest)
    rises l = sym (rises_at samples asked (length left) inside (omega (arith, before))) ∙ ap (every (goes_up samples asked)) (sym one_less)

pub loop-x-init : goal.loop-x-init
unfolding in_order
loop-x-init c =
    let samples = c.args.self.samples.now in
    let all : c.into_iter-x-iterator.result.iter.rest.now ≡ samples = cc in
    record {
      after = [];
      split = sym (append-nil _ ∙ all);
      until = rw all (sym (edge_end samples c.args.self.asked (length samples) (omega arith)));
      rises = rw all refl;
    }

pub returns-then-until-t : goal.returns-then-until-t
returns-then-until-t c =
    let samples = c.args.self.samples.now in
    let rest = c.loop-x.x-iterator.iter.rest.now in
    let left = c.next.new.self.iter.rest.now in
    let x = c.in-Some.field-0.now in
    let split = c.loop-x.invariant.split in
    let step = c.in-Some.ensures.steps in
    let at : get_or samples (length left) 0 ≡ x = here samples rest c.loop-x.invariant.after left x split step in
    sym (falls samples rest c.loop-x.invariant.after left x split step c.args.self.asked c.loop-x.until c.loop-x.invariant.until (rw at (omega arith)))

pub loop-x-preserved : goal.loop-x-preserved
loop-x-preserved c =
    let samples = c.args.self.samples.now in
    let asked = c.args.self.asked in
    let rest = c.loop-x.x-iterator.iter.rest.now in
    let left = c.next.new.self.iter.rest.now in
    let x = c.in-Some.field-0.now in
    let after = c.loop-x.invariant.after in
    let split = c.loop-x.invariant.split in
    let step = c.in-Some.ensures.steps in
    let at : get_or samples (length left) 0 ≡ x = here samples rest after left x split step in
    record {
      after = x ∷ after;
      split = splits samples rest after left x split step;
      until = rw (c.sample-t.ensures, ← at) (sym (edge_in samples asked (length left) (inside samples rest after left x split step)));
      rises =
          rises samples rest after left x split step asked c.loop-x.until c.loop-x.invariant.until (rw at (omega arith))
          ∙ c.loop-x.invariant.rises;
    }

pub returns : goal.returns
unfolding every
returns c =
    let over : length c.loop-x.x-iterator.iter.rest.now ≡ 0 = c.in-None.ensures.steps.0 in
    rw over at c.loop-x.invariant.rises
