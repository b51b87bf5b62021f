-- `wrong_word` meets its contract: the plan's body says which bits are unused and which picks are allowed. Assumes nothing.
use Rattle.rules.specs.Table.{body_of}
use Rattle.rules.specs.Words.{pick_of, pick_allowed}
use Rattle.rules.specs.Answers.{wrong_word}
use Rattle.lent.proofs.WordBits.{wrong_is}
use Rattle.lent.proofs.wrong_word.Goals as goal

pub returns : goal.returns
unfolding wrong_word
returns c =
    let body = body_of c.args.e in
    simp (
      c.wrong_word_if.ensures,
      c.may_pick.ensures,
      c.unused_bits.ensures,
      c.body_kind-body.ensures,
      c.pick_of.ensures.is,
    )
    (wrong_is c.args.x body (pick_allowed body c.args.count (pick_of c.args.x)))
