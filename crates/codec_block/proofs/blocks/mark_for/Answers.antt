-- A group of a state of the past set has the word, or none does.
use Rattle.laws.proofs.All.{true, false, arith}
use Rattle.codec_block.proofs.GroupMarks.{mark-is}
use Rattle.codec_block.proofs.blocks.mark_for.Goals as goal

pub returns-then-has_word : goal.returns-then-has_word
returns-then-has_word c =
    let g = c.args.groups.now in
    record {
      answer = λ t h.
          mark-is t g.start.now g.first.now g.sets.now h c.args.past c.args.w (omega arith) true c.has_word.result
          c.has_word.ensures.answer c.if-has_word.true;
    }

pub returns-else-has_word : goal.returns-else-has_word
returns-else-has_word c =
    let g = c.args.groups.now in
    record {
      answer = λ t h.
          mark-is t g.start.now g.first.now g.sets.now h c.args.past c.args.w (omega arith) false c.has_word.result
          c.has_word.ensures.answer c.if-has_word.false;
    }
