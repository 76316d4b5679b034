-- State 0 and all words below m, otherwise all states and the last m words.
use Rattle.codec_block.proofs.Windowed.{past-set}
use Rattle.codec_block.proofs.shorter.past_shorter.Goals as goal

pub returns : goal.returns
returns c =
    record {
      answer = λ t g.
          let a = c.args in
          past-set t g.fits a.m 0 a.words.now a.i c.past_start.result _ c.past_start.ensures.answer.0
          c.past_start.ensures.answer.1 c.saturating_sub.ensures _ (c.step_all_shorter.ensures.answer t g);
    }
