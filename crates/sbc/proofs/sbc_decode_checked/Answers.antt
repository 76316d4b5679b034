-- `sbc_decode_checked` meets its contract: it is the answer of `decode_checked` as one number, and the bytes are its.
use mathlib.Core.Path.{ap, ◌∙◌}
use Rattle.word.specs.Words.{word_of}
use Rattle.sbc.proofs.sbc_decode_checked.Goals as goal

pub returns : goal.returns
returns c =
    record {
      answer = c.word.ensures.answer ∙ ap word_of c.decode_checked.ensures.answer;
      written = c.decode_checked.ensures.written;
    }
