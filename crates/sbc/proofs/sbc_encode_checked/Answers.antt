-- `sbc_encode_checked` meets its contract: it is the answer of `encode_checked` as one number, and the bytes are its.
use mathlib.Core.Path.{ap, ◌∙◌}
use Rattle.word.specs.Words.{word_of}
use Rattle.sbc.proofs.sbc_encode_checked.Goals as goal

pub returns : goal.returns
returns c =
    record {
      answer = c.word.ensures.answer ∙ ap word_of c.encode_checked.ensures.answer;
      written = c.encode_checked.ensures.written;
    }
