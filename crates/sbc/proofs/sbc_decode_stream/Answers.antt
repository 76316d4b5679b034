-- `sbc_decode_stream` meets its contract: it is the answer of `decode_stream` as one number, and the bytes are its.
use mathlib.Core.Path.{ap, ◌∙◌}
use Rattle.word.specs.Words.{word_of}
use Rattle.sbc.proofs.sbc_decode_stream.Goals as goal

pub returns : goal.returns
returns c =
    record {
      answer = c.word.ensures.answer ∙ ap word_of c.decode_stream.ensures.answer;
      written = c.decode_stream.ensures.written;
    }
