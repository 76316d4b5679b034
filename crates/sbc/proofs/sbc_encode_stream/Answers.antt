-- `sbc_encode_stream` meets its contract: it is the answer of `encode_stream` as one number, and the bytes are its.
use mathlib.Core.Path.{ap, ◌∙◌}
use Rattle.word.specs.Words.{word_of}
use Rattle.sbc.proofs.sbc_encode_stream.Goals as goal

pub returns : goal.returns
returns c =
    record {
      answer = c.word.ensures.answer ∙ ap word_of c.encode_stream.ensures.answer;
      written = c.encode_stream.ensures.written;
    }
