-- `sbc_unpack` meets its contract: it is the answer of `unpack` as one number, and the bytes are its.
use mathlib.Core.Path.{ap, ◌∙◌}
use Rattle.word.specs.Words.{word_of}
use Rattle.sbc.proofs.sbc_unpack.Goals as goal

pub returns : goal.returns
returns c =
    record { answer = c.word.ensures.answer ∙ ap word_of c.unpack.ensures.answer; written = c.unpack.ensures.written }
