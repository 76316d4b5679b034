-- `sbc_pack` meets its contract: it is the answer of `pack` as one number, and the bytes are its.
use mathlib.Core.Path.{ap, ◌∙◌}
use Rattle.word.specs.Words.{word_of}
use Rattle.sbc.proofs.sbc_pack.Goals as goal

pub returns : goal.returns
returns c =
    record { answer = c.word.ensures.answer ∙ ap word_of c.pack.ensures.answer; written = c.pack.ensures.written }
