-- `sbc_phrase` meets its contract: it is the answer of `phrase` as one number, and the bytes are its.
use mathlib.Core.Path.{ap, ◌∙◌}
use Rattle.word.specs.Words.{word_of}
use Rattle.sbc.proofs.sbc_phrase.Goals as goal

pub returns : goal.returns
returns c =
    record { answer = c.word.ensures.answer ∙ ap word_of c.phrase.ensures.answer; written = c.phrase.ensures.written }
