-- `sbc_weave` meets its contract: it is the answer of `weave` as one number, and the bytes are its.
use mathlib.Core.Path.{ap, ◌∙◌}
use Rattle.word.specs.Words.{word_of}
use Rattle.sbc.proofs.sbc_weave.Goals as goal

pub returns : goal.returns
returns c =
    record { answer = c.word.ensures.answer ∙ ap word_of c.weave.ensures.answer; written = c.weave.ensures.written }
