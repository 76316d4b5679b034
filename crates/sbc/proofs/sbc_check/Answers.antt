-- `sbc_check` meets its contract: it is the checker's answer as one number.
use mathlib.Core.Path.{ap, ◌∙◌}
use Rattle.word.specs.Words.{word_of}
use Rattle.sbc.proofs.sbc_check.Goals as goal

pub returns : goal.returns
returns c = record { answer = c.word.ensures.answer ∙ ap word_of c.check.ensures.answer }
