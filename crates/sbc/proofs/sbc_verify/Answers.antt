-- `sbc_verify` meets its contract: it is the answer of `verify` as one number.
use mathlib.Core.Path.{ap, ◌∙◌}
use Rattle.word.specs.Words.{word_of}
use Rattle.sbc.proofs.sbc_verify.Goals as goal

pub returns : goal.returns
returns c = record { answer = c.word.ensures.answer ∙ ap word_of c.verify.ensures.answer }
