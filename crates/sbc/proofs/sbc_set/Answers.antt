-- `sbc_set` meets its contract: it is the answer of the set's walk as one number.
use mathlib.Core.Path.{ap, ◌∙◌}
use Rattle.sbc.specs.Words.{set_word_of}
use Rattle.sbc.proofs.sbc_set.Goals as goal

pub returns : goal.returns
returns c = record { answer = c.set_word.ensures.answer ∙ ap set_word_of c.check_set.ensures.answer }
