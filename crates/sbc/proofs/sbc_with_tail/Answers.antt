-- `sbc_with_tail` meets its contract: it is the answer of `with_tail` as one number, and the bytes are its.
use mathlib.Core.Path.{ap, ◌∙◌}
use Rattle.word.specs.Words.{word_of}
use Rattle.sbc.proofs.sbc_with_tail.Goals as goal

pub returns : goal.returns
returns c =
    record {
      answer = c.word.ensures.answer ∙ ap word_of c.with_tail.ensures.answer;
      written = c.with_tail.ensures.written;
    }
