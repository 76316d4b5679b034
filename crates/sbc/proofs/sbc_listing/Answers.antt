-- `sbc_listing` meets its contract: it is the answer of the call below it as one number, and the bytes are its.
use mathlib.Core.Path.{ap, ◌∙◌}
use Rattle.word.specs.Words.{word_of}
use Rattle.sbc.proofs.sbc_listing.Goals as goal

pub returns : goal.returns
returns c =
    record {
      answer = c.word.ensures.answer ∙ ap word_of c.list_run_length.ensures.answer;
      written = c.list_run_length.ensures.written;
    }
