-- `sbc_compile` meets its contract: it is the answer of the call below it as one number, and the bytes are its.
use mathlib.Core.Path.{ap, ◌∙◌}
use Rattle.word.specs.Words.{word_of}
use Rattle.sbc.proofs.sbc_compile.Goals as goal

pub returns : goal.returns
returns c =
    record {
      answer = c.word.ensures.answer ∙ ap word_of c.compile_job.ensures.answer;
      written = c.compile_job.ensures.written;
    }
