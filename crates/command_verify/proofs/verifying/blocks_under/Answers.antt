-- `blocks_under` meets its contract: the words less the lookahead of the code, where the record is accepted.
use Rattle.laws.proofs.All.{◌∙◌}
use Rattle.record_check.specs.Parse.{parse}
use Rattle.command_verify.proofs.Counts.{blocks-read, blocks-bad}
use Rattle.command_verify.proofs.verifying.blocks_under.Goals as goal

pub returns-in-Err : goal.returns-in-Err
returns-in-Err c = record { answer = blocks-bad (parse c.args.bytes.now) c.args.n _ c.in-Err.ensures.answer }

pub returns-in-Ok : goal.returns-in-Ok
returns-in-Ok c =
    record {
      answer = c.saturating_sub.ensures ∙ blocks-read (parse c.args.bytes.now) c.args.n _ c.in-Ok.ensures.answer;
    }
