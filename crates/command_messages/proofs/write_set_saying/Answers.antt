-- The name of the command, the words of the refusal, and the number of the record.
use Rattle.text.proofs.Adding.{◌then◌}
use Rattle.command_messages.specs.Sayings.{set_saying}
use Rattle.command_messages.proofs.write_set_saying.Goals as goal

pub returns-clause-written : goal.returns-clause-written
unfolding set_saying
returns-clause-written c =
    c.put.ensures.written then c.write_refusal.ensures.written then c.write_sentence.ensures.written
