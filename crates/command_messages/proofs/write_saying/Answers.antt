-- The name of the command, then the words of the refusal.
use Rattle.text.proofs.Adding.{◌then◌}
use Rattle.command_messages.specs.Sayings.{saying}
use Rattle.command_messages.proofs.write_saying.Goals as goal

pub returns-clause-written : goal.returns-clause-written
unfolding saying
returns-clause-written c = c.put.ensures.written then c.write_refusal_line.ensures.written
