-- The next state for bit 0 is put, then that for bit 1.
use Rattle.text.proofs.Adding.{◌then◌}
use Rattle.view_show.specs.Limits.{state_line}
use Rattle.view_show.proofs.limits.write_state.Goals as goal

pub returns-clause-written : goal.returns-clause-written
unfolding state_line
returns-clause-written c = c.write_either.ensures.written then c.write_either-2.ensures.written
