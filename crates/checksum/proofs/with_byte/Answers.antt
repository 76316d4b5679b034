-- `with_byte` meets its contract.
use Rattle.checksum.specs.Fnv.{step}
use Rattle.checksum.proofs.with_byte.Goals as goal

pub returns : goal.returns
unfolding step
returns c = record { answer = c.times.ensures.answer }
