-- `bits::power` meets its contract: 1 shifted by fewer than 64 places does not wrap.
use Rattle.laws.proofs.All.{arith}
use Rattle.bits.proofs.Bytes.{one_shl}
use Rattle.bits.proofs.power.Goals as goal

pub returns : goal.returns
returns c = record { answer = one_shl c.args.k (omega arith) }
