-- `none` meets its contract.
use Rattle.bitsets.proofs.Digits.{zero_bit}
use Rattle.bitsets.proofs.BitSet.none.Goals as goal

pub returns : goal.returns
returns c = record { answer = λ i. zero_bit i }
