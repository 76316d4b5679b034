-- `add` meets its contract. The loop's invariant: the checksum of the bytes left, begun with the present one, is the
-- checksum of all.
use Rattle.std.proofs.Common.{◌≡◌, drop}
use Rattle.checksum.specs.Fnv.{sum}
use Rattle.checksum.proofs.add.Given as goal

abbrev pub invariant-loop-byte : goal.invariant-loop-byte
invariant-loop-byte l = sum l.sum (drop l.byte-index l.bytes) ≡ sum l.x l.bytes
