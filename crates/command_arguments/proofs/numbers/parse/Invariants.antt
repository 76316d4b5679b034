-- `parse` meets its contract. The loop's invariant: the digits passed make the number, and the bytes that are left
-- decide.
use Rattle.std.proofs.Common.{◌≡◌, ◌+◌, ◌≤◌}
use Rattle.laws.proofs.All.{drop}
use Rattle.command_arguments.specs.Parsing.{greatest, number_in, parsed}
use Rattle.command_arguments.proofs.numbers.parse.Given as goal

abbrev pub invariant-loop-byte : goal.invariant-loop-byte
invariant-loop-byte l = (l.number ≤ greatest + 1) × (parsed l.text ≡ number_in l.number (drop l.byte-index l.text))
