-- `join` meets its contract: the number is small enough, and the value is held.
use Rattle.std.proofs.Common.{rules}
use Rattle.word.proofs.join.Goals as goal

pub returns : goal.returns
returns c = record { answer = search rules }
