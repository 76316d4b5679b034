-- The file of test vectors: "a stream of cases, one after another, ended by a kind byte 0. Numbers are most significant
-- byte first."
-- In order: Placed, parts in their order; Whole, a case that the file has.
-- Assumes nothing.
use Rattle.std.specs.Prelude.{List, ℕ, ◌≤◌, ◌<◌, length}
use Rattle.cases.specs.declared.Case.{Case}

-- the parts of a case stand in their order, and its room is a number of two bytes
pub record Placed (c : Case) : Type 0 where
  pub room : c.room < 65536
  pub first : c.first ≤ c.behind
  pub behind : c.behind ≤ c.second
  pub second : c.second ≤ c.told
  pub told : c.told ≤ c.output
  pub output : c.output ≤ c.end

-- a case whose parts are all in the file; there are 24 kinds at most, with that of the end
pub record Whole (xs : List ℕ) (c : Case) : Type 0 where
  pub known : c.kind < 24
  pub placed : Placed c
  pub last : c.end ≤ length xs
