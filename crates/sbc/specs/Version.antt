-- The version of the library as one number.
-- In order: version.
-- Assumes nothing.
use Rattle.std.specs.Prelude.{ℕ}

-- version 2.3.0, the first whose jobs may bring weights: 10,000 times the major number, plus 100 times the minor
-- number, plus the patch
abbrev pub version : ℕ
version = 20300
