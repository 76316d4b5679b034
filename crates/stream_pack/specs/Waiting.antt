-- Words put into bytes one by one: the bits that do not fill a byte yet wait for the next word.
-- In order: Waits.
-- Assumes nothing.
use Rattle.std.specs.Prelude.{◌≡◌, List, ◌++◌, ℕ, ◌≤◌, length, take, drop}
use Rattle.bits.specs.Fields.{bits, bits_of}
use Rattle.stream_pack.specs.declared.writing.Waiting.{Waiting}

-- the bits B stand in the bytes `out` before place `at` and, fewer than eight of them, wait; the bytes from there on
-- are those that were lent
pub record Waits (B : List ℕ) (p : Waiting) (lent out : List ℕ) : Type 0 where
  pub inside : p.at ≤ length out
  pub long : length out ≡ length lent
  pub spelled : bits_of (take p.at out) ++ bits p.count p.held ≡ B
  pub behind : drop p.at out ≡ drop p.at lent
