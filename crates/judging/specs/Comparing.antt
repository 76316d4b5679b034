-- When a call came out as a case says.
-- In order: Stands, an output at the start of lent bytes; Same; differs.
-- Assumes nothing.
use Rattle.std.specs.Prelude.{◌≡◌, Bool, true, false, List, ℕ, ◌≤◌, ◌<◌, length, get_or}
use Rattle.judging.specs.declared.Told.{Told}

-- the output stands at the start of the lent bytes, and every byte past it is 165, as lent
pub record Stands (out output : List ℕ) : Type 0 where
  pub room : length output ≤ length out
  pub bytes : (k : ℕ) → k < length out → get_or out k 0 ≡ get_or output k 165

-- the call came to this refusal and this value, and left this output
pub record Same (a : Told) (out : List ℕ) (refusal answered : ℕ) (bytes : List ℕ) : Type 0 where
  pub number : a.number ≡ refusal
  pub value : a.value ≡ answered
  pub output : Stands out bytes

-- 1 for a case that does not come out as it says, and 0 for one that does
abbrev pub differs : Bool → ℕ
differs true = 0
differs false = 1
