-- How the code tests that recordings obey the constraint.
-- In order: Reached, the places that recordings reach; Followed, the test; Followable, what the test needs.
-- Assumes nothing.
use Rattle.std.specs.Prelude.{◌≡◌, Bool, false, ℕ, ◌<◌, T, length}
use Rattle.laws.specs.Lists.{range, all}
use Rattle.constraint.specs.Value.{constraint_of}
use Rattle.table.specs.declared.Table.{Table}
use Rattle.table.specs.Formed.{good_next}
use Rattle.table.specs.Value.{Ready}

-- the places that are reached from the start, where the n edges of a place x lead to f x 0, f x 1 and so on
pub data Reached (f : ℕ → ℕ → ℕ) (n start : ℕ) : ℕ → Type 0 where
  origin : Reached f n start start
  carried : (x d y : ℕ) → Reached f n start x → d < n → f x d ≡ y → y < 2048 → Reached f n start y

-- r says whether all places that are reached pass the n tests g x 0, g x 1 and so on
pub record Followed (f : ℕ → ℕ → ℕ) (g : ℕ → ℕ → Bool) (n start : ℕ) (r : Bool) : Type 0 where
  pub passed : T r → (x : ℕ) → Reached f n start x → T (all (g x) (range n))
  pub failed : r ≡ false → (x : ℕ) × Reached f n start x × (all (g x) (range n) ≡ false)

-- a table whose constraint can be followed from its start: no caller can fail it, since it holds of every table whose
-- fields are in range
pub record Followable (t : Table) : Type 0 where
  pub ready : Ready t
  pub nexts : T (all (good_next (length (constraint_of t.constraint))) (constraint_of t.constraint))
  pub begin : t.start < t.constraint.states
