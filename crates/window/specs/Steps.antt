-- What the search for a window keeps while it steps sets of pairs.
-- In order: size; with_word, one word of memory more; steps_of; Emptied, the number of steps until a set is empty;
-- Leading, the best window so far; Room.
-- Assumes nothing.
use Rattle.std.specs.Prelude.{Option, Some, None, ◌≡◌, true, false, ◌⊎◌, ℕ, ◌+◌, ◌≤◌, ◌<◌, T}
use Rattle.laws.specs.Lists.{iterate}
use Rattle.laws.specs.Sets.{Pairs}
use Rattle.table.specs.Rows.{Rows, Size}
use Rattle.window.specs.Works.{into, reversed, start_pair, works}
use Rattle.window.specs.Window.{NoLater}
use Rattle.window.specs.Search.{no_size, union, empty}

-- memory m and lookahead a
abbrev pub size : ℕ → ℕ → Size
size m a = record { memory = m; lookahead = a }

-- the pairs that one common word leads to from P, and that of the start with itself: from the pairs whose next edges
-- must agree under one memory, those under the next
abbrev pub with_word : Rows → Pairs → Pairs
with_word t P = union t (into (reversed t) P) (start_pair t)

-- the number of steps that an answer names, or one more than `most` where it names none
abbrev pub steps_of : ℕ → Option ℕ → ℕ
steps_of most None = most + 1
steps_of most (Some k) = k

-- after r steps forward, and not before, no pair of H is left; where r is over `most`, one is left after `most` steps
pub record Emptied (t : Rows) (H : Pairs) (most r : ℕ) : Type 0 where
  pub within : r ≤ most + 1
  pub sooner : (k : ℕ) → k < r → empty t (iterate (into (reversed t)) k H) ≡ false
  pub there : r ≤ most → empty t (iterate (into (reversed t)) r H) ≡ true

-- z is the best of the working windows with memory below m, or the mark where there is none
pub record Leading (t : Rows) (m : ℕ) (z : Size) : Type 0 where
  pub better : (w : Size) → w.memory < m → w.lookahead < 16 → T (works t w) → NoLater z w
  pub known : (z ≡ no_size) ⊎ ((z.memory < m) × (z.lookahead < 16) × T (works t z))

-- r is the most lookahead with which memory m can be better than b
pub record Room (b : Size) (m r : ℕ) : Type 0 where
  pub small : r ≤ 15
  pub fits : m + r ≤ b.memory + b.lookahead
  pub most : (r ≡ 15) ⊎ (m + r ≡ b.memory + b.lookahead)
