-- What a job's bytes must meet, as sentences with the documents' numbers.
-- In order: Ranged; Few; Nexts.
-- Assumes nothing.
use Rattle.std.specs.Prelude.{◌≡◌, ◌⊎◌, List, ℕ, ◌*◌, ◌≤◌, ◌<◌, get_or}

-- "p (1 to 4), q (1 to 8), cap (1 to 16)"
abbrev pub Ranged : ℕ → ℕ → ℕ → Type 0
Ranged p q cap = (1 ≤ p) × (p ≤ 4) × (1 ≤ q) × (q ≤ 8) × (1 ≤ cap) × (cap ≤ 16)

-- "K states, 1 to 16"
abbrev pub Few : ℕ → Type 0
Few K = (1 ≤ K) × (K ≤ 16)

-- "two bytes a state, the next states for 0 and 1, with 255 for none": each of the first 2K bytes is a state or 255
abbrev pub Nexts : ℕ → List ℕ → Type 0
Nexts K ys = (i : ℕ) → i < 2 * K → (get_or ys i 0 < K) ⊎ (get_or ys i 0 ≡ 255)
