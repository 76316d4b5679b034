-- Loops that put states into the rows of a set of pairs, turn by turn.
-- In order: mark-none, mark-more, mark-row, mark-clean; Left, the same from the last turn to the first, and row-start,
-- row-jump, row_done, row_put, row-skip.
-- Assumes nothing.
use Rattle.std.proofs.Common.{◌≡◌, ◌||◌, ◌+◌, ◌<◌}
use Rattle.laws.proofs.All.{refl, sym, ap, ap₂, ◌∙◌, Bool, false, or-false, or_assoc, List, ℕ}
use Rattle.laws.proofs.All.{length}
use Rattle.table.specs.Marks.{some}
use Rattle.table.proofs.Marks.{none-start, some_more}
use Rattle.bitsets.specs.declared.BitSet.{BitSet}
use Rattle.bitsets.specs.BitSets.{holds, set_at}
use Rattle.table_words.proofs.Backwards.{left-jump, left-more, left-done}
use Rattle.window_pairs.specs.PairSets.{Marked}

-- ---- from the first turn to the last
-- before the first turn
pub mark-none : (A : List BitSet) (hit : ℕ → ℕ → ℕ → Bool) → Marked A hit 0 A
mark-none A hit = record {
  long = refl;
  rows = λ u v h. sym (ap (λ b. holds (set_at A u) v || b) (none-start (hit u v)) ∙ or-false (holds (set_at A u) v));
}

module _ (A : List BitSet) (hit : ℕ → ℕ → ℕ → Bool) (i : ℕ) (R : List BitSet) (m : Marked A hit i R) where
  -- one turn more
  pub mark-more : (R' : List BitSet) → length R' ≡ length R
      → ((u v : ℕ) → u < 128 → holds (set_at R' u) v ≡ (holds (set_at R u) v || hit u v i)) → Marked A hit (i + 1) R'
  mark-more R' l h = record {
    long = l ∙ m.long;
    rows = λ u v k. h u v k ∙ ap (λ b. b || hit u v i) (m.rows u v k)
        ∙ or_assoc (holds (set_at A u) v) (some (hit u v) i) (hit u v i)
        ∙ ap (λ b. holds (set_at A u) v || b) (sym (some_more (hit u v) i));
  }

  -- a turn that marks by a loop of its own
  pub mark-row : (n : ℕ) (row : ℕ → ℕ → ℕ → Bool) (R' : List BitSet) → ((u v : ℕ) → hit u v i ≡ some (row u v) n)
      → Marked R row n R' → Marked A hit (i + 1) R'
  mark-row n row R' e r =
      mark-more R' r.long (λ u v k. r.rows u v k ∙ ap (λ b. holds (set_at R u) v || b) (sym (e u v)))

-- where a row was empty it holds what the turns hit
pub mark-clean : (A : List BitSet) (hit : ℕ → ℕ → ℕ → Bool) (i n : ℕ) (R : List BitSet) → Marked A hit i R → i ≡ n → (u v : ℕ)
    → u < 128 → holds (set_at A u) v ≡ false → holds (set_at R u) v ≡ some (hit u v) n
mark-clean A hit i n R m e u v h z = m.rows u v h ∙ ap₂ (λ b k. b || some (hit u v) k) z e

-- ---- from the last turn to the first: what is left is below c
pub record Left (A : List BitSet) (hit : ℕ → ℕ → ℕ → Bool) (n c : ℕ) (R : List BitSet) : Type 0 where
  pub long : length R ≡ length A
  pub rows : (u v : ℕ) → u < 128
      → (holds (set_at A u) v || some (hit u v) n) ≡ (holds (set_at R u) v || some (hit u v) c)

module _ (A : List BitSet) (hit : ℕ → ℕ → ℕ → Bool) (n : ℕ) where
  -- before the first turn
  pub row-start : Left A hit n n A
  row-start = record { long = refl; rows = λ u v h. refl }

  module _ (c : ℕ) (R : List BitSet) (m : Left A hit n c R) where
    -- no turn between c' and c hits
    pub row-jump : (c' : ℕ) → ((u v : ℕ) → some (hit u v) c ≡ some (hit u v) c') → Left A hit n c' R
    row-jump c' j = record {
      long = m.long;
      rows = λ u v h. left-jump _ (holds (set_at R u) v) (hit u v) c c' (m.rows u v h) (j u v);
    }

    -- no turn is left
    pub row_done : c ≡ 0 → Marked A hit n R
    row_done z = record {
      long = m.long;
      rows = λ u v h. left-done _ (holds (set_at R u) v) (hit u v) c z (m.rows u v h);
    }

  -- the turn i made
  pub row_put : (i : ℕ) (R : List BitSet) → Left A hit n (i + 1) R → (R' : List BitSet) → length R' ≡ length R
      → ((u v : ℕ) → u < 128 → holds (set_at R' u) v ≡ (holds (set_at R u) v || hit u v i)) → Left A hit n i R'
  row_put i R m R' l e = record {
    long = l ∙ m.long;
    rows = λ u v k. left-more _ (holds (set_at R u) v) (hit u v) i (holds (set_at R' u) v) (m.rows u v k) (e u v k);
  }

  -- the turn i hits nothing
  pub row-skip : (i : ℕ) (R : List BitSet) → Left A hit n (i + 1) R → ((u v : ℕ) → hit u v i ≡ false) → Left A hit n i R
  row-skip i R m e =
      row_put i R m R refl
      (λ u v k. sym (ap (λ b. holds (set_at R u) v || b) (e u v) ∙ or-false (holds (set_at R u) v)))
