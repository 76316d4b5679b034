-- The first edge from one set into another by its place, and the readings of a block.
-- In order: reads_at; no-reading, first-reading.
-- Assumes nothing.
use Rattle.std.proofs.Common.{◌≡◌, ◌&&◌, ◌∷◌, ◌+◌, ◌*◌, ◌/◌, ◌%◌, ◌<◌}
use Rattle.laws.proofs.All.{refl, sym, ap, ap₂, ◌∙◌, Bool, true, false, and-false, List, [], ℕ}
use Rattle.laws.proofs.All.{arith, ltb-true, eqb, length, get_or, filter_none, filter-first}
use Rattle.laws.proofs.All.{concat-none, concat-first, member}
use Rattle.table.specs.Rows.{edges, at}
use Rattle.table.specs.Edges.{Arrays, rows_of, places, word_of, next_of, Fits, bears}
use Rattle.table.proofs.Edges.{bears-edge}
use Rattle.table.proofs.RowsOf.{length-rows, row-long, edge-at, place, place-state, place-lt, place-edge, place-next}
use Rattle.bitsets.specs.declared.BitSet.{BitSet}
use Rattle.bitsets.specs.BitSets.{holds, yes_no}
use Rattle.bitsets.proofs.Sets.{yes-member}
use Rattle.codec_steps.specs.StateSets.{enters}
use Rattle.codec_steps.specs.Reading.{readings_of, readings}

-- the edge e has the word w and leads from P into A
abbrev pub reads_at : Arrays → BitSet → BitSet → ℕ → ℕ → Bool
reads_at t P A w e = bears t w e && (holds P (e / 16) && holds A (next_of t e))

-- ---- the readings
module _ (t : Arrays) (g : Fits t) (P A : BitSet) (w : ℕ) where
  abbrev S : List Bool
  S = yes_no t.states P

  abbrev B : List Bool
  B = yes_no t.states A

  move : (a b c : Bool) → (a && (b && c)) ≡ (b && (a && c))
  move true b c = refl
  move false b c = sym (and-false b)

  -- one edge, by its state and its datum
  read_at : (s d : ℕ) → s < t.states → d < t.ways
      → (member S s && enters B w (at (rows_of t) s d)) ≡ reads_at t P A w (s * 16 + d)
  read_at s d hs hd =
      ap (λ x. member S s && enters B w x) (edge-at t s d hs hd)
      ∙ ap₂ (λ x y. x && (eqb (word_of t (s * 16 + d)) w && y)) (yes-member t.states P s hs)
      (yes-member t.states A (next_of t (s * 16 + d)) (place-next t s d g hs hd))
      ∙ move (holds P s) (eqb (word_of t (s * 16 + d)) w) (holds A (next_of t (s * 16 + d)))
      ∙ sym (ap₂ (λ x y. (x && eqb (word_of t (s * 16 + d)) w) && (holds P y && holds A (next_of t (s * 16 + d))))
      (place-edge t s d g hs hd) (place-state t s d g hs hd))

  -- a state none of whose edges pass
  row-none : (s : ℕ) → s < t.states → ((d : ℕ) → d < t.ways → reads_at t P A w (s * 16 + d) ≡ false)
      → readings_of (rows_of t) S w B s ≡ []
  row-none s hs h =
      filter_none (λ d. member S s && enters B w (at (rows_of t) s d)) 0 (length (edges (rows_of t) s))
      (λ d a b. let hd : d < t.ways = omega (arith, row-long t s hs) in read_at s d hs hd ∙ h d hd)

  row_first : (s d : ℕ) → s < t.states → d < t.ways → reads_at t P A w (s * 16 + d) ≡ true
      → ((j : ℕ) → j < d → reads_at t P A w (s * 16 + j) ≡ false)
      → (r : List ℕ) × (readings_of (rows_of t) S w B s ≡ d ∷ r)
  row_first s d hs hd q h =
      filter-first (λ d. member S s && enters B w (at (rows_of t) s d)) 0 (length (edges (rows_of t) s)) d (omega arith)
      (omega (arith, row-long t s hs)) (read_at s d hs hd ∙ q)
      (λ j a b. read_at s j hs (omega arith) ∙ h j b)

  -- where no edge passes, there is no reading
  pub no-reading : ((e : ℕ) → e < places t → reads_at t P A w e ≡ false) → readings (rows_of t) S w B ≡ []
  no-reading h =
      concat-none (readings_of (rows_of t) S w B) 0 (length (rows_of t))
      (λ s a b. let hs : s < t.states = omega (arith, length-rows t) in
      row-none s hs (λ d hd. h (s * 16 + d) (place-lt t s d g hs hd)))

  -- the datum of the first edge that passes is the first reading
  pub first-reading : (e : ℕ) → e < places t → reads_at t P A w e ≡ true
      → ((j : ℕ) → j < e → reads_at t P A w j ≡ false)
      → (d : ℕ) → e % 16 ≡ get_or (readings (rows_of t) S w B) 0 d
  first-reading e b p h d =
      let hs : e / 16 < t.states = omega arith in
      let hd : e % 16 < t.ways = ltb-true _ _ (bears-edge t w e (front (bears t w e) _ p)) in
      let k : e / 16 * 16 + e % 16 ≡ e = place e in
      let (r, z) = row_first (e / 16) (e % 16) hs hd (ap (reads_at t P A w) k ∙ p)
      (λ j l. h (e / 16 * 16 + j) (omega arith)) in
      let (y, x) = concat-first (readings_of (rows_of t) S w B) 0 (length (rows_of t)) (e / 16) (e % 16) r (omega arith)
      (omega (arith, length-rows t)) z
      (λ s u l. row-none s (omega arith) (λ d m. h (s * 16 + d) (omega (arith, g.narrow)))) in
      sym (ap (λ l. get_or l 0 d) x)
    where
      front : (x y : Bool) → (x && y) ≡ true → x ≡ true
      front true y h = refl
      front false y h = h
