-- Laws of the places of records in a set.
-- In order: place-whole, place-cut, place→, nowhere→; offset-grows; record-none, record-empty, record-at,
-- record-cut, record-next.
-- Assumes nothing.
use Rattle.std.proofs.Common.{◌≡◌, ◌∷◌, ◌+◌, ◌≤◌, ◌<◌, if◌then◌else◌}
use Rattle.laws.proofs.All.{refl, sym, ap, subst, ◌∙◌, Bool, true, false, List, [], ℕ, zero, suc}
use Rattle.laws.proofs.All.{arith, le-leb, lt-leb, leb-true, leb-false, lt-ltb, le-ltb, eqb-true}
use Rattle.laws.proofs.All.{eqb-false, leb, eqb, length, get_or, never}
use Rattle.std.proofs.Common.{None}
use Rattle.std.proofs.lemmas.Option.{same_Some}
use Rattle.set_places.specs.declared.Place.{Place}
use Rattle.set_places.specs.Offsets.{length_at, end_at, found, place_at, offset_of, record_place}

-- a record whose bytes are all there
pub place-whole : (s : List ℕ) (at : ℕ) → end_at s at ≤ length s → place_at s at ≡ found (at + 2) (length_at s at)
place-whole s at h =
    ap (λ b. if b then found (at + 2) (length_at s at) else None) (le-leb (end_at s at) (length s) h)

-- a record that is cut off
pub place-cut : (s : List ℕ) (at : ℕ) → length s < end_at s at → place_at s at ≡ None
place-cut s at h =
    ap (λ b. if b then found (at + 2) (length_at s at) else None) (lt-leb (end_at s at) (length s) h)

pub place→ : (s : List ℕ) (at start len : ℕ) → place_at s at ≡ found start len
    → (start ≡ at + 2) × (len ≡ length_at s at) × (end_at s at ≤ length s)
place→ s at start len e = go (leb (end_at s at) (length s)) refl e
  where
    go : (b : Bool) → leb (end_at s at) (length s) ≡ b
        → (if b then found (at + 2) (length_at s at) else None) ≡ found start len
        → (start ≡ at + 2) × (len ≡ length_at s at) × (end_at s at ≤ length s)
    go true p e =
        let q = same_Some _ _ e in
        (sym (ap (λ (p : Place). p.start) q), sym (ap (λ (p : Place). p.len) q), leb-true (end_at s at) (length s) p)
    go false p e = never (cc)

pub nowhere→ : (s : List ℕ) (at : ℕ) → place_at s at ≡ None → length s < end_at s at
nowhere→ s at e = go (leb (end_at s at) (length s)) refl e
  where
    go : (b : Bool) → leb (end_at s at) (length s) ≡ b
        → (if b then found (at + 2) (length_at s at) else None) ≡ None → length s < end_at s at
    go true p e = never (cc)
    go false p e = leb-false (end_at s at) (length s) p

-- a record after another stands further on
pub offset-grows : (s : List ℕ) (i k : ℕ) → i ≤ k → offset_of s i ≤ offset_of s k
offset-grows s i zero h = let e : i ≡ 0 = omega arith in subst (λ j. offset_of s j ≤ 1) (sym e) (omega arith)
offset-grows s i (suc k) h = go (eqb i (suc k)) refl (offset-grows s i k)
  where
    go : (b : Bool) → eqb i (suc k) ≡ b → (i ≤ k → offset_of s i ≤ offset_of s k) → offset_of s i ≤ offset_of s (suc k)
    go true p f = subst (λ j. offset_of s i ≤ offset_of s j) (eqb-true i (suc k) p) (omega arith)
    go false p f =
        let l : i ≤ k = omega (arith, eqb-false i (suc k) p) in
        omega (arith, f l)

-- ---- the place of record i
pub record-none : (s : List ℕ) (i : ℕ) → get_or s 0 0 ≤ i → record_place s i ≡ None
unfolding record_place
record-none s i h =
    ap (λ b. if b then place_at s (offset_of s i) else None) (le-ltb i (get_or s 0 0) h)

pub record-empty : (s : List ℕ) (i : ℕ) → length s ≡ 0 → record_place s i ≡ None
record-empty [] i h = record-none [] i (omega arith)
record-empty (x ∷ xs) i h = absurd (omega arith)

pub record-at : (s : List ℕ) (i : ℕ) → i < get_or s 0 0 → record_place s i ≡ place_at s (offset_of s i)
unfolding record_place
record-at s i h =
    ap (λ b. if b then place_at s (offset_of s i) else None) (lt-ltb i (get_or s 0 0) h)

-- after a record that is cut off there is none
pub record-cut : (s : List ℕ) (k i : ℕ) → k < i → i < get_or s 0 0 → place_at s (offset_of s k) ≡ None
    → record_place s i ≡ None
record-cut s k i h b e =
    let g = offset-grows s (suc k) i h in
    record-at s i b ∙ place-cut s (offset_of s i) (omega (arith, nowhere→ s (offset_of s k) e))

-- the record after record k
pub record-next : (s : List ℕ) (k start len : ℕ) → place_at s (offset_of s k) ≡ found start len
    → (start + len ≡ offset_of s (k + 1)) × (start + len ≤ length s)
record-next s k start len e =
    let (a, b, h) = place→ s (offset_of s k) start len e in
    let one : suc k ≡ k + 1 = omega arith in
    let q : start + len ≡ offset_of s (suc k) = omega arith in
    (q ∙ ap (offset_of s) one, omega arith)
