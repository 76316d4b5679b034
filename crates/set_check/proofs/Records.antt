-- The places of the records of a good set: record i stands where `record_place` says, and its bytes hold code i.
-- In order: Holds; good-places.
-- Assumes nothing.
use Rattle.std.proofs.Common.{◌≡◌, ◌∷◌, ◌+◌, ◌<◌}
use Rattle.laws.proofs.All.{refl, sym, ap, subst, ◌∙◌, Bool, true, false, List, [], ℕ, zero, suc}
use Rattle.laws.proofs.All.{arith, leb-true, leb-false, leb, length, get_or, take, drop, never}
use Rattle.answer.specs.declared.Refusal.TheVariants.{Length}
use Rattle.answer.specs.Outcomes.{done}
use Rattle.table.specs.Rows.{Code}
use Rattle.record_check.specs.Parse.{parse}
use Rattle.set_places.specs.Offsets.{found, length_at, end_at, place_at, offset_of, record_place}
use Rattle.set_places.proofs.Offsets.{place-whole, record-at}
use Rattle.set_check.specs.Sets.{codes, stopped, walked, read_set}
use Rattle.set_check.proofs.Sets.{next→}
use Rattle.set_check.proofs.Walks.{walk-cut, walk-whole}

-- the bytes at a place hold the code c
abbrev pub Holds : List ℕ → ℕ → ℕ → Code → Type 0
Holds s start len c = parse (take len (drop start s)) ≡ done c

-- the record at an offset is all there and holds the code c
abbrev Stands : List ℕ → ℕ → Code → Type 0
Stands s at c = (place_at s at ≡ found (at + 2) (length_at s at)) × Holds s (at + 2) (length_at s at) c

-- n records from number i on, with their codes
abbrev Stood : List ℕ → ℕ → ℕ → List Code → Type 0
Stood s i n cs =
    (length cs ≡ n) × ((k : ℕ) (d : Code) → k < n → Stands s (offset_of s (i + k)) (get_or cs k d))

none : (s : List ℕ) (i : ℕ) (xs : List ℕ) (cs : List Code) → walked 0 i xs ≡ codes cs → Stood s i 0 cs
none s i [] cs e =
    let q : [] ≡ cs = cc in subst (Stood s i 0) q (refl, λ k d h. absurd (omega arith))
none s i (x ∷ xs) cs e = never (cc)

more : (s : List ℕ) (i n : ℕ) (c : Code) (ds : List Code) → Stands s (offset_of s i) c → Stood s (suc i) n ds
    → (k : ℕ) (d : Code) → k < suc n → Stands s (offset_of s (i + k)) (get_or (c ∷ ds) k d)
more s i n c ds a (l, f) zero d h =
    let e : i ≡ i + 0 = omega arith in subst (λ j. Stands s (offset_of s j) c) e a
more s i n c ds a (l, f) (suc k) d h =
    let e : suc i + k ≡ i + suc k = omega arith in
    subst (λ j. Stands s (offset_of s j) (get_or ds k d)) e (f k d (omega arith))

walked-places : (s : List ℕ) (n i : ℕ) (cs : List Code) → walked n i (drop (offset_of s i) s) ≡ codes cs
    → Stood s i n cs
walked-places s zero i cs e = none s i (drop (offset_of s i) s) cs e
walked-places s (suc n) i cs e =
    go (leb (end_at s (offset_of s i)) (length s)) refl (λ ds q. walked-places s n (suc i) ds q)
  where
    at : ℕ
    at = offset_of s i

    go : (b : Bool) → leb (end_at s at) (length s) ≡ b
        → ((ds : List Code) → walked n (suc i) (drop (end_at s at) s) ≡ codes ds → Stood s (suc i) n ds)
        → Stood s i (suc n) cs
    go false p f =
        let q : stopped i Length ≡ codes cs = sym (walk-cut n i s at (leb-false (end_at s at) (length s) p)) ∙ e in
        never (cc)
    go true p f =
        let h = leb-true (end_at s at) (length s) p in
        let xs = take (length_at s at) (drop (at + 2) s) in
        let w = walked n (suc i) (drop (end_at s at) s) in
        let (c, ds, q, r, u) = next→ i (parse xs) w cs (sym (walk-whole n i s at h) ∙ e) in
        let m = f ds r in
        let a : Stands s at c = (place-whole s at h, q) in
        let v : Stood s i (suc n) (c ∷ ds) = (ap suc m.0, more s i n c ds a m) in
        subst (Stood s i (suc n)) u v

-- a good set has as many codes as its count says, and record i stands at the place of number i and holds code i
pub good-places : (s : List ℕ) (cs : List Code) → read_set s ≡ codes cs
    → (length cs ≡ get_or s 0 0)
    × ((i : ℕ) (d : Code) → i < length cs
    → (start : ℕ) × (len : ℕ) × (record_place s i ≡ found start len) × Holds s start len (get_or cs i d))
unfolding read_set
good-places [] cs e = never (cc)
good-places (n ∷ xs) cs e =
    let (l, f) = walked-places (n ∷ xs) n 0 cs e in
    let at = offset_of (n ∷ xs) in (
      l,
      λ i d h.
          let b : i < n = omega arith in
          let z : 0 + i ≡ i = omega arith in
          let (p, q) = subst (λ j. Stands (n ∷ xs) (at j) (get_or cs i d)) z (f i d b) in
          (at i + 2, length_at (n ∷ xs) (at i), record-at (n ∷ xs) i b ∙ p, q),
    )
