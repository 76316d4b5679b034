-- The statement about state sets holds: the words of a set give what its list of yes and no gives.
-- In order: filter-head, places-head, lowest-of; count_yes, first-yes, either-map, yes-count, yes-first, yes-some,
-- yes-either, members-count, the list of yes and no; not-not; state_sets.
-- Assumes nothing.
use Rattle.std.proofs.Common.{◌≡◌, ◌⊎◌, ◌||◌, ◌∷◌, ◌+◌, ◌<◌, if◌then◌else◌}
use Rattle.laws.proofs.All.{refl, sym, ap, ◌∙◌, inl, inr, Bool, true, false, not, List, [], map}
use Rattle.laws.proofs.All.{ℕ, zero, suc, arith, eq-eqb, ne_eqb, eqb, length, get_or, from}
use Rattle.laws.proofs.All.{range, filter, any, first, any-map}
use native.Mathlib.Nat.{eq-zero-or-pos}
use lib.Bits.{or_block}
use lib.Count.{count_trailing_zeros}
use Rattle.bitsets.specs.declared.BitSet.{BitSet}
use Rattle.bitsets.specs.BitSets.{bit_at, places_of, value_of, holds, members_of, yes_no}
use Rattle.bitsets.specs.StateSets.{Words, joined, yeses, first_yes, some_yes, either, StateSets}
use Rattle.bitsets.proofs.Digits.{or-bit}
use Rattle.bitsets.proofs.Places.{places-some}
use Rattle.bitsets.proofs.Words.{words_count, words-empty, first-low, first-high}
use Rattle.bitsets.proofs.Sets.{yes-same}

-- ---- the lowest
filter-head : (p : ℕ → Bool) (d : ℕ) (l : List ℕ) → get_or (filter p l) 0 d ≡ first p d l
filter-head p d [] = refl
filter-head p d (x ∷ l) = go (p x) (filter-head p d l)
  where
    go : (b : Bool) → get_or (filter p l) 0 d ≡ first p d l
        → get_or (if b then x ∷ filter p l else filter p l) 0 d ≡ (if b then x else first p d l)
    go true e = refl
    go false e = e

places-head : (d n : ℕ) → get_or (places_of d n) 0 d ≡ first (bit_at n) d (range d)
unfolding places_of
places-head d n = filter-head (bit_at n) d (range d)

lowest-of : (s : BitSet) → Words s
    → (if eqb s.low 0 then 64 + count_trailing_zeros 64 s.high else count_trailing_zeros 64 s.low)
    ≡ get_or (members_of s) 0 128
lowest-of s (l, h) = go (eq-zero-or-pos s.low)
  where
    go : (s.low ≡ 0) ⊎ (0 < s.low)
        → (if eqb s.low 0 then 64 + count_trailing_zeros 64 s.high else count_trailing_zeros 64 s.low)
        ≡ get_or (members_of s) 0 128
    go (inl z) = rw (eq-eqb s.low 0 z) (sym (first-high s.high s.low z))
    go (inr p) = rw (ne_eqb s.low 0 (λ e. omega arith)) (sym (first-low s.high s.low p l))

-- ---- the list of yes and no
count_yes : (p : ℕ → Bool) (l : List ℕ) → length (filter p l) ≡ yeses (map p l)
count_yes p [] = refl
count_yes p (x ∷ l) = go (p x) (count_yes p l)
  where
    go : (b : Bool) → length (filter p l) ≡ yeses (map p l)
        → length (if b then x ∷ filter p l else filter p l) ≡ (if b then suc (yeses (map p l)) else yeses (map p l))
    go true e = ap suc e
    go false e = e

first-yes : (p : ℕ → Bool) (i n : ℕ) → first p (i + n) (from i n) ≡ i + first_yes (map p (from i n))
first-yes p i zero = refl
first-yes p i (suc n) = go (p i) (first-yes p (suc i) n)
  where
    go : (b : Bool) → first p (suc i + n) (from (suc i) n) ≡ suc i + first_yes (map p (from (suc i) n))
        → (if b then i else first p (i + suc n) (from (suc i) n))
        ≡ i + (if b then 0 else suc (first_yes (map p (from (suc i) n))))
    go true e = omega arith
    go false e =
        let same : i + suc n ≡ suc i + n = omega arith in
        let f = first_yes (map p (from (suc i) n)) in
        let more : suc i + f ≡ i + suc f = omega arith in
        ap (λ d. first p d (from (suc i) n)) same ∙ e ∙ more

either-map : (f g : ℕ → Bool) (l : List ℕ) → map (λ i. f i || g i) l ≡ either (map f l) (map g l)
either-map f g [] = refl
either-map f g (x ∷ l) = ap (λ bs. (f x || g x) ∷ bs) (either-map f g l)

module _ (d : ℕ) (s : BitSet) where
  yes-count : length (filter (holds s) (range d)) ≡ yeses (yes_no d s)
  unfolding yes_no
  yes-count = count_yes (holds s) (range d)

  yes-first : first (holds s) d (range d) ≡ first_yes (yes_no d s)
  unfolding yes_no
  yes-first =
      let z : 0 + d ≡ d = omega arith in
      let f = first_yes (map (holds s) (range d)) in
      let u : 0 + f ≡ f = omega arith in
      ap (λ e. first (holds s) e (range d)) (sym z) ∙ first-yes (holds s) 0 d ∙ u

  yes-some : any (holds s) (range d) ≡ some_yes (yes_no d s)
  unfolding yes_no
  yes-some = sym (any-map (λ b. b) (holds s) (range d))

yes-either : (d : ℕ) (r s : BitSet) → map (λ i. holds r i || holds s i) (range d) ≡ either (yes_no d r) (yes_no d s)
unfolding yes_no
yes-either d r s = either-map (holds r) (holds s) (range d)

members-count : (s : BitSet) → length (members_of s) ≡ yeses (yes_no 128 s)
unfolding places_of
members-count s = yes-count 128 s

-- ---- emptiness
not-not : (b : Bool) → not (not b) ≡ b
not-not true = refl
not-not false = refl

pub state_sets : StateSets
state_sets = record {
  number = λ s (l, h). sym (words_count s.high s.low h l) ∙ members-count s;
  lowest = λ s w. lowest-of s w ∙ places-head 128 (value_of s) ∙ yes-first 128 s;
  empty = λ s (l, h).
      words-empty s.high s.low h l
      ∙ sym (ap not (places-some 128 (value_of s)) ∙ not-not (eqb (length (members_of s)) 0))
      ∙ ap not (yes-some 128 s);
  joining = λ r s v w.
      yes-same 128 (joined r s) (λ i. holds r i || holds s i)
      (λ j h. ap (λ x. bit_at x j) (sym (or_block 64 r.high s.high r.low s.low v.0 w.0))
      ∙ or-bit (value_of r) (value_of s) j)
      ∙ yes-either 128 r s;
}
