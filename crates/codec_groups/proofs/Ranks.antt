-- The groups of one word by the states that have it: the group of a state stands as many places after the first as
-- there are states below it that have the word.
-- In order: below-members, group-counted; places-up, groups-members; group-source, group-below; groups_of, the groups
-- of the states of a set.
-- Assumes nothing.
use Rattle.std.proofs.Common.{◌≡◌, ◌&&◌, ◌∷◌, ◌++◌, ◌+◌, ◌-◌, ◌≤◌, ◌<◌, if◌then◌else◌}
use Rattle.laws.proofs.All.{refl, sym, ap, ap₂, ◌∙◌, Bool, true, false, and-true, and-false, List, []}
use Rattle.laws.proofs.All.{append-nil, map, ℕ, zero, suc, add-one, add-zero}
use Rattle.laws.proofs.All.{arith, lt-ltb, le-ltb, T, ltb, length, get_or}
use Rattle.laws.proofs.All.{length-append, from, range, filter, Each, each-range, each_map}
use Rattle.laws.proofs.All.{each-always, filter-append, filter_same, filter_map, filter-never, filter-fuse}
use Rattle.laws.proofs.All.{range-more, get_or-map-lt}
use Rattle.laws.proofs.Tests.{get_or-from}
use Rattle.laws.proofs.Ranges.{from-append}
use Rattle.bitsets.specs.declared.BitSet.{BitSet}
use Rattle.bitsets.specs.BitSets.{bit_at, places_of, value_of, holds, members_of}
use Rattle.bitsets.proofs.Sets.{members-find}
use Rattle.codec_groups.specs.Groups.{source_at, Sources, group_of}

-- ---- the members below a state, counted
each_from : (i n : ℕ) → Each (λ x. i ≤ x) (from i n)
each_from i zero = tt
each_from i (suc n) = (
  omega arith,
  each_map (λ x. suc i ≤ x) (λ x. i ≤ x) (λ x h. omega arith) (from (suc i) n) (each_from (suc i) n),
)

below-filter : (p q : ℕ → Bool) (s d : ℕ) → ((x : ℕ) → q x ≡ (p x && ltb x s))
    → filter q (range (s + d)) ≡ filter p (range s)
below-filter p q s d h =
    ap (filter q) (from-append 0 s d) ∙ filter-append q (range s) (from (0 + s) d)
    ∙ ap₂ (λ a b. a ++ b) (filter_same q p (range s) under) (filter-never q (from (0 + s) d) over)
    ∙ append-nil (filter p (range s))
  where
    under : Each (λ x. q x ≡ p x) (range s)
    under =
        each_map (λ x. x < s) (λ x. q x ≡ p x)
        (λ x l. h x ∙ ap (λ b. p x && b) (lt-ltb x s l) ∙ and-true (p x)) (range s) (each-range s)

    over : Each (λ x. q x ≡ false) (from (0 + s) d)
    over =
        each_map (λ x. 0 + s ≤ x) (λ x. q x ≡ false)
        (λ x l. h x ∙ ap (λ b. p x && b) (le-ltb x s (omega arith)) ∙ and-false (p x)) (from (0 + s) d)
        (each_from (0 + s) d)

below-members : (n m s d : ℕ) → ((x : ℕ) → bit_at m x ≡ (bit_at n x && ltb x s))
    → length (places_of (s + d) m) ≡ length (filter (bit_at n) (range s))
unfolding places_of
below-members n m s d h = ap length (below-filter (bit_at n) (bit_at m) s d h)

-- what the code counts
pub group-counted : (at : ℕ) (S E M : BitSet) (s r : ℕ) → s ≤ 128 → ((x : ℕ) → holds E x ≡ ltb x s)
    → ((x : ℕ) → holds M x ≡ (holds S x && holds E x)) → r ≡ length (members_of M) → at + r ≡ group_of at S s
unfolding group_of
group-counted at S E M s r few e m c =
    let z : 128 ≡ s + (128 - s) = omega arith in
    ap (λ x. at + x) (c ∙ ap (λ d. length (places_of d (value_of M))) z
    ∙ below-members (value_of S) (value_of M) s (128 - s) (λ x. m x ∙ ap (λ b. holds S x && b) (e x)))

-- ---- the members of a set are numbered from `at` on
module _ (p : ℕ → Bool) (at : ℕ) where
  abbrev rank : ℕ → ℕ
  rank s = at + length (filter p (range s))

  rank-more : (i : ℕ) → rank (suc i) ≡ (if p i then suc (rank i) else rank i)
  rank-more i =
      ap rank (sym (add-one i)) ∙ ap (λ l. at + length (filter p l)) (range-more i)
      ∙ ap (λ l. at + length l) (filter-append p (range i) (i ∷ [])) ∙ go (p i)
    where
      go : (b : Bool) → at + length (filter p (range i) ++ (if b then i ∷ [] else []))
          ≡ (if b then suc (rank i) else rank i)
      go true = ap (λ n. at + n) (length-append (filter p (range i)) (i ∷ [])) ∙ omega arith
      go false = ap (λ l. at + length l) (append-nil (filter p (range i)))

  ranks-up : (i d : ℕ) → map rank (filter p (from i d)) ≡ from (rank i) (length (filter p (from i d)))
  ranks-up i zero = refl
  ranks-up i (suc d) = go (p i) (rank-more i) (ranks-up (suc i) d)
    where
      go : (b : Bool) → let F = filter p (from (suc i) d) in rank (suc i) ≡ (if b then suc (rank i) else rank i)
          → map rank F ≡ from (rank (suc i)) (length F)
          → map rank (if b then i ∷ F else F) ≡ from (rank i) (length (if b then i ∷ F else F))
      go true e r =
          ap (λ l. rank i ∷ l) (r ∙ ap (λ k. from k (length (filter p (from (suc i) d)))) e)
      go false e r = r ∙ ap (λ k. from k (length (filter p (from (suc i) d)))) e

places-up : (at d n : ℕ) → map (rank (bit_at n) at) (places_of d n) ≡ from at (length (places_of d n))
unfolding places_of
places-up at d n =
    ranks-up (bit_at n) at 0 d ∙ ap (λ k. from k (length (filter (bit_at n) (range d)))) (add-zero at)

groups-members : (at : ℕ) (S : BitSet) → map (group_of at S) (members_of S) ≡ from at (length (members_of S))
unfolding group_of
groups-members at S = places-up at 128 (value_of S)

-- ---- the group of a state is its own
each-get_or : (P : ℕ → Type 0) (l : List ℕ) → ((j : ℕ) → j < length l → P (get_or l j 0)) → Each P l
each-get_or P [] h = tt
each-get_or P (x ∷ l) h = (h 0 (omega arith), each-get_or P l (λ j b. h (suc j) (omega arith)))

module _ (first : List ℕ) (at end : ℕ) (H : BitSet) (g : Sources first at end H) where
  group_at : (j : ℕ) → j < length (members_of H) → group_of at H (get_or (members_of H) j 0) ≡ at + j
  group_at j b =
      sym (get_or-map-lt (group_of at H) (members_of H) j 0 0 b) ∙ ap (λ l. get_or l j 0) (groups-members at H)
      ∙ get_or-from at (length (members_of H)) j 0 b

  pub group-source : Each (λ s. source_at first (group_of at H s) ≡ s) (members_of H)
  group-source =
      each-get_or (λ s. source_at first (group_of at H s) ≡ s) (members_of H)
      (λ j b. ap (source_at first) (group_at j b) ∙ g.1 j b)

  -- the group of a state of the set is one of them
  pub group-below : (s : ℕ) → s < 128 → T (holds H s) → group_of at H s < end
  group-below s l h =
      let (j, b, e) = members-find H s l h in
      omega (arith, ap (group_of at H) (sym e) ∙ group_at j b, b, g.0)

  -- the members of one set that are in another
  members-meet : (q : ℕ → Bool) (d n m : ℕ) → ((x : ℕ) → bit_at m x ≡ (bit_at n x && q x))
      → filter q (places_of d n) ≡ places_of d m
  unfolding places_of
  members-meet q d n m h =
      filter-fuse q (bit_at n) (range d)
      ∙ filter_same (λ x. bit_at n x && q x) (bit_at m) (range d)
      (each-always (λ x. (bit_at n x && q x) ≡ bit_at m x) (λ x. sym (h x)) (range d))

  abbrev held : BitSet → ℕ → Bool
  held S k = holds S (source_at first k)

  -- the groups whose states are in S are those of the members of S that have the word
  pub groups_of : (S B : BitSet) → ((x : ℕ) → holds B x ≡ (holds H x && holds S x))
      → filter (held S) (from at (end - at)) ≡ map (group_of at H) (members_of B)
  groups_of S B h =
      let e : end - at ≡ length (members_of H) = omega (arith, g.0) in
      ap (λ n. filter (held S) (from at n)) e ∙ ap (filter (held S)) (sym (groups-members at H))
      ∙ filter_map (held S) (group_of at H) (members_of H)
      ∙ ap (map (group_of at H))
      (filter_same (λ s. held S (group_of at H s)) (holds S) (members_of H)
      (each_map (λ s. source_at first (group_of at H s) ≡ s) (λ s. held S (group_of at H s) ≡ holds S s)
      (λ s x. ap (holds S) x) (members_of H) group-source)
      ∙ members-meet (holds S) 128 (value_of H) (value_of B) h)
