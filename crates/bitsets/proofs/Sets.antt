-- Sets by their states, their members in order, and the lists of yes and no that they stand for.
-- In order: any-members→, →any-members, meeting→, →meeting, tests over sets; yes-member, yes-length, yes-same;
-- set-none; members-rising, members-find, members-hold; alike, same-sets, lists of sets compared.
-- Assumes nothing.
use Rattle.std.proofs.Common.{◌≡◌, ◌&&◌, ◌<◌, List, true, rules, refl, ap₂}
use lib.Pointwise.{pointwise, pointwise_decides}
use Rattle.std.proofs.Common.{IsTrue, ◌↔◌}
use Rattle.laws.proofs.All.{eqb, eqb-true, eq-eqb}
use Rattle.laws.proofs.All.{Bool, false, map, ℕ, T, length, get_or, range, any, member, any-below→}
use Rattle.laws.proofs.All.{→any-below, and→, →and, map-range-at, length-map-range, map-range-same}
use Rattle.bitsets.specs.declared.BitSet.{BitSet}
use Rattle.bitsets.specs.BitSets.{value_of, holds, members_of, yes_no, meeting, set_of}
use Rattle.bitsets.proofs.Digits.{zero_bit}
use Rattle.bitsets.proofs.Places.{any-places→, →any-places}
use Rattle.bitsets.proofs.Rising.{places-rising, places-find, places-hold}

-- ---- tests over the states of a set, and of two
pub any-members→ : (p : ℕ → Bool) (s : BitSet) → T (any p (members_of s)) → (i : ℕ) × (i < 128) × T (holds s i)
    × T (p i)
any-members→ p s = any-places→ p 128 (value_of s)

pub →any-members : (p : ℕ → Bool) (s : BitSet) (i : ℕ) → i < 128 → T (holds s i) → T (p i) → T (any p (members_of s))
→any-members p s = →any-places p 128 (value_of s)

pub meeting→ : (d : ℕ) (r s : BitSet) → T (meeting d r s) → (i : ℕ) × (i < d) × T (holds r i) × T (holds s i)
unfolding meeting
meeting→ d r s t =
    let (i, l, u) = any-below→ (λ i. holds r i && holds s i) d t in
    let (a, b) = and→ (holds r i) (holds s i) u in
    (i, l, a, b)

pub →meeting : (d : ℕ) (r s : BitSet) (i : ℕ) → i < d → T (holds r i) → T (holds s i) → T (meeting d r s)
unfolding meeting
→meeting d r s i l a b = →any-below (λ i. holds r i && holds s i) d i l (→and (holds r i) (holds s i) a b)

-- ---- the list of yes and no
pub yes-member : (n : ℕ) (s : BitSet) (i : ℕ) → i < n → member (yes_no n s) i ≡ holds s i
unfolding yes_no
yes-member n s i h = map-range-at (holds s) n i false h

pub yes-length : (n : ℕ) (s : BitSet) → length (yes_no n s) ≡ n
unfolding yes_no
yes-length n s = length-map-range (holds s) n

pub yes-same : (n : ℕ) (s : BitSet) (f : ℕ → Bool) → ((i : ℕ) → i < n → holds s i ≡ f i) → yes_no n s ≡ map f (range n)
unfolding yes_no
yes-same n s f h = map-range-same (holds s) f n h

-- ---- no state
pub set-none : (i : ℕ) → holds (set_of 0 0) i ≡ false
set-none i = zero_bit i

-- ---- the members by their places in the list
pub members-rising : (s : BitSet) (i j : ℕ) → i < j → j < length (members_of s)
    → get_or (members_of s) i 0 < get_or (members_of s) j 0
members-rising s = places-rising 128 (value_of s)

pub members-find : (s : BitSet) (x : ℕ) → x < 128 → T (holds s x)
    → (j : ℕ) × (j < length (members_of s)) × (get_or (members_of s) j 0 ≡ x)
members-find s = places-find 128 (value_of s)

pub members-hold : (s : BitSet) (j : ℕ) → j < length (members_of s)
    → (get_or (members_of s) j 0 < 128) × T (holds s (get_or (members_of s) j 0))
members-hold s = places-hold 128 (value_of s)

-- ---- lists of sets, compared
-- the words are the same
abbrev pub alike : BitSet → BitSet → Bool
alike s t = eqb s.low t.low && eqb s.high t.high

alike→ : (s t : BitSet) → alike s t ≡ true → s ≡ t
alike→ s t h = ap₂ set_of (eqb-true s.low t.low (both.0)) (eqb-true s.high t.high (both.1))
  where
    both : (eqb s.low t.low ≡ true) × (eqb s.high t.high ≡ true)
    both = search rules

→alike : (s t : BitSet) → s ≡ t → alike s t ≡ true
→alike s t e = rw e (ap₂ (λ a b. a && b) (eq-eqb t.low t.low refl) (eq-eqb t.high t.high refl))

pub same-sets : (xs ys : List BitSet) (b : Bool) → b ≡ pointwise alike xs ys → IsTrue b ↔ (xs ≡ ys)
same-sets xs ys b e =
    let d = pointwise_decides (λ s t. (alike→ s t, →alike s t)) xs ys in
    rw e (λ t. d.0 t, λ q. d.1 q)
