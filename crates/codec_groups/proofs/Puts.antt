-- Groups written one after the other.
-- In order: put-made, one group; Putting, those of the first members of a set, with putting-start, putting-at,
-- putting-more, putting-done.
-- Assumes nothing.
use Rattle.std.proofs.Common.{◌≡◌, ◌∷◌, ◌+◌, ◌-◌, ◌≤◌, ◌<◌}
use Rattle.laws.proofs.All.{refl, sym, ap, ◌∙◌, List, [], ℕ, add-zero, arith, ℕ_discrete}
use Rattle.laws.proofs.All.{length, get_or, set, drop, length-set, get_or-set_same, get_or-set_other}
use Rattle.laws.proofs.All.{get_or-drop}
use Rattle.laws.proofs.All.{drop-drop, length-drop}
use Rattle.bitsets.specs.declared.BitSet.{BitSet}
use Rattle.bitsets.specs.BitSets.{set_of, set_at}
use Rattle.codec_groups.specs.Groups.{targets_at, Put, PutAll}

-- ---- one group
pub put-made : (first : List ℕ) (sets : List BitSet) (k e : ℕ) (s : BitSet) → k < length first → k < length sets
    → Put first sets k e s (set first k e) (set sets k s)
put-made first sets k e s a b = record {
  first_long = length-set first k e;
  sets_long = length-set sets k s;
  edge = get_or-set_same first k e 0 a;
  targets = get_or-set_same sets k s (set_of 0 0) b;
  edges = λ j n. get_or-set_other first k j e 0 n;
  others = λ j n. get_or-set_other sets k j s (set_of 0 0) n;
}

-- ---- the groups of the first members
-- of the list `states` the part `left` is still to come; the groups of the others stand below k, and those below `at`
-- and the sets after all groups are as they were
pub record Putting (first : List ℕ) (sets : List BitSet) (at : ℕ) (states : List ℕ) (edge_of : ℕ → ℕ)
    (gathered : List BitSet) (left : List ℕ) (k : ℕ) (f : List ℕ) (l : List BitSet) : Type 0 where
  pub begun : at ≤ k
  pub rest : left ≡ drop (k - at) states
  pub first_long : length f ≡ 2048
  pub sets_long : length l ≡ length sets
  pub edge : (j : ℕ) → at + j < k → get_or f (at + j) 0 ≡ edge_of (get_or states j 0)
  pub targets : (j : ℕ) → at + j < k → targets_at l (at + j) ≡ set_at gathered (get_or states j 0)
  pub edges : (j : ℕ) → j < at → get_or f j 0 ≡ get_or first j 0
  pub others : (j : ℕ) → j < at → targets_at l j ≡ targets_at sets j
  pub after : (j : ℕ) → 2048 ≤ j → targets_at l j ≡ targets_at sets j

module _ (first : List ℕ) (sets : List BitSet) (at : ℕ) (states : List ℕ) (edge_of : ℕ → ℕ) (gathered : List BitSet) where
  -- no group yet
  pub putting-start : length first ≡ 2048 → Putting first sets at states edge_of gathered states at first sets
  putting-start a =
      let z : at - at ≡ 0 = omega arith in
      record {
        begun = omega arith;
        rest = sym (ap (λ i. drop i states) z);
        first_long = a;
        sets_long = refl;
        edge = λ j h. absurd (omega arith);
        targets = λ j h. absurd (omega arith);
        edges = λ j h. refl;
        others = λ j h. refl;
        after = λ j h. refl;
      }

  module _ (left : List ℕ) (k : ℕ) (f : List ℕ) (l : List BitSet)
      (p : Putting first sets at states edge_of gathered left k f l) where
    left-length : length left ≡ length states - (k - at)
    left-length = ap length p.rest ∙ length-drop (k - at) states

    -- the first that is left is the next of the list
    pub putting-at : (s : ℕ) (left' : List ℕ) → left ≡ s ∷ left'
        → (k - at < length states) × (s ≡ get_or states (k - at) 0)
    putting-at s left' e = (
      omega (arith, left-length, ap length e),
      sym (ap (λ x. get_or x 0 0) e) ∙ ap (λ x. get_or x 0 0) p.rest ∙ get_or-drop (k - at) states 0 0
          ∙ ap (λ i. get_or states i 0) (add-zero (k - at)),
    )

    -- the next group written
    pub putting-more : (s : ℕ) (left' : List ℕ) → left ≡ s ∷ left' → (e : ℕ) (S : BitSet) (f' : List ℕ) (l' : List BitSet)
        → k < 2048 → e ≡ edge_of s → S ≡ set_at gathered s → Put f l k e S f' l'
        → Putting first sets at states edge_of gathered left' (k + 1) f' l'
    putting-more s left' c e S f' l' r x y w = record {
      begun = omega (arith, p.begun);
      rest = sym (ap (drop 1) c) ∙ ap (drop 1) p.rest ∙ drop-drop 1 (k - at) states ∙ ap (λ i. drop i states) up;
      first_long = w.first_long ∙ p.first_long;
      sets_long = w.sets_long ∙ p.sets_long;
      edge = λ j b. at_edge j b (ℕ_discrete (at + j) k);
      targets = λ j b. at-targets j b (ℕ_discrete (at + j) k);
      edges = λ j b. w.edges j (λ z. omega (arith, p.begun)) ∙ p.edges j b;
      others = λ j b. w.others j (λ z. omega (arith, p.begun)) ∙ p.others j b;
      after = λ j b. w.others j (λ z. omega arith) ∙ p.after j b;
    }
      where
        up : k - at + 1 ≡ k + 1 - at
        up = omega (arith, p.begun)

        -- s is the state of the group at + j ≡ k
        here : (j : ℕ) → at + j ≡ k → s ≡ get_or states j 0
        here j z =
            let i : k - at ≡ j = omega arith in
            (putting-at s left' c).1 ∙ ap (λ i. get_or states i 0) i

        at_edge : (j : ℕ) → at + j < k + 1 → Dec (at + j ≡ k) → get_or f' (at + j) 0 ≡ edge_of (get_or states j 0)
        at_edge j b (yes z) = ap (λ i. get_or f' i 0) z ∙ w.edge ∙ x ∙ ap edge_of (here j z)
        at_edge j b (no z) = w.edges (at + j) z ∙ p.edge j (omega arith)

        at-targets : (j : ℕ) → at + j < k + 1 → Dec (at + j ≡ k)
            → targets_at l' (at + j) ≡ set_at gathered (get_or states j 0)
        at-targets j b (yes z) = ap (targets_at l') z ∙ w.targets ∙ y ∙ ap (set_at gathered) (here j z)
        at-targets j b (no z) = w.others (at + j) z ∙ p.targets j (omega arith)

    -- where none is left all groups are written
    pub putting-done : left ≡ [] → PutAll first sets at states edge_of gathered f l
    putting-done e =
        let done : length states ≤ k - at = omega (arith, left-length, ap length e) in
        record {
          first_long = p.first_long;
          sets_long = p.sets_long;
          edge = λ j b. p.edge j (omega (arith, p.begun, done));
          targets = λ j b. p.targets j (omega (arith, p.begun, done));
          edges = p.edges;
          others = p.others;
          after = p.after;
        }
