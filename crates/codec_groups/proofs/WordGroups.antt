-- The groups of one word, as the code writes them.
-- In order: GroupOf, one group; member-source, member-group, the group of one state; states-few, no more
-- states than edges; OfWord, word-laid, word-sources, word_same, sources-same, the groups of one word.
-- Assumes nothing.
use Rattle.std.proofs.Common.{None, ◌≡◌, ◌&&◌, ◌+◌, ◌-◌, ◌*◌, ◌/◌, ◌%◌, ◌≤◌, ◌<◌}
use Rattle.laws.proofs.All.{refl, sym, ap, ap₂, subst, subst₂, ◌∙◌, Bool, true, false, and-false}
use Rattle.laws.proofs.All.{List, ℕ}
use Rattle.laws.proofs.All.{arith, T, eqb→eq, eqb_refl, lt-ltb}
use Rattle.laws.proofs.All.{ltb-true, length, get_or, and→, →and, T→true}
use Rattle.table.specs.Marks.{some}
use Rattle.table.specs.Edges.{Arrays, places, is_edge, Fits, bears}
use Rattle.table.proofs.Marks.{found, some_at}
use Rattle.table.proofs.Edges.{bears-edge}
use Rattle.bitsets.specs.declared.BitSet.{BitSet}
use Rattle.bitsets.specs.BitSets.{places_of, value_of, holds, members_of, set_at}
use Rattle.bitsets.proofs.Sets.{members-rising, members-find, members-hold}
use Rattle.table_words.specs.Gathered.{leaves, beside_from, Gathered}
use Rattle.codec_groups.specs.Groups.{goes_to, has_at, first_edge, targets_at, source_at, have_at}
use Rattle.codec_groups.specs.Groups.{Sources, PutAll, PutHave}
use Rattle.codec_groups.specs.Counts.{count}
use Rattle.codec_groups.proofs.Counts.{members-count}
use Rattle.codec_groups.proofs.FirstEdges.{Least, edge-least}

-- ---- one group: e is the first edge of its state with the word w, and S the set of states to which these edges lead
pub record GroupOf (t : Arrays) (w e : ℕ) (S : BitSet) : Type 0 where
  pub below : e < places t
  pub edge : bears t w e ≡ true
  pub least : (x : ℕ) → x / 16 ≡ e / 16 → x < e → bears t w x ≡ false
  pub targets : (u : ℕ) → holds S u ≡ some (goes_to t w (e / 16) u) (places t)

module _ (t : Arrays) (g : Fits t) (w : ℕ) (have : BitSet) (gathered : List BitSet) (G : Gathered t w None have gathered) where
  -- a state of the set has an edge with the word
  held-edge : (s : ℕ) → s < 128 → T (holds have s)
      → (e : ℕ) × (e < places t) × (e / 16 ≡ s) × (bears t w e ≡ true)
  held-edge s h x =
      let (e, l, f) = found (beside_from t w None s) (places t) (subst T (G.haves s h) x) in
      let (b, k) = and→ (bears t w e) (leaves None s e) f in
      (e, l, eqb→eq (e / 16) s k, T→true (bears t w e) b)

  -- the state of an edge with the word is in the set
  edge-held : (e : ℕ) → e < places t → bears t w e ≡ true → T (holds have (e / 16))
  edge-held e l q =
      let h : e / 16 < 128 = omega (arith, g.few) in
      subst T (sym (G.haves (e / 16) h))
      (some_at (beside_from t w None (e / 16)) (places t) e l
      (→and (bears t w e) (leaves None (e / 16) e) (subst T (sym q) tt) (eqb_refl (e / 16))))

  -- the first edge of a state with the word
  abbrev edge_of : ℕ → ℕ
  edge_of = first_edge t.ways t.word w

  module _ (s : ℕ) (h : s < 128) (x : T (holds have s)) where
    -- some edge of the state with the word
    abbrev some-edge : ℕ
    some-edge = (held-edge s h x).0

    edge-way : some-edge % 16 < t.ways
    edge-way = ltb-true _ _ (bears-edge t w some-edge (held-edge s h x).3)

    first-least : Least (has_at t.word w) (s * 16) some-edge (edge_of s)
    first-least =
        let (e, l, z, q) = held-edge s h x in
        edge-least t.ways t.word w s some-edge (omega arith) (omega (arith, edge-way))
        (T→true (has_at t.word w some-edge)
        (and→ (is_edge t some-edge) (has_at t.word w some-edge) (subst T (sym q) tt)).1)

    -- the first one is an edge of the state
    pub member-source : edge_of s / 16 ≡ s
    member-source =
        omega (arith, first-least.low, first-least.high, (held-edge s h x).2, edge-way, g.narrow)

    -- it makes a group with the targets that were gathered
    pub member-group : GroupOf t w (edge_of s) (set_at gathered s)
    member-group =
        let q = (held-edge s h x).2 in
        let l = first-least in
        let way : edge_of s % 16 < t.ways = omega (arith, l.low, l.high, edge-way, g.narrow) in
        record {
          below = omega (arith, l.high, (held-edge s h x).1);
          edge = ap₂ (λ a b. a && b) (lt-ltb _ _ way) l.here;
          least = λ y z b.
              ap (λ c. is_edge t y && c) (l.none y (omega (arith, z, member-source)) b) ∙ and-false (is_edge t y);
          targets = λ u.
              sym (ap (λ b. b && holds (set_at gathered s) u) (T→true (holds have s) x)) ∙ G.leads s u h
              ∙ ap (λ y. some (goes_to t w y u) (places t)) (sym member-source);
        }

  -- no more states in the set than edges with the word
  pub states-few : length (members_of have) ≤ count t w (places t)
  states-few =
      let k : t.states + (128 - t.states) ≡ 128 = omega (arith, g.few) in
      subst (λ d. length (places_of d (value_of have)) ≤ count t w (places t)) k
      (members-count t w t.states (128 - t.states) (value_of have) (λ s a b. none s (omega arith) a)
      (λ s h q. let (e, l, z, b) = held-edge s (omega (arith, g.few)) (subst T (sym q) tt) in (e, z, b)))
    where
      -- a number that is no state is in no set
      none : (s : ℕ) → s < 128 → t.states ≤ s → holds have s ≡ false
      none s h a = go (holds have s) refl
        where
          go : (b : Bool) → holds have s ≡ b → holds have s ≡ false
          go true q = let (e, l, z, b) = held-edge s h (subst T (sym q) tt) in absurd (omega arith)
          go false q = q

-- ---- the groups of one word, from place `at` on and below `end`
pub record OfWord (t : Arrays) (w at end : ℕ) (first : List ℕ) (sets : List BitSet) : Type 0 where
  pub group : (k : ℕ) → at ≤ k → k < end → GroupOf t w (get_or first k 0) (targets_at sets k)
  pub rising : (k l : ℕ) → at ≤ k → k < l → l < end → source_at first k < source_at first l
  pub whole : (e : ℕ) → e < places t → bears t w e ≡ true
      → (k : ℕ) × (at ≤ k) × (k < end) × (source_at first k ≡ e / 16)

module _ (t : Arrays) (g : Fits t) (w : ℕ) (have : BitSet) (gathered : List BitSet) (G : Gathered t w None have gathered)
    (first : List ℕ) (sets : List BitSet) (at : ℕ) (f : List ℕ) (l : List BitSet)
    (P : PutAll first sets at (members_of have) (first_edge t.ways t.word w) gathered f l) where
  -- the state of the group at place k
  abbrev state_of : ℕ → ℕ
  state_of k = get_or (members_of have) (k - at) 0

  module _ (k : ℕ) (a : at ≤ k) (b : k < at + length (members_of have)) where
    inside : k - at < length (members_of have)
    inside = omega arith

    back : at + (k - at) ≡ k
    back = omega arith

    in-set : (state_of k < 128) × T (holds have (state_of k))
    in-set = members-hold have (k - at) inside

    edge-at : get_or f k 0 ≡ first_edge t.ways t.word w (state_of k)
    edge-at = ap (λ i. get_or f i 0) (sym back) ∙ P.edge (k - at) inside

    source-at : source_at f k ≡ state_of k
    source-at = ap (λ e. e / 16) edge-at ∙ member-source t g w have gathered G (state_of k) in-set.0 in-set.1

    group_at : GroupOf t w (get_or f k 0) (targets_at l k)
    group_at =
        subst₂ (GroupOf t w) (sym edge-at) (sym (ap (targets_at l) (sym back) ∙ P.targets (k - at) inside))
        (member-group t g w have gathered G (state_of k) in-set.0 in-set.1)

  groups-laid : OfWord t w at (at + length (members_of have)) f l
  groups-laid = record {
    group = group_at;
    rising = λ k j a b c.
        let i : k - at < j - at = omega arith in
        let m = members-rising have (k - at) (j - at) i (inside j (omega arith) c) in
        omega (arith, source-at k a (omega arith), source-at j (omega arith) c);
    whole = λ e b q.
        let s : e / 16 < 128 = omega (arith, g.few) in
        let (j, c, z) = members-find have (e / 16) s (edge-held t g w have gathered G e b q) in
        let i : at + j - at ≡ j = omega arith in (
          at + j,
          omega arith,
          omega arith,
          source-at (at + j) (omega arith) (omega arith) ∙ ap (λ i. get_or (members_of have) i 0) i ∙ z,
        );
  }

  -- the same, with the number of states as counted
  pub word-laid : (m : ℕ) → m ≡ length (members_of have) → OfWord t w at (at + m) f l
  word-laid m e = subst (λ x. OfWord t w at (at + x) f l) (sym e) groups-laid

  -- the states that have the word, written after the groups, are those of its groups
  pub word-sources : (m : ℕ) → m ≡ length (members_of have) → (l' : List BitSet) → PutHave l w have l'
      → 2304 ≤ length sets → Sources f at (at + m) (have_at l' w)
  word-sources m e l' H x =
      subst (Sources f at (at + m))
      (sym (H.here (omega (arith, P.sets_long)))) (
        ap (λ n. at + n) (sym e),
        λ j b.
            let i : at + j - at ≡ j = omega arith in
            source-at (at + j) (omega arith) (omega arith) ∙ ap (λ n. get_or (members_of have) n 0) i,
      )

-- the same groups in arrays that are the same below their end
pub word_same : (t : Arrays) (w at end : ℕ) (first : List ℕ) (sets : List BitSet) (f : List ℕ) (l : List BitSet) → OfWord t w at end first sets
    → ((j : ℕ) → j < end → get_or f j 0 ≡ get_or first j 0)
    → ((j : ℕ) → j < end → targets_at l j ≡ targets_at sets j) → OfWord t w at end f l
word_same t w at end first sets f l o p q = record {
  group = λ k a b. subst₂ (GroupOf t w) (sym (p k b)) (sym (q k b)) (o.group k a b);
  rising = λ k j a b c.
      let x : source_at f k ≡ source_at first k = ap (λ e. e / 16) (p k (omega arith)) in
      let y : source_at f j ≡ source_at first j = ap (λ e. e / 16) (p j c) in
      omega (arith, o.rising k j a b c);
  whole = λ e b r.
      let (k, a, c, z) = o.whole e b r in
      (k, a, c, ap (λ e. e / 16) (p k c) ∙ z);
}

-- and the same states
pub sources-same : (first f : List ℕ) (at end : ℕ) (S R : BitSet) → R ≡ S → Sources first at end S
    → ((j : ℕ) → j < end → get_or f j 0 ≡ get_or first j 0) → Sources f at end R
sources-same first f at end S R e (a, b) p =
    subst (Sources f at end) (sym e) (a, λ j c. ap (λ x. x / 16) (p (at + j) (omega (arith, a, c))) ∙ b j c)
