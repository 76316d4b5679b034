-- A set of states stepped by a word along the groups of the word, forward and back.
-- In order: group-edge, edge-group, a group and its edges; step→ to →back; step-bits, step-members, back-bits.
-- Assumes nothing.
use Rattle.std.proofs.Common.{◌≡◌, ◌&&◌, ◌+◌, ◌-◌, ◌/◌, ◌<◌}
use Rattle.laws.proofs.All.{sym, ap, subst, ◌∙◌, true, List, ℕ, arith, T, eqb}
use Rattle.laws.proofs.All.{eqb→eq, eqb_refl, get_or, from, any, any-filter, any-map, and→, →and, T→true, bool_eq}
use Rattle.table.specs.Marks.{some}
use Rattle.table.specs.Edges.{Arrays, rows_of, places, next_of, bears}
use Rattle.table.proofs.Marks.{found, some_at}
use Rattle.table.proofs.Edges.{bears-edge}
use Rattle.bitsets.specs.declared.BitSet.{BitSet}
use Rattle.bitsets.specs.BitSets.{holds, members_of, yes_no, meeting}
use Rattle.bitsets.proofs.Sets.{meeting→, →meeting}
use Rattle.codec_groups.specs.Groups.{goes_to, targets_at, source_at, Within, Grouped, between, steps_to, leads_into}
use Rattle.codec_groups.specs.Groups.{Sources, group_of, member_to}
use Rattle.codec_groups.proofs.Between.{between→, →between}
use Rattle.codec_groups.proofs.Ranks.{groups_of}
use Rattle.codec_steps.specs.StateSets.{along, back}
use Rattle.codec_steps.proofs.StateSteps.{leads_at, along-places, enters_at, back-places}

module _ (t : Arrays) (start first : List ℕ) (sets : List BitSet) (g : Grouped t start first sets) (w : ℕ) where
  -- a target of group k is that of an edge with the word, of the state of the group
  pub group-edge : (k u : ℕ) → Within start w k → T (holds (targets_at sets k) u)
      → (e : ℕ) × (e < places t) × (bears t w e ≡ true) × (e / 16 ≡ source_at first k) × (next_of t e ≡ u)
  group-edge k u i h =
      let (e, l, f) = found (goes_to t w (source_at first k) u) (places t) (subst T (g.targets w k u i) h) in
      let (b, m) = and→ (bears t w e) (eqb (e / 16) (source_at first k) && eqb (next_of t e) u) f in
      let (x, y) = and→ (eqb (e / 16) (source_at first k)) (eqb (next_of t e) u) m in
      (e, l, T→true (bears t w e) b, eqb→eq (e / 16) (source_at first k) x, eqb→eq (next_of t e) u y)

  -- an edge with the word is one of a group of its state, which has its next state as a target
  pub edge-group : w < 256 → (e : ℕ) → e < places t → T (bears t w e)
      → (k : ℕ) × Within start w k × (source_at first k ≡ e / 16) × T (holds (targets_at sets k) (next_of t e))
  edge-group hw e l b =
      let (k, i, s) = g.whole w e hw l (T→true (bears t w e) b) in (
        k,
        i,
        s,
        subst T (sym (g.targets w k (next_of t e) i))
            (some_at (goes_to t w (source_at first k) (next_of t e)) (places t) e l
            (→and (bears t w e) (eqb (e / 16) (source_at first k) && eqb (next_of t e) (next_of t e)) b
            (→and (eqb (e / 16) (source_at first k)) (eqb (next_of t e) (next_of t e))
            (subst (λ x. T (eqb (e / 16) x)) (sym s) (eqb_refl (e / 16))) (eqb_refl (next_of t e))))),
      )

  module _ (S : BitSet) (hw : w < 256) where
    step→ : (u : ℕ) → T (between (steps_to first sets S u) (get_or start w 0) (get_or start (w + 1) 0))
        → T (some (leads_at t S w u) (places t))
    step→ u h =
        let (k, a, b, f) = between→ (steps_to first sets S u) (get_or start w 0) (get_or start (w + 1) 0) h in
        let (p, q) = and→ (holds S (source_at first k)) (holds (targets_at sets k) u) f in
        let (e, l, r, s, n) = group-edge k u (hw, a, b) q in
        some_at (leads_at t S w u) (places t) e l
        (→and (bears t w e) (holds S (e / 16) && eqb (next_of t e) u) (subst T (sym r) tt)
        (→and (holds S (e / 16)) (eqb (next_of t e) u) (subst (λ x. T (holds S x)) (sym s) p)
        (subst (λ x. T (eqb x u)) (sym n) (eqb_refl u))))

    →step : (u : ℕ) → T (some (leads_at t S w u) (places t))
        → T (between (steps_to first sets S u) (get_or start w 0) (get_or start (w + 1) 0))
    →step u h =
        let (e, l, f) = found (leads_at t S w u) (places t) h in
        let (b, m) = and→ (bears t w e) (holds S (e / 16) && eqb (next_of t e) u) f in
        let (p, q) = and→ (holds S (e / 16)) (eqb (next_of t e) u) m in
        let (k, (_, i, j), s, r) = edge-group hw e l b in
        →between (steps_to first sets S u) (get_or start w 0) (get_or start (w + 1) 0) k i j
        (→and (holds S (source_at first k)) (holds (targets_at sets k) u) (subst (λ x. T (holds S x)) (sym s) p)
        (subst (λ x. T (holds (targets_at sets k) x)) (eqb→eq (next_of t e) u q) r))

    back→ : (x : ℕ) → T (between (leads_into first sets S x) (get_or start w 0) (get_or start (w + 1) 0))
        → T (some (enters_at t S w x) (places t))
    back→ x h =
        let (k, a, b, f) = between→ (leads_into first sets S x) (get_or start w 0) (get_or start (w + 1) 0) h in
        let (p, q) = and→ (meeting 128 (targets_at sets k) S) (eqb (source_at first k) x) f in
        let (u, _, y, z) = meeting→ 128 (targets_at sets k) S p in
        let (e, l, r, s, n) = group-edge k u (hw, a, b) y in
        some_at (enters_at t S w x) (places t) e l
        (→and (bears t w e) (holds S (next_of t e) && eqb (e / 16) x) (subst T (sym r) tt)
        (→and (holds S (next_of t e)) (eqb (e / 16) x) (subst (λ v. T (holds S v)) (sym n) z)
        (subst (λ v. T (eqb v x)) (sym s) q)))

    →back : (x : ℕ) → T (some (enters_at t S w x) (places t))
        → T (between (leads_into first sets S x) (get_or start w 0) (get_or start (w + 1) 0))
    →back x h =
        let (e, l, f) = found (enters_at t S w x) (places t) h in
        let (b, m) = and→ (bears t w e) (holds S (next_of t e) && eqb (e / 16) x) f in
        let (p, q) = and→ (holds S (next_of t e)) (eqb (e / 16) x) m in
        let (k, (_, i, j), s, r) = edge-group hw e l b in
        let n : next_of t e < t.states = g.fits.inside e l (bears-edge t w e (T→true (bears t w e) b)) in
        →between (leads_into first sets S x) (get_or start w 0) (get_or start (w + 1) 0) k i j
        (→and (meeting 128 (targets_at sets k) S) (eqb (source_at first k) x)
        (→meeting 128 (targets_at sets k) S (next_of t e) (omega (arith, n, g.fits.few)) r p)
        (subst (λ v. T (eqb v x)) (sym s) q))

-- forward: a set of the targets of the groups whose states are in S
pub step-bits : (t : Arrays) (start first : List ℕ) (sets : List BitSet) → Grouped t start first sets → (S R : BitSet) (w : ℕ)
    → w < 256
    → ((u : ℕ) → holds R u ≡ between (steps_to first sets S u) (get_or start w 0) (get_or start (w + 1) 0))
    → yes_no t.states R ≡ along (rows_of t) (yes_no t.states S) w
step-bits t start first sets g S R w hw h =
    along-places t g.fits S R w (λ u. h u
    ∙ bool_eq (between (steps_to first sets S u) (get_or start w 0) (get_or start (w + 1) 0))
    (some (leads_at t S w u) (places t)) (step→ t start first sets g w S hw u)
    (→step t start first sets g w S hw u))

-- the same by members: a set of the targets of the groups of the states of S that have the word, these being H
members_step : (start first : List ℕ) (sets : List BitSet) (S H B : BitSet) (w u : ℕ)
    → Sources first (get_or start w 0) (get_or start (w + 1) 0) H → ((x : ℕ) → holds B x ≡ (holds H x && holds S x))
    → any (member_to sets (get_or start w 0) H u) (members_of B)
    ≡ between (steps_to first sets S u) (get_or start w 0) (get_or start (w + 1) 0)
unfolding between
members_step start first sets S H B w u g h =
    let i = get_or start w 0 in
    let j = get_or start (w + 1) 0 in
    sym (any-map (λ k. holds (targets_at sets k) u) (group_of i H) (members_of B))
    ∙ ap (any (λ k. holds (targets_at sets k) u)) (sym (groups_of first i j H g S B h))
    ∙ any-filter (λ k. holds (targets_at sets k) u) (λ k. holds S (source_at first k)) (from i (j - i))

pub step-members : (t : Arrays) (start first : List ℕ) (sets : List BitSet) → Grouped t start first sets
    → (S H B R : BitSet) (w : ℕ) → w < 256 → Sources first (get_or start w 0) (get_or start (w + 1) 0) H
    → ((x : ℕ) → holds B x ≡ (holds H x && holds S x))
    → ((u : ℕ) → holds R u ≡ any (member_to sets (get_or start w 0) H u) (members_of B))
    → yes_no t.states R ≡ along (rows_of t) (yes_no t.states S) w
step-members t start first sets g S H B R w hw q h r =
    step-bits t start first sets g S R w hw (λ u. r u ∙ members_step start first sets S H B w u q h)

-- back: a set of the states of the groups that lead into S
pub back-bits : (t : Arrays) (start first : List ℕ) (sets : List BitSet) → Grouped t start first sets → (S R : BitSet) (w : ℕ)
    → w < 256
    → ((s : ℕ) → holds R s ≡ between (leads_into first sets S s) (get_or start w 0) (get_or start (w + 1) 0))
    → yes_no t.states R ≡ back (rows_of t) (yes_no t.states S) w
back-bits t start first sets g S R w hw h =
    back-places t g.fits S R w (λ s. h s
    ∙ bool_eq (between (leads_into first sets S s) (get_or start w 0) (get_or start (w + 1) 0))
    (some (enters_at t S w s) (places t)) (back→ t start first sets g w S hw s)
    (→back t start first sets g w S hw s))
