-- Parting a state: the sums of weights to which the edges of each state lead.
-- In order: Fate, fate, shifted, shifted-other, shifted-old, shifted-both, doubled-tot.
-- Assumes nothing.
use Rattle.std.proofs.Common.{◌≡◌, ◌+◌, ◌≤◌, ◌<◌}
use Rattle.laws.proofs.All.{refl, sym, ap, ap₂, ◌∙◌, Bool, true, false, List, map, ℕ, zero-add}
use Rattle.laws.proofs.All.{add-zero, arith, eqb, eq-eqb, ne_eqb, length, get_or, filter, Whether, so, nay, eqb_is}
use Rattle.laws.proofs.All.{Each, tot, mask, each_map, each-always, tot-append, tot-filter, tot-eq, tot-add}
use Rattle.laws.proofs.All.{tot-map}
use Rattle.compile_graph.proofs.Arcs.{pick}
use Rattle.compile_graph.specs.Invariant.{count, Inside}
use Rattle.compile_graph.specs.Arcs.{Arc, arc, leaves, enters, out}
use Rattle.compile_graph.specs.Weights.{weight, total}
use Rattle.compile_graph.specs.Splitting.{among, moved, redirected, doubled}
use Rattle.compile_graph.proofs.Parted.{weights', w-old, w-new, w-other}

-- ---- what becomes of an edge
pub data Fate (s K : ℕ) (keep : List Arc) (e : Arc) : Type 0 where
  goes : e.source ≡ s → among keep e ≡ false → moved s K keep e ≡ arc K e.word e.target → Fate s K keep e
  stays : (e.source ≡ s → among keep e ≡ true) → moved s K keep e ≡ e → Fate s K keep e

pub fate : (s K : ℕ) (keep : List Arc) (e : Arc) → Fate s K keep e
fate s K keep e = go (eqb_is e.source s) (among keep e) refl
  where
    go : Whether (e.source ≡ s) (eqb e.source s) → (b : Bool) → among keep e ≡ b → Fate s K keep e
    go (so p q) true u = stays (λ r. u) (rw (q, u))
    go (so p q) false u = goes p u (rw (q, u))
    go (nay p q) b u = stays (λ r. absurd (p r)) (rw q)

-- ---- moving edges
module _ (v : List ℕ) (s K : ℕ) (keep : List Arc) where
  abbrev of : ℕ → Arc → ℕ
  of x = mask (leaves x) (weight v)

  -- another state's sum stays
  moved_other : (x : ℕ) → (x ≡ s → ⊥) → x < K → (e : Arc) → of x (moved s K keep e) ≡ of x e
  moved_other x d h e = elim (fate s K keep e) [
    | goes p u q ↦ rw (q, ne_eqb K x (λ r. omega arith), ne_eqb e.source x (λ r. omega arith))
    | stays u q ↦ rw q
  ]

  -- the old part has the edges kept
  moved-old : s < K → (e : Arc) → of s (moved s K keep e) ≡ mask (leaves s) (mask (among keep) (weight v)) e
  moved-old h e = elim (fate s K keep e) [
    | goes p u q ↦ rw (q, ne_eqb K s (λ r. omega arith), eq-eqb e.source s p, u)
    | stays u q ↦ elim (eqb_is e.source s) [ so p r ↦ rw (q, r, u p) | nay p r ↦ rw (q, r) ]
  ]

  -- the two parts together have all edges
  moved-both : s < K → (e : Arc) → e.source < K → of s (moved s K keep e) + of K (moved s K keep e) ≡ of s e
  moved-both h e i = elim (fate s K keep e) [
    | goes p u q ↦ rw (q, ne_eqb K s (λ r. omega arith), eq-eqb K K refl, eq-eqb e.source s p) (zero-add _)
    | stays u q ↦ rw (q, ne_eqb e.source K (λ r. omega arith)) (add-zero _)
  ]

-- ---- the sums after the edges have been moved
module _ (v : List ℕ) (g keep : List Arc) (s : ℕ) (hs : s < length v) where
  abbrev pub shifted : List Arc
  shifted = map (moved s (length v) keep) g

  shifted-tot : (x : ℕ)
      → total v (out shifted x) ≡ tot (λ e. mask (leaves x) (weight v) (moved s (length v) keep e)) g
  shifted-tot x = tot-filter (weight v) (leaves x) shifted
      ∙ tot-map (mask (leaves x) (weight v)) (moved s (length v) keep) g

  pub shifted-other : (x : ℕ) → x < length v → (x ≡ s → ⊥) → total v (out shifted x) ≡ total v (out g x)
  shifted-other x h d =
      shifted-tot x ∙ tot-eq _ (mask (leaves x) (weight v)) g
      (each-always _ (moved_other v s (length v) keep x d h) g)
      ∙ sym (tot-filter (weight v) (leaves x) g)

  pub shifted-old : ((e : Arc) → count e keep ≤ count e (out g s)) → ((e : Arc) → count e (out g s) ≤ 1)
      → total v (out shifted s) ≡ total v keep
  shifted-old h d =
      shifted-tot s ∙ tot-eq _ (mask (leaves s) (mask (among keep) (weight v))) g
      (each-always _ (moved-old v s (length v) keep hs) g)
      ∙ sym (tot-filter (mask (among keep) (weight v)) (leaves s) g) ∙ pick (weight v) keep (out g s) h d

  pub shifted-both : Each (Inside (length v)) g
      → total v (out shifted s) + total v (out shifted (length v)) ≡ total v (out g s)
  shifted-both i =
      ap₂ (λ a b. a + b) (shifted-tot s) (shifted-tot (length v))
      ∙ sym (tot-add (λ e. mask (leaves s) (weight v) (moved s (length v) keep e))
      (λ e. mask (leaves (length v)) (weight v) (moved s (length v) keep e)) g)
      ∙ tot-eq _ (mask (leaves s) (weight v)) g
      (each_map (Inside (length v)) _ (λ e k. moved-both v s (length v) keep hs e k.0) g i)
      ∙ sym (tot-filter (weight v) (leaves s) g)

-- ---- the sums after the edges into s have been doubled
module _ (v : List ℕ) (s w : ℕ) (hs : s < length v) (hw : w ≤ get_or v s 0) where
  abbrev K : ℕ
  K = length v

  twice : (e : Arc) → e.target < K
      → weight (weights' v s w hs) e + mask (enters s)
      (λ e. weight (weights' v s w hs) (redirected K e)) e ≡ weight v e
  twice e h = elim (eqb_is e.target s) [
    | so p q ↦ rw (q, p, w-old v s w hs, w-new v s w hs) (omega arith)
    | nay p q ↦ rw (q, w-other v s w hs e.target h p) (add-zero (weight v e))
  ]

  twice-mask : (x : ℕ) (e : Arc) → e.target < K
      → mask (leaves x) (weight (weights' v s w hs)) e + mask (enters s)
      (λ e. mask (leaves x) (weight (weights' v s w hs)) (redirected K e)) e ≡ mask (leaves x) (weight v) e
  twice-mask x e h = elim (eqb_is e.source x) [
    | so p q ↦ rw q (twice e h)
    | nay p q ↦ rw q (elim (eqb_is e.target s) [ so a r ↦ rw r | nay a r ↦ rw r ])
  ]

  pub doubled-tot : (g : List Arc) → Each (λ e. e.target < K) g → (x : ℕ)
      → total (weights' v s w hs) (out (doubled s K g) x) ≡ total v (out g x)
  doubled-tot g h x =
      let F = mask (leaves x) (weight (weights' v s w hs)) in
      tot-filter (weight (weights' v s w hs)) (leaves x) (doubled s K g)
      ∙ tot-append F g (map (redirected K) (filter (enters s) g))
      ∙ ap (λ k. tot F g + k)
      (tot-map F (redirected K) (filter (enters s) g) ∙ tot-filter (λ e. F (redirected K e)) (enters s) g)
      ∙ sym (tot-add F (mask (enters s) (λ e. F (redirected K e))) g)
      ∙ tot-eq _ (mask (leaves x) (weight v)) g (each_map (λ e. e.target < K) _ (twice-mask x) g h)
      ∙ sym (tot-filter (weight v) (leaves x) g)
