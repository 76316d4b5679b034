-- Parting a state: the edges stay distinct and inside.
-- In order: each-doubled, shifted-inside, doubled-inside, parted-distinct.
-- Assumes nothing.
use Rattle.std.proofs.Common.{◌≡◌, ◌≤◌, ◌<◌}
use Rattle.laws.proofs.All.{sym, ap, ◌∙◌, List, map, ℕ, suc, le_refl, le_trans, arith, T}
use Rattle.laws.proofs.All.{eqb→eq, filter, so, nay, eqb_is, Each, one, each_map, each-always, each_append}
use Rattle.laws.proofs.All.{each-filter, each-image, tot-append, tot-filter-le}
use Rattle.compile_graph.specs.Invariant.{count, Inside}
use Rattle.compile_graph.specs.Arcs.{Arc, arc, enters}
use Rattle.compile_graph.specs.Splitting.{same, moved, redirected, doubled}
use Rattle.compile_graph.proofs.Arcs.{arc-eq, image-count, none-count}
use Rattle.compile_graph.proofs.PartedSums.{goes, stays, fate}

-- ---- moved edges: each comes from one edge
moved-count : (s K : ℕ) (keep g : List Arc) → Each (Inside K) g → (e : Arc)
    → (e' : Arc) × (count e (map (moved s K keep) g) ≤ count e' g)
moved-count s K keep g i e = elim (eqb_is e.source K) [
  | so p q ↦ (
    arc s e.word e.target,
    image-count (moved s K keep) e _ g
        (each_map (Inside K) _ (λ f h r. elim (fate s K keep f) [
          | goes a u c ↦ arc-eq (cc) (cc) (cc)
          | stays u c ↦ absurd (let l = ap (λ e. e.source) (r ∙ c) in omega arith)
        ]) g i),
  )
  | nay p q ↦ (
    e,
    image-count (moved s K keep) e e g (each-always _ (λ f r. elim (fate s K keep f) [
      | goes a u c ↦ absurd (p (ap (λ e. e.source) (r ∙ c)))
      | stays u c ↦ r ∙ c
    ]) g),
  )
]

-- ---- doubled edges: likewise
doubled-count : (s K : ℕ) (g : List Arc) → Each (λ e. e.target < K) g → (e : Arc)
    → (e' : Arc) × (count e (doubled s K g) ≤ count e' g)
doubled-count s K g i e = elim (eqb_is e.target K) [
  | so p q ↦ let e' = arc e.source e.word s in
      let a : count e g ≡ 0 = none-count e g
      (each_map (λ e. e.target < K) _ (λ f h r. let l = ap (λ e. e.target) r in omega arith) g i) in
      let b = image-count (redirected K) e e' (filter (enters s) g)
      (each-filter _ (enters s) g (each-always _ (λ f t r. arc-eq (cc) (cc) (sym (eqb→eq f.target s t))) g)) in
      (e', rw (tot-append (one (same e)) g) (omega (arith, tot-filter-le (one (same e')) (enters s) g)))
  | nay p q ↦ let l = filter (enters s) g in
      let a = none-count e (map (redirected K) l) (each-image (λ f. e ≡ f → ⊥) (redirected K) l
      (each-always _ (λ f r. p (ap (λ e. e.target) r)) l)) in
      (e, rw (tot-append (one (same e)) g) (omega arith))
]

-- ---- inside
pub shifted-inside : (s K : ℕ) (keep g : List Arc) → Each (Inside K) g
    → Each (λ e. (e.source < suc K) × (e.target < K)) (map (moved s K keep) g)
shifted-inside s K keep g i = each-image _ (moved s K keep) g (each_map (Inside K) _ (λ e h. elim (fate s K keep e) [
  | goes a u c ↦ rw c (le_refl (suc K), h.1)
  | stays u c ↦ rw c (omega arith)
]) g i)

-- what holds of the edges, and of those into s to the new state
pub each-doubled : (P : Arc → Type 0) (s K : ℕ) (g : List Arc) → Each P g
    → Each (λ e. T (enters s e) → P (redirected K e)) g → Each P (doubled s K g)
each-doubled P s K g h k = each_append P g (map (redirected K) (filter (enters s) g)) h
    (each-image P (redirected K) (filter (enters s) g) (each-filter _ (enters s) g k))

pub doubled-inside : (s K : ℕ) (g : List Arc) → Each (λ e. (e.source < suc K) × (e.target < K)) g
    → Each (Inside (suc K)) (doubled s K g)
doubled-inside s K g i = each-doubled (Inside (suc K)) s K g (each_map _ _ (λ e h. (h.0, omega arith)) g i)
    (each_map _ _ (λ e h t. (h.0, le_refl (suc K))) g i)

pub parted-distinct : (s K : ℕ) (keep g : List Arc) → Each (Inside K) g → ((e : Arc) → count e g ≤ 1) → (e : Arc)
    → count e (doubled s K (map (moved s K keep) g)) ≤ 1
parted-distinct s K keep g i d e =
    let (e', h) = doubled-count s K (map (moved s K keep) g)
    (each_map _ (λ e. e.target < K) (λ e h. h.1) (map (moved s K keep) g) (shifted-inside s K keep g i)) e in
    let (e'', k) = moved-count s K keep g i e' in le_trans h (le_trans k (d e''))
