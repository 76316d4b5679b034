-- Parting a state: both parts have the root of the state.
-- In order: rooted, parted-over.
-- Assumes nothing.
use Rattle.std.proofs.Common.{◌≡◌, ◌<◌, if◌then◌else◌}
use Rattle.laws.proofs.All.{sym, ap, subst, ◌∙◌, List, map, ℕ, arith, T, eqb, eqb→eq, eqb_refl, ne_eqb}
use Rattle.laws.proofs.All.{T→true, Each, each_map, each_both, each-image}
use Rattle.compile_graph.specs.Arcs.{Arc, enters}
use Rattle.compile_graph.specs.Splitting.{moved, redirected, doubled}
use Rattle.compile_graph.proofs.PartedSums.{goes, stays, fate}
use Rattle.compile_graph.proofs.PartedDistinct.{each-doubled}

-- the root of the new state is that of s
abbrev pub rooted : ℕ → ℕ → (ℕ → ℕ) → ℕ → ℕ
rooted s K r x = if eqb x K then r s else r x

rooted-new : (s K : ℕ) (r : ℕ → ℕ) → rooted s K r K ≡ r s
rooted-new s K r = rw (T→true (eqb K K) (eqb_refl K))

rooted-old : (s K : ℕ) (r : ℕ → ℕ) (x : ℕ) → x < K → rooted s K r x ≡ r x
rooted-old s K r x h = rw (ne_eqb x K (λ p. omega arith))

-- P holds of the roots and the word of each edge, as "is an edge of the constraint's power graph"
module _ (P : ℕ → ℕ → ℕ → Type 0) (s K : ℕ) (hs : s < K) (r : ℕ → ℕ) (keep : List Arc) where
  abbrev Over : (ℕ → ℕ) → Arc → Type 0
  Over r e = P (r e.source) e.word (r e.target)

  over-moved : (e : Arc) → (e.source < K) × (e.target < K) → Over r e → Over (rooted s K r) (moved s K keep e)
  over-moved e i h = elim (fate s K keep e) [
    | goes p u q ↦ subst (Over (rooted s K r)) (sym q) (rw (rooted-new s K r, tgt) (rw p at h))
    | stays u q ↦ subst (Over (rooted s K r)) (sym q) (rw (rooted-old s K r e.source i.0, tgt) h)
  ]
    where
      tgt : rooted s K r e.target ≡ r e.target
      tgt = rooted-old s K r e.target i.1

  over-turned : (e : Arc) → Over (rooted s K r) e → T (enters s e) → Over (rooted s K r) (redirected K e)
  over-turned e h t =
      let p : e.target ≡ s = eqb→eq e.target s t in
      let q : rooted s K r K ≡ rooted s K r e.target =
      rooted-new s K r ∙ sym (rooted-old s K r s hs) ∙ ap (rooted s K r) (sym p) in
      subst (λ y. P (rooted s K r e.source) e.word y) (sym q) h

  pub parted-over : (g : List Arc) → Each (λ e. (e.source < K) × (e.target < K)) g
      → Each (λ e. P (r e.source) e.word (r e.target)) g
      → Each (λ e. P (rooted s K r e.source) e.word (rooted s K r e.target))
      (doubled s K (map (moved s K keep) g))
  parted-over g i h =
      let g' = map (moved s K keep) g in
      let o : Each (Over (rooted s K r)) g' = each-image (Over (rooted s K r)) (moved s K keep) g
      (each_map (λ e. ((e.source < K) × (e.target < K)) × Over r e) _
      (λ e u. over-moved e u.0 u.1) g (each_both _ (Over r) g i h)) in
      each-doubled (Over (rooted s K r)) s K g' o (each_map (Over (rooted s K r)) _ over-turned g' o)
