-- Counting the edges of states.
-- In order: left, Counted, counted_none, counted-more; unfinished-yes, unfinished-no.
-- Assumes nothing.
use Rattle.std.proofs.Common.{◌≡◌, ◌∷◌, ◌++◌, ◌+◌, ◌≤◌, ◌<◌, if◌then◌else◌}
use Rattle.laws.proofs.All.{refl, sym, ap, ◌∙◌, true, false, List, [], map, append-nil, ℕ}
use Rattle.laws.proofs.All.{arith, ℕ_discrete, lt-ltb, le-ltb, eq-eqb, ne_eqb, length, get_or, set, length-set}
use Rattle.laws.proofs.All.{length-append, replicate, length-replicate, get_or-replicate, get_or-set_same}
use Rattle.laws.proofs.All.{get_or-set_other, range, filter, range_at, length_from, filter-append}
use Rattle.laws.proofs.All.{map-range-more, length-map-range, any_false, any-true}
use Rattle.compile_graph.specs.declared.Graph.{Graph}
use Rattle.compile_graph.specs.Arcs.{Arc, leaves, out}
use Rattle.compile_graph.specs.Splitting.{few_edges, unfinished}
use Rattle.compile_graph.specs.Value.{arc_at, arcs_in, weight_at, weights_in, work_in}

-- ---- counting
-- the edges below i out of s
abbrev pub left : Graph → ℕ → ℕ → List Arc
left g i s = out (map (arc_at g) (range i)) s

left-more : (g : Graph) (i s : ℕ) → left g (i + 1) s ≡ left g i s ++ filter (leaves s) (arc_at g i ∷ [])
left-more g i s =
    ap (filter (leaves s)) (map-range-more (arc_at g) i)
    ∙ filter-append (leaves s) (map (arc_at g) (range i)) (arc_at g i ∷ [])

left-yes : (g : Graph) (i s : ℕ) → get_or g.source i 0 ≡ s → length (left g (i + 1) s) ≡ length (left g i s) + 1
left-yes g i s q =
    ap length (left-more g i s ∙ ap (λ b. left g i s ++ (if b then arc_at g i ∷ [] else []))
    (eq-eqb (get_or g.source i 0) s q))
    ∙ length-append (left g i s) (arc_at g i ∷ [])

left-no : (g : Graph) (i s : ℕ) → (get_or g.source i 0 ≡ s → ⊥) → length (left g (i + 1) s) ≡ length (left g i s)
left-no g i s q =
    ap length (left-more g i s ∙ ap (λ b. left g i s ++ (if b then arc_at g i ∷ [] else []))
    (ne_eqb (get_or g.source i 0) s q)
    ∙ append-nil (left g i s))

pub record Counted (g : Graph) (i : ℕ) (R : List ℕ) : Type 0 where
  pub long : length R ≡ 128
  pub low : (s : ℕ) → s < 128 → get_or R s 0 ≤ i
  pub holds : (s : ℕ) → s < 128 → get_or R s 0 ≡ length (left g i s)

pub counted_none : (g : Graph) → Counted g 0 (replicate 128 0)
counted_none g = record {
  long = length-replicate {A = ℕ} 128 0;
  low = λ s h. omega (arith, get_or-replicate {A = ℕ} 128 s 0 0 h);
  holds = λ s h. get_or-replicate {A = ℕ} 128 s 0 0 h;
}

pub counted-more : (g : Graph) (i : ℕ) (R : List ℕ) → get_or g.source i 0 < 128 → Counted g i R
    → Counted g (i + 1) (set R (get_or g.source i 0) (get_or R (get_or g.source i 0) 0 + 1))
counted-more g i R b c = record {
  long = length-set R t (get_or R t 0 + 1) ∙ c.long;
  low = λ s h. low s h (ℕ_discrete s t);
  holds = λ s h. holds s h (ℕ_discrete s t);
}
  where
    t : ℕ
    t = get_or g.source i 0

    here : get_or (set R t (get_or R t 0 + 1)) t 0 ≡ get_or R t 0 + 1
    here = get_or-set_same R t (get_or R t 0 + 1) 0 (let n = c.long in omega arith)

    low : (s : ℕ) → s < 128 → Dec (s ≡ t) → get_or (set R t (get_or R t 0 + 1)) s 0 ≤ i + 1
    low s h (yes e) = rw e (let q = here in omega (arith, c.low t b))
    low s h (no e) = let q = get_or-set_other R t s (get_or R t 0 + 1) 0 e in omega (arith, c.low s h)

    holds : (s : ℕ) → s < 128 → Dec (s ≡ t) → get_or (set R t (get_or R t 0 + 1)) s 0 ≡ length (left g (i + 1) s)
    holds s h (yes e) = rw e (here ∙ ap (λ k. k + 1) (c.holds t b) ∙ sym (left-yes g i t refl))
    holds s h (no e) =
        get_or-set_other R t s (get_or R t 0 + 1) 0 e ∙ c.holds s h ∙ sym (left-no g i s (λ q. e (sym q)))

-- ---- states with too few edges
module _ (n : ℕ) (g : Graph) where
  K : length (weights_in g) ≡ g.states
  K = length-map-range (weight_at g) g.states

  pub unfinished-yes : (s : ℕ) → s < g.states → length (out (arcs_in g) s) < n → unfinished n (work_in g) ≡ true
  unfinished-yes s h l =
      let b : s < length (weights_in g) = rw K h in
      any-true (few_edges n (arcs_in g)) 0 (range (length (weights_in g))) s
      (rw (length_from 0 (length (weights_in g))) b)
      (rw (range_at (length (weights_in g)) s b) (lt-ltb (length (out (arcs_in g) s)) n l))

  pub unfinished-no : ((s : ℕ) → s < g.states → n ≤ length (out (arcs_in g) s)) → unfinished n (work_in g) ≡ false
  unfinished-no f =
      any_false (few_edges n (arcs_in g)) 0 (range (length (weights_in g)))
      (λ s h. let b : s < length (weights_in g) = rw (length_from 0 (length (weights_in g))) at h in
      rw (range_at (length (weights_in g)) s b) (le-ltb (length (out (arcs_in g) s)) n (f s (rw K at b))))
