-- The list of edges of a split: the first to a lighter state by word, then target, and then the first of the others.
-- In order: filter_none, filter-but; candidates-by.
-- Assumes nothing.
use Rattle.std.proofs.Common.{◌≡◌, ◌∷◌, ◌++◌, ◌+◌, ◌-◌, ◌≤◌, ◌<◌}
use Rattle.laws.proofs.All.{refl, sym, ap, ◌∙◌, List, [], ℕ, zero, suc, le_trans}
use Rattle.laws.proofs.All.{le_of_suc-le-suc, not-suc-le-zero, add-one, arith, T, T→true, ltb-true, ltb-false}
use Rattle.laws.proofs.All.{length, get_or, take, drop, length-take-le, get_or-take, get_or-drop, get_or-append}
use Rattle.laws.proofs.All.{get_or-append-add, filter, first, any, one, Whether, so, nay, each_at, first-place}
use Rattle.compile_graph.specs.Arcs.{Arc, arc}
use Rattle.compile_graph.specs.Invariant.{count}
use Rattle.compile_graph.specs.Splitting.{same, among, lighter, other, candidates}
use Rattle.compile_graph.proofs.Arcs.{same-is, same_refl, among→count, each-among}
use Rattle.compile_graph.proofs.InOrder.{lowest-place}

-- ---- a list of edges, each once, without one of them
filter_none : (a : Arc) (es : List Arc) → count a es ≡ 0 → filter (other a) es ≡ es
filter_none a [] z = refl
filter_none a (e ∷ es) z = go (same-is e a) (filter_none a es)
  where
    go : Whether (e ≡ a) (same e a) → (count a es ≡ 0 → filter (other a) es ≡ es) → filter (other a) (e ∷ es) ≡ e ∷ es
    go (so p q) f =
        let u : one (same a) e ≡ 1 = rw (p, T→true (same a a) (same_refl a)) in
        absurd (omega (arith, u, z))
    go (nay p q) f = rw q (ap (λ l. e ∷ l) (f (omega (arith, z))))

filter-but : (es : List Arc) → ((e : Arc) → count e es ≤ 1) → (p : ℕ) → p < length es
    → filter (other (get_or es p (arc 0 0 0))) es ≡ take p es ++ drop (suc p) es
filter-but [] once p h = absurd (not-suc-le-zero h)
filter-but (e ∷ es) once zero h =
    let u : one (same e) e ≡ 1 = rw (T→true (same e e) (same_refl e)) in
    rw (T→true (same e e) (same_refl e)) (filter_none e es (omega (arith, u, once e)))
filter-but (e ∷ es) once (suc p) h =
    go (same-is e a) (filter-but es (λ f. le_trans (omega arith) (once f)) p (le_of_suc-le-suc h))
  where
    a : Arc
    a = get_or es p (arc 0 0 0)

    go : Whether (e ≡ a) (same e a) → filter (other a) es ≡ take p es ++ drop (suc p) es
        → filter (other a) (e ∷ es) ≡ e ∷ take p es ++ drop (suc p) es
    go (so q r) f =
        let u : one (same a) e ≡ 1 = rw (q, T→true (same a a) (same_refl a)) in
        let c = among→count es a (each_at (λ f. T (among es f)) (arc 0 0 0) es
        (each-among es) p (le_of_suc-le-suc h)) in
        absurd (omega (arith, u, c, once a))
    go (nay q r) f = rw r (ap (λ l. e ∷ l) f)

-- ---- the list, where es has each edge once
module _ (n : ℕ) (v : List ℕ) (M : ℕ) (es : List Arc) (once : (e : Arc) → count e es ≤ 1)
    (light : T (any (lighter v M) es)) where
  pub candidates-by : let l = candidates n v M es in let a = arc 0 0 0 in
      (p : ℕ) × (p < length es) × (get_or l 0 a ≡ get_or es p a) × (get_or v (get_or es p a).target 0 < M)
      × ((i : ℕ) → i < p → M ≤ get_or v (get_or es i a).target 0)
      × ((i : ℕ) → i < p → i + 1 < n → get_or l (i + 1) a ≡ get_or es i a)
      × ((i : ℕ) → p < i → i < n → get_or l i a ≡ get_or es i a)
  candidates-by =
      let (p, h, e, f) = lowest-place (lighter v M) (arc 0 0 0) es light in
      let q : first (lighter v M) (arc 0 0 0) es ≡ get_or es p (arc 0 0 0) =
      first-place (lighter v M) (arc 0 0 0) es p h e f in (
        p,
        h,
        q,
        ltb-true (get_or v (get_or es p (arc 0 0 0)).target 0) M e,
        λ i l. ltb-false (get_or v (get_or es i (arc 0 0 0)).target 0) M (f i l),
        λ i l m. ap (λ k. get_or (candidates n v M es) k (arc 0 0 0)) (add-one i)
            ∙ rest p h q i (omega arith) ∙ front p h i l,
        λ i l m. later p h q i l m,
      )
    where
      but : ℕ → List Arc
      but p = take p es ++ drop (suc p) es

      long : (p : ℕ) → p < length es → length (take p es) ≡ p
      long p h = length-take-le p es (omega arith)

      rest : (p : ℕ) → p < length es → first (lighter v M) (arc 0 0 0) es ≡ get_or es p (arc 0 0 0)
          → (i : ℕ) → i < n - 1 → get_or (candidates n v M es) (suc i) (arc 0 0 0) ≡ get_or (but p) i (arc 0 0 0)
      rest p h q i l =
          get_or-take (n - 1) (filter (other (first (lighter v M) (arc 0 0 0) es)) es) i (arc 0 0 0) l
          ∙ ap (λ b. get_or (filter (other b) es) i (arc 0 0 0)) q
          ∙ ap (λ r. get_or r i (arc 0 0 0)) (filter-but es once p h)

      front : (p : ℕ) → p < length es → (i : ℕ) → i < p → get_or (but p) i (arc 0 0 0) ≡ get_or es i (arc 0 0 0)
      front p h i l =
          get_or-append (take p es) (drop (suc p) es) (arc 0 0 0) i (rw (long p h) l)
          ∙ get_or-take p es i (arc 0 0 0) l

      behind : (p : ℕ) → p < length es → (k : ℕ)
          → get_or (but p) (p + k) (arc 0 0 0) ≡ get_or es (suc p + k) (arc 0 0 0)
      behind p h k =
          ap (λ b. get_or (but p) (b + k) (arc 0 0 0)) (sym (long p h))
          ∙ get_or-append-add (take p es) (drop (suc p) es) k (arc 0 0 0) ∙ get_or-drop (suc p) es k (arc 0 0 0)

      later : (p : ℕ) → p < length es → first (lighter v M) (arc 0 0 0) es ≡ get_or es p (arc 0 0 0)
          → (i : ℕ) → p < i → i < n → get_or (candidates n v M es) i (arc 0 0 0) ≡ get_or es i (arc 0 0 0)
      later p h q zero l m = absurd (not-suc-le-zero l)
      later p h q (suc i) l m =
          let k : p + (i - p) ≡ i = omega arith in
          let j : suc p + (i - p) ≡ suc i = omega arith in
          rest p h q i (omega arith) ∙ ap (λ b. get_or (but p) b (arc 0 0 0)) (sym k) ∙ behind p h (i - p)
          ∙ ap (λ b. get_or es b (arc 0 0 0)) j
