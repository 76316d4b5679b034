-- A table with its data given anew has in each state the edges it had, in another order.
-- In order: rearranged-row, rearranged-same, rearranged-at, one state; relabelled-length, relabelled-first,
-- labels-row, labels, relabelled-full, relabelled-at, all states; tabled-relabelled, what holds of every edge.
-- Assumes nothing.
use Rattle.std.proofs.Common.{◌≡◌, ◌∷◌, ◌+◌, ◌<◌}
use Rattle.laws.proofs.All.{refl, sym, ap, subst, ◌∙◌, List, [], ℕ, zero, suc, zero-le, suc-le-suc}
use Rattle.laws.proofs.All.{le_of_suc-le-suc, not-suc-le-zero, arith, T, length, get_or, take, drop, length-append}
use Rattle.laws.proofs.All.{length-map, take-append-drop, get_or-take, range, elem, index_of, length-extend}
use Rattle.laws.proofs.All.{extend-start}
use Rattle.laws.proofs.All.{extend-at, length-map-range, map-range-at, range_at, length_from, below_at, each_below}
use Rattle.laws.proofs.All.{each-range, range-once, index_at, index-lt, at-index, once-onto, Below, Once}
use Rattle.table.specs.Rows.{Edge, edge, Rows, edges, at, words_of}
use Rattle.table.specs.Paths.{Full}
use Rattle.compile_table.proofs.TableOf.{Tabled}
use Rattle.compile_labels.specs.Labels.{data_of, bearer, relabelled_row, relabelled, Rearranged}
use Rattle.compile_labels.proofs.Data.{data-length, data-below, data-once}

-- ---- one state
module _ (n : ℕ) (es : List Edge) (long : length es ≡ n) where
  rearranged-row : (earlier : Rows) → Rearranged n es (relabelled_row n earlier es)
  rearranged-row earlier =
      record {
        places = D;
        many = many;
        below = below;
        once = once;
        long = length-map-range (bearer es D) n;
        moved = λ k h. let l : k < length D = rw many h in
            map-range-at (bearer es D) n (get_or D k 0) (edge 0 0) (below_at n D k below l)
            ∙ ap (λ i. get_or es i (edge 0 0)) (index_at D once k l);
      }
    where
      D : List ℕ
      D = data_of n earlier (words_of es)

      words : length (words_of es) ≡ n
      words = length-map es (λ e. e.word) ∙ long

      many : length D ≡ n
      many = data-length n earlier (words_of es) words

      below : Below n D
      below = data-below n earlier (words_of es) words

      once : Once D
      once = data-once n earlier (words_of es) words

  rearranged-same : Rearranged n es es
  rearranged-same =
      record {
        places = range n;
        many = length_from 0 n;
        below = each_below n (range n) (each-range n);
        once = λ x. range-once x n;
        long = long;
        moved = λ k h. ap (λ i. get_or es i (edge 0 0)) (range_at n k h);
      }

-- the edge at a place was at some place
rearranged-at : (n : ℕ) (es fs : List Edge) → Rearranged n es fs → (d : ℕ) → d < n
    → (k : ℕ) × (k < n) × (get_or fs d (edge 0 0) ≡ get_or es k (edge 0 0))
rearranged-at n es fs r d h =
    let t : T (elem d r.places) = once-onto n r.places r.many r.below r.once d h in
    let l : index_of d r.places < n = rw r.many at (index-lt d r.places t) in (
      index_of d r.places,
      l,
      ap (λ x. get_or fs x (edge 0 0)) (sym (at-index d r.places t)) ∙ r.moved (index_of d r.places) l,
    )

-- ---- all states
pub relabelled-length : (n : ℕ) (t : Rows) → length (relabelled n t) ≡ length t
unfolding relabelled
relabelled-length n t =
    length-extend (relabelled_row n) (take 1 t) (drop 1 t) ∙ sym (length-append (take 1 t) (drop 1 t))
    ∙ ap length (take-append-drop 1 t)

relabelled-first : (n : ℕ) (t : Rows) → edges (relabelled n t) 0 ≡ edges t 0
unfolding relabelled
relabelled-first n [] = refl
relabelled-first n (es ∷ rest) =
    sym (get_or-take 1 (relabelled n (es ∷ rest)) 0 [] (suc-le-suc zero-le))
    ∙ ap (λ l. edges l 0) (extend-start (relabelled_row n) (es ∷ []) rest)

-- THEOREM: an edge of a later state takes its datum by the rule, with the states before as they are in the end
pub labels-row : (n : ℕ) (t : Rows) → Full n t → (s : ℕ) → 0 < s → s < length t
    → edges (relabelled n t) s ≡ relabelled_row n (take s (relabelled n t)) (edges t s)
unfolding relabelled
labels-row n [] full s pos h = absurd (not-suc-le-zero h)
labels-row n (es ∷ rest) full zero pos h = absurd (not-suc-le-zero pos)
labels-row n (es ∷ rest) full (suc k) pos h =
    let R = relabelled n (es ∷ rest) in
    let e : 1 + k ≡ suc k = omega arith in
    subst (λ s. edges R s ≡ relabelled_row n (take s R) (edges rest k)) e
    (extend-at (relabelled_row n) (es ∷ []) rest k [] [] (le_of_suc-le-suc h))

module _ (n : ℕ) (t : Rows) (full : Full n t) where
  -- THEOREM: state 0 stays, and every state has the edges it had, each at one datum
  pub labels : (edges (relabelled n t) 0 ≡ edges t 0) × (length (relabelled n t) ≡ length t)
      × ((s : ℕ) → s < length t → Rearranged n (edges t s) (edges (relabelled n t) s))
  labels = (relabelled-first n t, relabelled-length n t, state)
    where
      state : (s : ℕ) → s < length t → Rearranged n (edges t s) (edges (relabelled n t) s)
      state zero h =
          subst (Rearranged n (edges t 0)) (sym (relabelled-first n t)) (rearranged-same n (edges t 0) (full 0 h))
      state (suc k) h =
          subst (Rearranged n (edges t (suc k))) (sym (labels-row n t full (suc k) (suc-le-suc zero-le) h))
          (rearranged-row n (edges t (suc k)) (full (suc k) h) (take (suc k) (relabelled n t)))

  pub relabelled-full : Full n (relabelled n t)
  relabelled-full s h = (labels.2 s (rw (relabelled-length n t) at h)).long

  pub relabelled-at : (s d : ℕ) → s < length t → d < n
      → (k : ℕ) × (k < n) × (at (relabelled n t) s d ≡ at t s k)
  relabelled-at s d h l = rearranged-at n (edges t s) (edges (relabelled n t) s) (labels.2 s h) d l

-- what holds of every edge of a table holds with its data given anew
pub tabled-relabelled : (P : ℕ → ℕ → ℕ → Type 0) (n : ℕ) (t : Rows) (root : ℕ → ℕ) → Tabled P n t root
    → Tabled P n (relabelled n t) root
tabled-relabelled P n t root b =
    record {
      some = rw (relabelled-length n t) b.some;
      full = relabelled-full n t b.full;
      next = λ s d h l. let g : s < length t = rw (relabelled-length n t) at h in
          let (k, m, e) = relabelled-at n t b.full s d g l in
          rw (e, relabelled-length n t) (b.next s k g m);
      over = λ s d h l. let g : s < length t = rw (relabelled-length n t) at h in
          let (k, m, e) = relabelled-at n t b.full s d g l in rw e (b.over s k g m);
    }
