-- The table: each state has n edges, to states of the table, and each is an edge between the roots. Its states are
-- those that are reachable, and its edges the first ones by word, then target.
-- In order: Tabled, table-length, reached, tabled, row-edges, reached-first, states-rise.
-- Assumes nothing.
use Rattle.std.proofs.Common.{◌≡◌, ◌↔◌, ◌∷◌, ◌≤◌, ◌<◌}
use Rattle.laws.proofs.All.{ap, ◌∙◌, Bool, List, [], map, ℕ, zero, suc, zero-le}
use Rattle.laws.proofs.All.{suc-le-suc, not-suc-le-zero, T, ltb, ltb→lt, length, get_or, length-map, T→true}
use Rattle.laws.proofs.All.{length-take-le, get_or-take, range, filter, elem, index_of, get_or-map-lt, Each, each_map}
use Rattle.laws.proofs.All.{each-always, each_both, each-for, each-union, each-range, each-elem, elem-each}
use Rattle.laws.proofs.All.{elem-filter, →elem-filter, each_at, elem-range, index-lt, at-index}
use Rattle.compile_graph.proofs.Arcs.{length-sort}
use Rattle.compile_graph.proofs.InOrder.{ordered_at, filter-rises}
use Rattle.compile_graph.specs.Invariant.{Inside, Stays}
use Rattle.compile_graph.specs.Reachable.{Reachable}
use Rattle.compile_graph.specs.Arcs.{Arc, arc, Work, out}
use Rattle.compile_graph.specs.Splitting.{sort}
use Rattle.compile_graph.specs.Component.{reachings, reaches}
use Rattle.table.specs.Rows.{Edge, edge, Rows, edges, at}
use Rattle.compile_table.specs.TableOf.{row, first_edges, table_states, named, table_of}
use Rattle.compile_graph.proofs.Reach.{reaches-is}
use Rattle.compile_table.proofs.Rows as rows

-- a table of rows of n edges, whose edges lie over P under the roots; the root of state 0 is 0
pub record Tabled (P : ℕ → ℕ → ℕ → Type 0) (n : ℕ) (t : Rows) (root : ℕ → ℕ) : Type 0 where
  pub some : 0 < length t
  pub full : (s : ℕ) → s < length t → length (edges t s) ≡ n
  pub next : (s d : ℕ) → s < length t → d < n → (at t s d).next < length t
  pub over : (s d : ℕ) → s < length t → d < n → P (root s) (at t s d).word (root (at t s d).next)

module _ (n : ℕ) (x : Work) (i : Each (Inside (length x.weights)) x.arcs) (pos : 0 < length x.weights) where
  abbrev K : ℕ
  K = length x.weights

  abbrev reach : ℕ → ℕ → Bool
  reach = rows.reach n (length x.weights) x.arcs i

  abbrev S : List ℕ
  S = table_states n x

  S-lt : (s : ℕ) → T (elem s S) → s < K
  unfolding table_states table_of
  S-lt s t = elem-each (λ s. s < K) s (range K) (elem-filter (reach 0) s (range K) t).1 (each-range K)

  zero_in : T (elem 0 S)
  unfolding table_states table_of
  zero_in =
      →elem-filter (reach 0) 0 (range K) (elem-range K 0 pos) ((reaches-is K (rows.firsts n K x.arcs i)).self 0 pos)

  -- the first edges of a state reached lead to states reached
  row_stays : (s : ℕ) → T (elem s S) → Each (λ e. T (elem e.target S)) (row n x.arcs s)
  unfolding table_states table_of
  row_stays s t =
      each_map _ (λ e. T (elem e.target S))
      (λ e h. →elem-filter (reach 0) e.target (range K) (elem-range K e.target h.0.1) h.1)
      (row n x.arcs s)
      (rows.reach-row n K x.arcs i s (S-lt s t) (elem-filter (reach 0) s (range K) t).0)

  -- the table's states are those that the first edges reach from state 0
  pub reached : (s : ℕ) → T (elem s (table_states n x)) ↔ Reachable (first_edges n x) 0 s
  unfolding table_states table_of
  reached s = (there, λ r. r (λ y. elem y S) closed zero_in)
    where
      there : T (elem s S) → Reachable (first_edges n x) 0 s
      there t Q c q =
          (reaches-is K (rows.firsts n K x.arcs i)).sound s (S-lt s t) Q c 0
          (elem-filter (reach 0) s (range K) t).0 q

      one : (y : ℕ) → Each (Stays (λ y. elem y S)) (row n x.arcs y)
      one y = let r = row n x.arcs y in
          each_map _ (Stays (λ y. elem y S)) (λ e p t. p.1 (rw p.0.1 at t)) r
          (each_both _ _ r (rows.row-each n x.arcs (Inside K) i y)
          (each-for (λ (t : T (elem y S)) e. T (elem e.target S)) r (λ t. row_stays y t)))

      closed : Each (Stays (λ y. elem y S)) (first_edges n x)
      closed = each-union (Stays (λ y. elem y S)) (row n x.arcs) (range K) (each-always _ one (range K))

  abbrev edges_at : ℕ → List Edge
  edges_at s = map (named S) (row n x.arcs s)

  pub table-length : length (table_of n x) ≡ length S
  unfolding table_states table_of
  table-length = length-map S edges_at

  S-at : (j : ℕ) → j < length S → T (elem (get_or S j 0) S)
  S-at j h = each_at (λ s. T (elem s S)) 0 S (each-elem S) j h

  edges_are : (j : ℕ) → j < length S → edges (table_of n x) j ≡ edges_at (get_or S j 0)
  unfolding table_states table_of
  edges_are j h = get_or-map-lt edges_at S j 0 [] h

  positive-length : (l : List ℕ) (y : ℕ) → T (elem y l) → 0 < length l
  positive-length [] y t = absurd t
  positive-length (z ∷ l) y t = suc-le-suc zero-le

  module _ (enough : (s : ℕ) → s < length x.weights → n ≤ length (out x.arcs s)) where
    row-length : (s : ℕ) → s < K → length (row n x.arcs s) ≡ n
    row-length s h = length-take-le n (sort (out x.arcs s)) (rw (length-sort (out x.arcs s)) (enough s h))

    at-is : (j d : ℕ) → j < length S → d < n
        → at (table_of n x) j d ≡ named S (get_or (row n x.arcs (get_or S j 0)) d (arc 0 0 0))
    at-is j d h k =
        rw (edges_are j h) (get_or-map-lt (named S) (row n x.arcs (get_or S j 0)) d (arc 0 0 0) (edge 0 0)
        (rw (row-length (get_or S j 0) (S-lt (get_or S j 0) (S-at j h))) k))

    -- an edge of the table, from what holds of the row
    from_row : (P : Arc → Type 0) (j d : ℕ) → j < length S → d < n → Each P (row n x.arcs (get_or S j 0))
        → P (get_or (row n x.arcs (get_or S j 0)) d (arc 0 0 0))
    from_row P j d h k e =
        each_at P (arc 0 0 0) (row n x.arcs (get_or S j 0)) e d
        (rw (row-length (get_or S j 0) (S-lt (get_or S j 0) (S-at j h))) k)

    pub tabled : (P : ℕ → ℕ → ℕ → Type 0) (r : ℕ → ℕ)
        → Each (λ e. P (r e.source) e.word (r e.target)) x.arcs
        → Tabled P n (table_of n x) (λ j. r (get_or (table_states n x) j 0))
    tabled P r o =
        record {
          some = rw table-length (positive-length S 0 zero_in);
          full = λ j h. let k : j < length S = rw table-length at h in
              rw (edges_are j k) (length-map (row n x.arcs (get_or S j 0)) (named S)
              ∙ row-length (get_or S j 0) (S-lt (get_or S j 0) (S-at j k)));
          next = λ j d h l. let k : j < length S = rw table-length at h in
              rw (table-length, at-is j d k l)
              (index-lt _ S (from_row (λ e. T (elem e.target S)) j d k l (row_stays (get_or S j 0) (S-at j k))));
          over = λ j d h l. let k : j < length S = rw table-length at h in
              rw (at-is j d k l) (over-row j k (get_or (row n x.arcs (get_or S j 0)) d (arc 0 0 0))
              (from_row (λ e. T (elem e.target S)
              × (P (r e.source) e.word (r e.target) × (e.source ≡ get_or S j 0))) j d k l
              (each_both _ _ (row n x.arcs (get_or S j 0)) (row_stays (get_or S j 0) (S-at j k))
              (rows.row-each n x.arcs (λ e. P (r e.source) e.word (r e.target)) o (get_or S j 0)))));
        }
      where
        over-row : (j : ℕ) → j < length S → (e : Arc)
            → T (elem e.target S) × (P (r e.source) e.word (r e.target) × (e.source ≡ get_or S j 0))
            → P (r (get_or S j 0)) e.word (r (get_or S (index_of e.target S) 0))
        over-row j k e (t, (o, p)) = rw (at-index e.target S t, ← p) o

    -- place d of state j has the d-th edge by word, then target, of the state that was renumbered j
    pub row-edges : (j d : ℕ) → j < length (table_of n x) → d < n
        → let e = get_or (sort (out x.arcs (get_or (table_states n x) j 0))) d (arc 0 0 0) in
        let y = at (table_of n x) j d in
        (y.word ≡ e.word) × (y.next < length (table_of n x)) × (get_or (table_states n x) y.next 0 ≡ e.target)
    row-edges j d l k =
        let h : j < length S = rw table-length at l in
        let es = sort (out x.arcs (get_or S j 0)) in
        let f = get_or (row n x.arcs (get_or S j 0)) d (arc 0 0 0) in
        let p : at (table_of n x) j d ≡ named S f = at-is j d h k in
        let q : f ≡ get_or es d (arc 0 0 0) = get_or-take n es d (arc 0 0 0) k in
        let r : T (elem f.target S) =
        from_row (λ e. T (elem e.target S)) j d h k (row_stays (get_or S j 0) (S-at j h)) in (
          ap (λ y. y.word) p ∙ ap (λ e. e.word) q,
          rw (table-length, p) (index-lt f.target S r),
          ap (λ y. get_or S y.next 0) p ∙ at-index f.target S r ∙ ap (λ e. e.target) q,
        )

-- state 0 stays state 0
pub reached-first : (n : ℕ) (x : Work) → 0 < length x.weights → get_or (table_states n x) 0 0 ≡ 0
unfolding table_states table_of
reached-first n x pos =
    go (length x.weights) pos ((reaches-is (length x.weights) (first_edges n x)).self 0 pos)
  where
    R : List (List Bool)
    R = reachings (length x.weights) (first_edges n x)

    go : (k : ℕ) → 0 < k → T (reaches R 0 0) → get_or (filter (reaches R 0) (range k)) 0 0 ≡ 0
    go zero h t = absurd (not-suc-le-zero h)
    go (suc k) h t = rw (T→true (reaches R 0 0) t)

-- the states keep their order
pub states-rise : (n : ℕ) (x : Work) (i k : ℕ) → i < k → k < length (table_states n x)
    → get_or (table_states n x) i 0 < get_or (table_states n x) k 0
unfolding table_states
states-rise n x i k h l =
    let R = reachings (length x.weights) (first_edges n x) in
    ltb→lt (get_or (table_states n x) i 0) (get_or (table_states n x) k 0)
    (ordered_at ltb 0 (table_states n x) (filter-rises (reaches R 0) 0 (length x.weights)) i k h l)
