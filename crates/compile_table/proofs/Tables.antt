-- The rows of the table, and that all together are the table of the graph.
-- In order: keys-long, keys-low, key-lt, key-inside; key-stays; Laid, laid_none, laid-no,
-- laid-yes; states-are, index_is, row_laid, laid_end.
-- Assumes nothing.
use Rattle.std.proofs.Common.{◌≡◌, ◌+◌, ◌*◌, ◌/◌, ◌%◌, ◌≤◌, ◌<◌}
use Rattle.laws.proofs.All.{sym, ap, ap₂, subst, ◌∙◌, Bool, true, false, List, [], map, ℕ}
use Rattle.laws.proofs.All.{le_trans, arith, below_more, T, length, get_or, length-map}
use Rattle.laws.proofs.All.{length-take-le, range, filter, elem, index_of, member, Each, times, one}
use Rattle.laws.proofs.All.{T→true, each_map, each-filter, image-each, each_take, each-range, each-elem}
use Rattle.laws.proofs.All.{elem-filter, elem-each, each_at, index_at, range-once, tot-filter-le, length-map-range}
use Rattle.laws.proofs.All.{map-range-same, map-places, filter_same, map-map}
use Rattle.table.specs.Rows.{edge}
use Rattle.compile_graph.specs.declared.Graph.{Graph}
use Rattle.compile_table.specs.declared.finish_table.TableRows.{TableRows}
use Rattle.compile_graph.specs.Arcs.{out}
use Rattle.compile_graph.specs.Splitting.{sort}
use Rattle.compile_graph.specs.Component.{reachings, reaches}
use Rattle.compile_table.specs.TableOf.{row, first_edges, table_states, named, table_row, table_of}
use Rattle.compile_graph.specs.Value.{arcs_in, weight_at, weights_in, work_in}
use Rattle.compile_order.specs.EdgeKeys.{arc_of, keys_from, admitted, first_keys}
use Rattle.compile_table.specs.Finishing.{Finished, rank, row_edge, TableIn, RowPut}
use Rattle.compile_graph.proofs.Arcs.{length-sort}
use Rattle.compile_order.proofs.EdgeOrder.{keys-small}
use Rattle.compile_graph.proofs.UpTo.{up_to, index_kept}
use Rattle.compile_table.proofs.Closure.{row-keys, row_inside, row_stays}
use Rattle.compile_table.proofs.Ranks.{rank-none, rank-yes, rank-no, rank-le, rank-small}

module _ (n : ℕ) (g : Graph) (F : Finished n g) where
  abbrev K : ℕ
  K = g.states

  abbrev keys_at : ℕ → List ℕ
  keys_at s = first_keys g s 256 65535 n

  pub keys-long : (s : ℕ) → s < K → length (keys_at s) ≡ n
  keys-long s h =
      sym (length-map (keys_at s) (arc_of s)) ∙ ap length (row-keys n g F s)
      ∙ length-take-le n (sort (out (arcs_in g) s)) (rw (length-sort (out (arcs_in g) s)) (F.full s h))

  pub keys-low : (s : ℕ) → Each (λ k. k < 32768) (keys_at s)
  unfolding first_keys
  keys-low s =
      each_take (λ k. k < 32768) n (filter (admitted (weights_in g) 256 65535) (keys_from (arcs_in g) s))
      (each-filter (λ k. k < 32768) (admitted (weights_in g) 256 65535) (keys_from (arcs_in g) s)
      (each_map (λ k. k < 32768) _ (λ k b t. b) (keys_from (arcs_in g) s) (keys-small g s F.fits)))

  pub key-lt : (s : ℕ) → s < K → (d : ℕ) → d < n → get_or (keys_at s) d 0 < 32768
  key-lt s h d k = each_at (λ x. x < 32768) 0 (keys_at s) (keys-low s) d (rw (keys-long s h) k)

  pub key-inside : (s : ℕ) → s < K → (d : ℕ) → d < n → get_or (keys_at s) d 0 % 128 < K
  key-inside s h d k =
      each_at (λ x. x % 128 < K) 0 (keys_at s)
      (image-each (λ e. e.target < K) (arc_of s) (keys_at s)
      (subst (Each (λ e. e.target < K)) (sym (row-keys n g F s))
      (each_map _ (λ e. e.target < K) (λ e b. b.0.1) (row n (arcs_in g) s) (row_inside n g F s)))) d
      (rw (keys-long s h) k)

  module _ (S : List Bool) (reach : (t : ℕ) → t < K → member S t
      ≡ reaches (reachings K (first_edges n (work_in g))) 0 t) where
    -- the edge d of state s leads to a state of the set
    pub key-stays : (s : ℕ) → s < K → T (member S s) → (d : ℕ) → d < n
        → T (member S (get_or (keys_at s) d 0 % 128)) × (get_or (keys_at s) d 0 % 128 < K)
    key-stays s h u d k =
        each_at (λ x. T (member S (x % 128)) × (x % 128 < K)) 0 (keys_at s)
        (image-each (λ e. T (member S e.target) × (e.target < K)) (arc_of s) (keys_at s)
        (subst (Each (λ e. T (member S e.target) × (e.target < K))) (sym (row-keys n g F s))
        (row_stays n g F S reach s h u))) d (rw (keys-long s h) k)

    module _ (index : List ℕ) (ranks : (t : ℕ) → t < K → get_or index t 0 ≡ rank S t) where
      -- the rows of the states below t are laid
      pub record Laid (t count : ℕ) (r : TableRows) : Type 0 where
        pub counted : count ≡ rank S t
        pub long_w : length r.word ≡ 2048
        pub long_n : length r.next ≡ 2048
        pub word : (u : ℕ) → u < t → T (member S u) → (d : ℕ) → d < n
            → get_or r.word (rank S u * 16 + d) 0 ≡ get_or (keys_at u) d 0 / 128
        pub next : (u : ℕ) → u < t → T (member S u) → (d : ℕ) → d < n
            → get_or r.next (rank S u * 16 + d) 0 ≡ get_or index (get_or (keys_at u) d 0 % 128) 0

      pub laid_none : (r : TableRows) → length r.word ≡ 2048 → length r.next ≡ 2048 → Laid 0 0 r
      laid_none r a b = record {
        counted = sym (rank-none S);
        long_w = a;
        long_n = b;
        word = λ u h. absurd (omega arith);
        next = λ u h. absurd (omega arith);
      }

      module _ (t count : ℕ) (r : TableRows) (c : Laid t count r) where
        pub laid-no : member S t ≡ false → Laid (t + 1) count r
        laid-no e = record {
          counted = c.counted ∙ sym (rank-no S t e);
          long_w = c.long_w;
          long_n = c.long_n;
          word = below_more (λ u. T (member S u) → (d : ℕ) → d < n → get_or r.word (rank S u * 16 + d) 0
              ≡ get_or (keys_at u) d 0 / 128)
              t c.word (λ x. absurd (subst T e x));
          next = below_more (λ u. T (member S u) → (d : ℕ) → d < n
              → get_or r.next (rank S u * 16 + d) 0 ≡ get_or index (get_or (keys_at u) d 0 % 128) 0)
              t c.next (λ x. absurd (subst T e x));
        }

        -- a member below t stands in a lower row
        lower : (u : ℕ) → u < t → T (member S u) → rank S u + 1 ≤ rank S t
        lower u h m = omega (arith, rank-yes S u (T→true (member S u) m), rank-le S (u + 1) t (omega arith))

        pub laid-yes : member S t ≡ true → (r' : TableRows) → RowPut r (keys_at t) index count n r'
            → Laid (t + 1) (count + 1) r'
        laid-yes e r' p = record {
          counted = ap (λ x. x + 1) c.counted ∙ sym (rank-yes S t e);
          long_w = p.long_w;
          long_n = p.long_n;
          word = below_more (λ u. T (member S u) → (d : ℕ) → d < n → get_or r'.word (rank S u * 16 + d) 0
              ≡ get_or (keys_at u) d 0 / 128)
              t (λ u h m d l. p.kept_w (rank S u * 16 + d) (omega (arith, lower u h m, c.counted, F.few))
              ∙ c.word u h m d l)
              (λ m d l. ap (λ x. get_or r'.word (x * 16 + d) 0) (sym c.counted) ∙ p.word d l);
          next = below_more (λ u. T (member S u) → (d : ℕ) → d < n
              → get_or r'.next (rank S u * 16 + d) 0 ≡ get_or index (get_or (keys_at u) d 0 % 128) 0)
              t (λ u h m d l. p.kept_n (rank S u * 16 + d) (omega (arith, lower u h m, c.counted, F.few))
              ∙ c.next u h m d l)
              (λ m d l. ap (λ x. get_or r'.next (x * 16 + d) 0) (sym c.counted) ∙ p.next d l);
        }

      -- ---- all rows
      abbrev states : List ℕ
      states = up_to (member S) K

      states-are : table_states n (work_in g) ≡ states
      unfolding table_states
      states-are =
          ap (λ k. filter (reaches (reachings k (first_edges n (work_in g))) 0) (range k))
          (length-map-range (weight_at g) g.states)
          ∙ filter_same (reaches (reachings K (first_edges n (work_in g))) 0) (member S) (range K)
          (each_map (λ t. t < K) _ (λ t h. sym (reach t h)) (range K) (each-range K))

      once : (x : ℕ) → times x states ≤ 1
      once x = le_trans (tot-filter-le (one (lib.Dec.eqb x)) (member S) (range K)) (range-once x K)

      index_is : (t : ℕ) → t < K → T (member S t) → index_of t states ≡ rank S t
      unfolding rank
      index_is t h m = index_kept (member S) K t h (T→true (member S t) m)

      module _ (count : ℕ) (r : TableRows) (c : Laid K count r) where
        row_laid : (j : ℕ) → j < length states → map (row_edge r j) (range n)
            ≡ table_row n (work_in g) states (get_or states j 0)
        row_laid j h =
            let s = get_or states j 0 in
            let u : T (elem s states) = each_at (λ x. T (elem x states)) 0 states (each-elem states) j h in
            let (m, b) = elem-filter (member S) s (range K) u in
            let hs : s < K = elem-each (λ x. x < K) s (range K) b (each-range K) in
            let q : rank S s ≡ j = sym (index_is s hs m) ∙ index_at states once j h in
            map-range-same (row_edge r j)
            (λ d. edge (get_or (keys_at s) d 0 / 128) (index_of (get_or (keys_at s) d 0 % 128) states)) n
            (λ d l. let k = key-stays s hs m d l in
            ap₂ edge (ap (λ x. get_or r.word (x * 16 + d) 0) (sym q) ∙ c.word s hs m d l)
            (ap (λ x. get_or r.next (x * 16 + d) 0) (sym q) ∙ c.next s hs m d l
            ∙ ranks (get_or (keys_at s) d 0 % 128) k.1 ∙ sym (index_is (get_or (keys_at s) d 0 % 128) k.1 k.0)))
            ∙ ap (λ x. map (λ d. edge (get_or (keys_at s) d 0 / 128) (index_of (get_or (keys_at s) d 0 % 128) states))
            (range x))
            (sym (keys-long s hs))
            ∙ sym (map-places 0 (edge 0 0) (λ k. edge (k / 128) (index_of (k % 128) states)) (keys_at s))
            ∙ sym (map-map (named states) (arc_of s) (keys_at s)) ∙ ap (map (named states)) (row-keys n g F s)

        pub laid_end : TableIn n g (record { states = count; word = r.word; next = r.next })
        unfolding table_of rank
        laid_end = record {
          few = omega (arith, c.counted, rank-small S K, F.fits.few);
          rows =
              ap (λ k. map (λ s. map (row_edge r s) (range n)) (range k)) c.counted
              ∙ map-range-same (λ s. map (row_edge r s) (range n))
              (λ j. table_row n (work_in g) states (get_or states j 0))
              (length states) row_laid
              ∙ sym (map-places 0 [] (table_row n (work_in g) states) states)
              ∙ ap (λ X. map (table_row n (work_in g) X) X) (sym states-are);
        }
