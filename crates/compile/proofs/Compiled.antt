-- What compiling makes of a constraint under weights that meet the inequality: n edges a state, each a word that the
-- constraint reads between the roots; and when all weights are 0.
-- In order: inside; live-some, first-inv, first-rooted, states-few, table-coded, none-weighs.
-- Assumes nothing.
use Rattle.std.proofs.Common.{◌≡◌, ◌∷◌, ◌≤◌, ◌<◌}
use Rattle.laws.proofs.All.{refl, sym, ap, ◌∙◌, List, [], ℕ, zero, suc, zero-le, suc-le-suc}
use Rattle.laws.proofs.All.{le_refl, le_trans, le_of_eq, arith, T, lt→ltb, length, get_or, length-map, range}
use Rattle.laws.proofs.All.{sum, elem, index_of, length_from, Each, each_map, each_both, each-filter, each-image}
use Rattle.laws.proofs.All.{tot-length, tot-some, each-elem, →elem-filter, elem-range, at-index, tot-filter-le}
use Rattle.compile_graph.specs.Invariant.{Inside, Inv}
use Rattle.compile_graph.specs.Arcs.{Arc, Work, power, Reads}
use Rattle.compile_graph.specs.Weights.{Enough}
use Rattle.compile_graph.specs.Splitting.{split_all}
use Rattle.constraint.specs.Walking.{Constraint, Well}
use Rattle.compile_graph.specs.Component.{both, within, renamed, weighs, live, component_states, component_graph}
use Rattle.compile_table.specs.TableOf.{table_states, table_of}
use Rattle.compile_graph.proofs.Weights.{enough-total}
use Rattle.compile_graph.proofs.Found.{started-inv, start-C, in_both, v'-length}
use Rattle.compile_graph.proofs.Power.{power-distinct, power-reads, power-inside}
use Rattle.compile_graph.proofs.Roots.{Rooted, splits-rooted}
use Rattle.compile_graph.proofs.Loop.{states-le, splitted-end, splitted-full}
use Rattle.compile_table.proofs.TableOf.{Tabled, tabled, reached-first}

module _ (c : Constraint) (well : Well c) (n q : ℕ) (hn : 0 < n) (v : List ℕ) (long : length v ≡ length c)
    (enough : Enough n (power c q) v) where
  abbrev g : List Arc
  g = power c q

  abbrev x : Work
  x = component_graph v g

  abbrev C : List ℕ
  C = component_states v g

  pub inside : Each (Inside (length v)) g
  inside = rw long (power-inside c well q)

  -- a component that weighs something has a live state
  pub live-some : 0 < sum x.weights → (z : ℕ) × T (elem z (live v))
  unfolding component_graph component_states table_states table_of split_all
  live-some h = go (tot-some (λ s. get_or v s 0) (λ s. T (elem s (live v))) C h
      (each-filter (λ s. T (elem s (live v))) _ (live v)
      (each_map (λ s. T (elem s (live v))) _ (λ s t u. t) (live v) (each-elem (live v)))))
    where
      go : (z : ℕ) × (0 < get_or v z 0) × T (elem z (live v)) → (z : ℕ) × T (elem z (live v))
      go (z, a, b) = (z, b)

  module _ (z : ℕ) (ez : T (elem z (live v))) where
    pub first-inv : Inv n (sum x.weights) x
    first-inv = started-inv v g inside z ez n (power-distinct c q)
        (enough-total n g v enough)

    -- before any split each state is its own root
    abbrev pub Over : ℕ → ℕ → ℕ → Type 0
    Over a w b = Reads c q (get_or C a 0) w (get_or C b 0)

    pub first-rooted : Rooted Over (length x.weights) x (λ y. y)
    unfolding component_graph component_states table_states table_of split_all
    first-rooted =
        record {
          over = each-image (λ e. Over e.source e.word e.target) (renamed C) (within C g)
              (each_map _ (λ e. Over (index_of e.source C) e.word (index_of e.target C)) rename (within C g)
              (each_both _ _ (within C g) (in_both v g inside z ez)
              (each-filter (λ e. Reads c q e.source e.word e.target) (both C) g
              (each_map _ _ (λ e h t. h) g (power-reads c q)))));
          base = λ y h. refl;
          from = λ y h. h;
          more = le_refl _;
        }
      where
        rename : (e : Arc) → (T (elem e.source C) × T (elem e.target C))
            × Reads c q e.source e.word e.target
            → Over (index_of e.source C) e.word (index_of e.target C)
        rename e (t, h) = rw (at-index e.source C t.0, at-index e.target C t.1) h

    -- the split graph, and its table
    abbrev y : Work
    y = split_all n x

    pub states-few : length (table_of n y) ≤ sum x.weights
    unfolding component_graph component_states table_states table_of split_all
    states-few =
        let I : Inv n (sum x.weights) y = (splitted-end n (sum x.weights) hn x first-inv).0 in
        le_trans (le_of_eq (length-map (table_states n y) _))
        (le_trans (reached-le (table_states n y) refl) (states-le n (sum x.weights) hn y I))
      where
        reached-le : (S : List ℕ) → table_states n y ≡ S → length (table_states n y) ≤ length y.weights
        reached-le S e =
            le_trans (le_of_eq (sym (tot-length (table_states n y))))
            (le_trans (tot-filter-le (λ s. 1) _ (range (length y.weights)))
            (le_of_eq (tot-length (range (length y.weights)) ∙ length_from 0 (length y.weights))))

    pub table-coded : length y.arcs ≤ 2048
        → (root : ℕ → ℕ) × Tabled (Reads c q) n (table_of n y) root × (root 0 ≡ get_or C 0 0)
    unfolding component_graph component_states table_states table_of split_all
    table-coded few = go (splits-rooted Over (length x.weights) n (sum x.weights) hn (sum x.weights) x
        (λ y. y) first-inv first-rooted)
      where
        I : Inv n (sum x.weights) y
        I = (splitted-end n (sum x.weights) hn x first-inv).0

        C-pos : (l : List ℕ) (s : ℕ) → T (elem s l) → 0 < length l
        C-pos [] s t = absurd t
        C-pos (a ∷ l) s t = suc-le-suc zero-le

        pos : 0 < length x.weights
        pos = rw (v'-length v g inside z ez) (C-pos C _ (start-C v g inside z ez))

        go : (r : ℕ → ℕ) × Rooted Over (length x.weights) y r
            → (root : ℕ → ℕ) × Tabled (Reads c q) n (table_of n y) root × (root 0 ≡ get_or C 0 0)
        go (r, R) =
            let many : 0 < length y.weights = le_trans pos R.more in
            let A : Tabled Over n (table_of n y) (λ j. r (get_or (table_states n y) j 0)) =
            tabled n y I.inside many (splitted-full n (sum x.weights) hn x first-inv few) Over r
            R.over in (
              λ j. get_or C (r (get_or (table_states n y) j 0)) 0,
              record { some = A.some; full = A.full; next = A.next; over = A.over },
              ap (λ k. get_or C (r k) 0) (reached-first n y many) ∙ ap (λ k. get_or C k 0) (R.base 0 pos),
            )

  -- refusal 3 exactly when all weights are 0
  pub none-weighs : sum x.weights ≡ 0 → (s : ℕ) → s < length v → get_or v s 0 ≡ 0
  unfolding component_graph component_states table_states table_of split_all
  none-weighs h s l = go (get_or v s 0) refl
    where
      go : (k : ℕ) → get_or v s 0 ≡ k → get_or v s 0 ≡ 0
      go zero e = e
      go (suc k) e =
          let t : T (elem s (live v)) =
          →elem-filter (weighs v) s (range (length v)) (elem-range (length v) s l)
          (lt→ltb 0 (get_or v s 0) (rw e (suc-le-suc zero-le))) in
          let I : Inv n (sum x.weights) x = first-inv s t in
          let p : 0 < length x.weights = rw (v'-length v g inside s t) (C-pos C _ (start-C v g inside s t)) in
          absurd (omega (arith, states-le n (sum x.weights) hn x I))
        where
          C-pos : (l : List ℕ) (s : ℕ) → T (elem s l) → 0 < length l
          C-pos [] s t = absurd t
          C-pos (a ∷ l) s t = suc-le-suc zero-le
