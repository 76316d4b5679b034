-- The component by value.
-- In order: the module of one component: component-states, state-low, keep-is, place_is, row_is, arcs-are, bounded,
-- graph_is, arcs-r, weights-r, states-r, fits-r, all-found, found_in.
-- Assumes nothing.
use Rattle.std.proofs.Common.{◌≡◌, ◌&&◌, ◌+◌, ◌≤◌, ◌<◌, if◌then◌else◌}
use Rattle.laws.proofs.All.{refl, sym, ap, subst, ◌∙◌, inl, inr, Bool, true, false, List, map, ℕ}
use Rattle.laws.proofs.All.{arith, lt-ltb, le-ltb, ltb-false, ne_eqb, T, ltb, length, get_or, take}
use Rattle.laws.proofs.All.{length-take, length-take-le, get_or-take, range, filter, first, elem}
use Rattle.laws.proofs.All.{index_of, sum, concat, Each, and→, T→true, each_map, each-always, each-filter}
use Rattle.laws.proofs.All.{each-image, each-range, each-union, each-elem, elem-filter, index-lt, each_at}
use Rattle.laws.proofs.All.{length-map-range, map-range-same, filter_same, filter_map, filter-both, filter-concat}
use Rattle.laws.proofs.All.{filter-never, map-concat, map_each, map-map}
use Rattle.constraint.specs.Walking.{Target}
use Rattle.compile_graph.specs.declared.Graph.{Graph}
use Rattle.std.proofs.Common.{Option, None, Some, is_none, IfSome}
use Rattle.compile_reach.specs.declared.reaching.Members.{Members}
use Rattle.compile_graph.specs.Arcs.{Arc, leads_on}
use Rattle.compile_graph.specs.Component.{both, within, renamed, renumbered, reachings, reaches, returning, live}
use Rattle.compile_graph.specs.Component.{weight_of}
use Rattle.compile_graph.specs.Component.{component_states, component_graph}
use Rattle.compile_graph.specs.Value.{arc_at, arcs_in, weights_in, work_in, Fits}
use Rattle.compile_weights.specs.PowerTable.{entry_at, word_at, words_at, tabled, Powers}
use Rattle.compile_reach.specs.ReachSets.{rows_of, Listed}
use Rattle.compile_component.specs.ComponentParts.{place_of, row_keeps, row_arc, row_of_state, Extended, Added, FoundIn}
use Rattle.compile_graph.proofs.Values.{fits-from, Bounded, Low}
use Rattle.compile_component.proofs.LiveArcs.{live-lt}

module _ (P : List ℕ) (words k : ℕ) (pw : Powers P words k) (v : List ℕ) (long : length v ≡ 16)
    (low : (s : ℕ) → s < k → get_or v s 0 ≤ 128) (M : List Bool) (s : ℕ)
    (reach : rows_of M k ≡ reachings k (within (live (take k v)) (tabled P words k)))
    (lowest : s ≡ first (returning (rows_of M k) (live (take k v))) 0 (live (take k v))) where
  abbrev weight : List ℕ
  weight = take k v

  abbrev g : List Arc
  g = tabled P words k

  abbrev C : List ℕ
  C = filter (reaches (rows_of M k) s) (live weight)

  component-states : component_states weight g ≡ C
  unfolding component_states
  component-states = cc (length-take-le k v (let h = pw.states in omega arith))

  C-lt : (t : ℕ) → T (elem t C) → t < k
  C-lt t u = live-lt v k pw.states long t (elem-filter (reaches (rows_of M k) s) t (live weight) u).1

  C-each : Each (λ t. t < k) C
  C-each = each_map (λ t. T (elem t C)) (λ t. t < k) C-lt C (each-elem C)

  weights-C : map (weight_of v) C ≡ map (weight_of weight) C
  weights-C =
      map_each (weight_of v) (weight_of weight) C
      (each_map (λ t. t < k) _ (λ t h. sym (get_or-take k v t 0 h)) C C-each)

  module _ (list : Members) (ls : length list.state ≡ 16) (is : Listed k C list) where
    C-few : length C ≤ 16
    C-few = omega (arith, ap length is.states, length-take list.count list.state, is.few)

    C-count : length C ≡ list.count
    C-count = ap length (sym is.states) ∙ length-take-le list.count list.state (omega (arith, is.few))

    pub state-low : (i : ℕ) → i < list.count → (get_or list.state i 0 < 16)
        × (get_or v (get_or list.state i 0) 0 ≤ 128)
    state-low i h =
        let e : get_or C i 0 ≡ get_or list.state i 0 =
        ap (λ l. get_or l i 0) (sym is.states) ∙ get_or-take list.count list.state i 0 h in
        let b : get_or list.state i 0 < k =
        subst (λ x. x < k) e (each_at (λ t. t < k) 0 C C-each i (rw C-count h)) in
        (let f = pw.states in omega arith, low (get_or list.state i 0) b)

    abbrev I : List ℕ
    I = list.index

    at-yes : (t : ℕ) → elem t C ≡ true → t < k → get_or I t 0 ≡ index_of t C
    at-yes t e h = is.places t h ∙ ap (λ b. if b then index_of t C else 16) e

    at-no : (t : ℕ) → elem t C ≡ false → t < k → get_or I t 0 ≡ 16
    at-no t e h = is.places t h ∙ ap (λ b. if b then index_of t C else 16) e

    small-index : (t : ℕ) → elem t C ≡ true → index_of t C < 16
    small-index t e = omega (arith, index-lt t C (rw e tt), C-few)

    place_in : (t : ℕ) → t < k → place_of I t ≡ get_or I t 0
    place_in t h = ap (λ b. if b then get_or I t 0 else 16) (lt-ltb t 16 (let f = pw.states in omega arith))

    keep-is : (t : ℕ) → Target k t → elem t C ≡ ltb (place_of I t) 16
    keep-is t (inl h) = go (elem t C) refl
      where
        go : (b : Bool) → elem t C ≡ b → b ≡ ltb (place_of I t) 16
        go true e = sym (lt-ltb (place_of I t) 16 (rw (place_in t h, at-yes t e h) (small-index t e)))
        go false e = sym (le-ltb (place_of I t) 16 (rw (place_in t h, at-no t e h) (omega arith)))
    keep-is t (inr q) = go (elem t C) refl
      where
        big : place_of I t ≡ 16
        big = ap (λ b. if b then get_or I t 0 else 16) (le-ltb t 16 (omega arith))

        go : (b : Bool) → elem t C ≡ b → b ≡ ltb (place_of I t) 16
        go true e = absurd (omega (arith, C-lt t (rw e tt), pw.states))
        go false e = sym (le-ltb (place_of I t) 16 (omega (arith, big)))

    place_is : (t : ℕ) → T (elem t C) → index_of t C ≡ place_of I t
    place_is t u =
        let e : elem t C ≡ true = T→true (elem t C) u in
        sym (place_in t (C-lt t u) ∙ at-yes t e (C-lt t u))

    -- the words from a state
    row_is : (x : ℕ) → x < k → map (renamed C) (filter (both C) (words_at P words x)) ≡ row_of_state P words I x
    row_is x h = go (elem x C) refl
      where
        go : (b : Bool) → elem x C ≡ b → map (renamed C) (filter (both C) (words_at P words x)) ≡ row_of_state P words I
            x
        go true e =
            ap (map (renamed C)) (filter_map (both C) (word_at P x) (range words))
            ∙ map-map (renamed C) (word_at P x) (filter (λ w. both C (word_at P x w)) (range words))
            ∙ ap (map (λ w. renamed C (word_at P x w)))
            (filter_same (λ w. both C (word_at P x w)) (row_keeps P I x) (range words)
            (each_map (λ w. w < words) _
            (λ w l. ap (λ b. b && elem (entry_at P x w) C) e ∙ keep-is (entry_at P x w) (pw.leads x w h l))
            (range words)
            (each-range words)))
            ∙ map_each (λ w. renamed C (word_at P x w)) (row_arc P I x) (filter (row_keeps P I x) (range words))
            (each-filter (λ w. renamed C (word_at P x w) ≡ row_arc P I x w) (row_keeps P I x) (range words)
            (each_map (λ w. w < words) _ (λ w l u. named w l u) (range words) (each-range words)))
            ∙ rw (lt-ltb (get_or I x 0) 16 (rw (at-yes x e h) (small-index x e)))
          where
            named : (w : ℕ) → w < words → T (row_keeps P I x w) → renamed C (word_at P x w) ≡ row_arc P I x w
            named w l u =
                cc (at-yes x e h, place_is (entry_at P x w) (rw (keep-is (entry_at P x w) (pw.leads x w h l)) u))
        go false e =
            ap (map (renamed C)) (filter_map (both C) (word_at P x) (range words)
            ∙ ap (map (word_at P x)) (filter-never (λ w. both C (word_at P x w)) (range words)
            (each-always _ (λ w. ap (λ b. b && elem (entry_at P x w) C) e) (range words))))
            ∙ rw (le-ltb (get_or I x 0) 16 (rw (at-no x e h) (omega arith)))

    arcs-are : renumbered C g ≡ concat (map (row_of_state P words I) (range k))
    unfolding tabled
    arcs-are =
        ap (map (renamed C)) (filter-both (both C) leads_on on (concat (map (words_at P words) (range k)))
        ∙ filter-concat (both C) (words_at P words) (range k))
        ∙ map-concat (renamed C) (λ x. filter (both C) (words_at P words x)) (range k)
        ∙ ap concat (map-range-same (λ x. map (renamed C) (filter (both C) (words_at P words x)))
        (row_of_state P words I) k row_is)
      where
        on : (e : Arc) → T (both C e) → T (leads_on e)
        on e u =
            let (a, b) = and→ (elem e.source C) (elem e.target C) u in
            rw (ne_eqb e.target 255 (λ q. omega (arith, C-lt e.target b, pw.states))) tt

    bounded : Each (Bounded (length C)) (renumbered C g)
    unfolding tabled
    bounded =
        each-image (Bounded (length C)) (renamed C) (within C g)
        (each-filter (λ e. Bounded (length C) (renamed C e)) (both C) g
        (each_map (λ e. e.word < 256) _
        (λ e h u. let (a, b) = and→ (elem e.source C) (elem e.target C) u in
        (index-lt e.source C a, index-lt e.target C b, h)) g
        (each-filter (λ e. e.word < 256) leads_on (concat (map (words_at P words) (range k)))
        (each_map (λ e. e.word < 256) _ (λ e h t. h) (concat (map (words_at P words) (range k)))
        (each-union (λ e. e.word < 256) (words_at P words) (range k)
        (each-always _ (λ x. each-image (λ e. e.word < 256) (word_at P x) (range words)
        (each_map (λ w. w < words) _ (λ w h. let f = pw.few in omega arith) (range words) (each-range words)))
        (range k)))))))

    graph_is : (h : Graph) → weights_in h ≡ map (weight_of v) C → arcs_in h ≡ renumbered C g → work_in h
        ≡ component_graph weight g
    unfolding component_graph
    graph_is h a b =
        (λ i. record { weights = (a ∙ weights-C) i; arcs = b i })
        ∙ ap (λ X. record { weights = map (weight_of weight) X; arcs = renumbered X g }) (sym component-states)

    weights-are : (component_graph weight g).weights ≡ map (weight_of v) C
    unfolding component_graph
    weights-are = ap (map (weight_of weight)) component-states ∙ sym weights-C

    count-is : length (component_graph weight g).arcs ≡ length (concat (map (row_of_state P words I) (range k)))
    unfolding component_graph
    count-is = rw (component-states, arcs-are)

    module _ (h : Graph) (hw : weights_in h ≡ map (weight_of v) (take list.count list.state))
        (hs : h.states ≡ list.count) (he : h.edges ≡ 0) (r : Option Graph)
        (add : Added h (concat (map (row_of_state P words I) (range k))) r) where
      abbrev rows : List Arc
      rows = concat (map (row_of_state P words I) (range k))

      module _ (q : Graph) (e : Extended h rows q) where
        arcs-r : arcs_in q ≡ renumbered C g
        arcs-r = e.arcs ∙ rw (he, arcs-are)

        weights-r : weights_in q ≡ map (weight_of v) C
        weights-r = rw (e.states, e.weight, ← is.states) hw

        states-r : q.states ≡ length C
        states-r = e.states ∙ hs ∙ sym C-count

        fits-r : ltb 2048 (h.edges + length rows) ≡ false → Fits q
        fits-r f =
            let n : q.edges ≡ length rows =
            sym (length-map-range (arc_at q) q.edges) ∙ ap length (arcs-r ∙ arcs-are) in
            let m : h.edges + length rows ≤ 2048 = ltb-false 2048 (h.edges + length rows) f in
            fits-from q (let p = states-r in omega (arith, C-few)) (omega arith)
            (rw weights-r (each-image Low (weight_of v) C (each_map (λ t. t < k) _ (λ t h. low t h) C C-each)))
            (rw (states-r, arcs-r) bounded)

      all-found : (r : Option Graph) → is_none r ≡ ltb 2048 (h.edges + length rows) → IfSome r (Extended h rows)
          → IfSome r (λ q. (work_in q ≡ component_graph weight g) × Fits q)
      all-found None f e = tt
      all-found (Some q) f e = (graph_is q (weights-r q e) (arcs-r q e), fits-r q e (sym f))

      pub found_in : (total start : ℕ) → total ≡ sum (map (weight_of v) (take list.count list.state))
          → start ≡ get_or (take list.count list.state) 0 0
          → FoundIn weight g (record { total = total; start = start; graph = r })
      found_in total start a b = record {
        total = a ∙ ap (λ l. sum (map (weight_of v) l)) is.states ∙ ap sum (sym weights-are);
        start = b ∙ ap (λ l. get_or l 0 0) (is.states ∙ sym component-states);
        crowds = add.crowds ∙ ap (ltb 2048) (ap (λ n. n + length rows) he ∙ sym (count-is ∙ zero-plus (length rows)));
        found = all-found r add.crowds add.extends;
      }
        where
          zero-plus : (x : ℕ) → x ≡ 0 + x
          zero-plus x = omega arith
