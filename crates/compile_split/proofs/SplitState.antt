-- Splitting a state, put together of its parts.
-- In order: Keyed; keys-inside, weights-low, map-weight, inside-run, kept-is, kept-total, share-le,
-- room_moved, parted-is.
-- Assumes nothing.
use Rattle.std.proofs.Common.{◌≡◌, ◌∷◌, ◌++◌, ◌+◌, ◌-◌, ◌*◌, ◌/◌, ◌%◌, ◌≤◌, ◌<◌}
use Rattle.laws.proofs.All.{refl, sym, ap, ap₂, subst, ◌∙◌, List, [], map, ℕ}
use Rattle.laws.proofs.All.{le_trans, div-le_of_le-mul, mul-le-mul_right, arith, T, length, get_or}
use Rattle.laws.proofs.All.{take, drop, set, length-take, length-map, range, filter, any}
use Rattle.laws.proofs.All.{first, Each, each_map, each_append, each-filter, each_take, each-image, image-each}
use Rattle.laws.proofs.All.{first_passes, each_at, map-range-at, each_set, length-map-range, map-take, map-drop}
use Rattle.laws.proofs.All.{map_each}
use Rattle.compile_graph.specs.declared.Graph.{Graph}
use Rattle.compile_choice.specs.declared.find_run.Run.{Run}
use Rattle.compile_graph.specs.Arcs.{Arc, arc, leaves, out}
use Rattle.compile_graph.specs.Weights.{weight, total}
use Rattle.compile_graph.specs.Splitting.{sort, greatest, lighter, other, candidates, first_run, kept, moved, doubled}
use Rattle.compile_graph.specs.Value.{arcs_in, weight_at, weights_in, Fits}
use Rattle.compile_order.specs.EdgeKeys.{arc_of, key_weight}
use Rattle.compile_choice.specs.ChoiceParts.{FirstRun}
use Rattle.compile_parts.specs.Parts.{Moved, entering, Doubled}
use Rattle.compile_split.specs.SplitParts.{kept_arcs, Weighed, PartedInto}
use Rattle.compile_graph.proofs.Choice.{total-le}
use Rattle.compile_graph.proofs.Candidates.{each-sort, any-sort}
use Rattle.compile_graph.proofs.Values.{Bounded, Low, fits-arcs, fits-from, fits-weights}
use Rattle.compile_split.proofs.SplitLists.{each-parted, entering-moved}

-- ---- one state split: the state s of weight M, and its candidates as keys
pub record Keyed (n : ℕ) (g : Graph) (s M : ℕ) (list : List ℕ) : Type 0 where
  pub fits : Fits g
  pub inside : s < g.states
  pub few : g.states < 128
  pub weighs : M ≡ get_or (weights_in g) s 0
  pub most : M ≡ greatest (weights_in g)
  pub some : T (any (lighter (weights_in g) M) (out (arcs_in g) s))
  pub ways : 0 < n
  pub few-keys : length list ≤ n
  pub narrow : n ≤ 16
  pub keys : map (arc_of s) list ≡ candidates n (weights_in g) M (sort (out (arcs_in g) s))

module _ {n : ℕ} {g : Graph} {s M : ℕ} {list : List ℕ} (C : Keyed n g s M list) where
  abbrev v : List ℕ
  v = weights_in g

  abbrev es : List Arc
  es = sort (out (arcs_in g) s)

  keys-inside : Each (λ k. k % 128 < g.states) list
  keys-inside =
      image-each (λ e. e.target < g.states) (arc_of s) list
      (subst (Each (λ e. e.target < g.states)) (sym C.keys) (
        (first_passes (lighter v M) (arc 0 0 0) (λ e. e.target < g.states) es
            (any-sort (lighter v M) (out (arcs_in g) s) C.some) inside).1,
        each_take (λ e. e.target < g.states) (n - 1) (filter (other (first (lighter v M) (arc 0 0 0) es)) es)
            (each-filter (λ e. e.target < g.states) (other (first (lighter v M) (arc 0 0 0) es)) es
            (each_map (λ e. e.target < g.states) _ (λ e h t. h) es inside)),
      ))
    where
      inside : Each (λ e. e.target < g.states) es
      inside =
          each-sort (λ e. e.target < g.states) (out (arcs_in g) s)
          (each-filter (λ e. e.target < g.states) (leaves s) (arcs_in g)
          (each_map (Bounded g.states) _ (λ e b t. b.1) (arcs_in g) (fits-arcs g C.fits)))

  module _ (w : List ℕ) (w-is : w ≡ map (key_weight g) list) where
    pub weights-low : (i : ℕ) → i < length w → get_or w i 0 ≤ 128
    weights-low i h =
        let e : get_or (map (key_weight g) list) i 0 ≡ get_or w i 0 =
        ap (λ l. get_or l i 0) (sym w-is) in
        subst Low e (each_at Low 0 (map (key_weight g) list)
        (each-image Low (key_weight g) list
        (each_map (λ k. k % 128 < g.states) _ (λ k l. C.fits.light (k % 128) l) list keys-inside)) i
        (rw (← w-is) h))

    map-weight : map (weight v) (candidates n v M es) ≡ w
    map-weight =
        ap (map (weight v)) (sym C.keys) ∙ both list
        ∙ map_each (λ k. weight v (arc_of s k)) (key_weight g) list
        (each_map (λ k. k % 128 < g.states) _ (λ k l. map-range-at (weight_at g) g.states (k % 128) 0 l)
        list
        keys-inside)
        ∙ sym w-is
      where
        both : (l : List ℕ) → map (weight v) (map (arc_of s) l) ≡ map (λ k. weight v (arc_of s k)) l
        both [] = refl
        both (x ∷ l) = ap (λ y. weight v (arc_of s x) ∷ y) (both l)

    module _ (run : Run) (run_is : FirstRun n w run) where
      abbrev keep : List Arc
      keep = kept n v (arcs_in g) s

      pub inside-run : run.from + run.count ≤ length list
      inside-run =
          let l : length w ≡ length list = ap length w-is ∙ length-map list (key_weight g) in
          omega (arith, run_is.inside)

      pub kept-is : kept_arcs s list run ≡ keep
      kept-is =
          map-take (arc_of s) run.count (drop run.from list)
          ∙ ap (take run.count) (map-drop (arc_of s) run.from list ∙ ap (drop run.from) C.keys)
          ∙ sym (run_is.run v (candidates n v M es) map-weight).0
          ∙ ap (λ m. first_run n v (candidates n v m es)) C.weighs

      pub kept-total : total v keep ≡ run.total
      kept-total =
          ap (total v) (sym (ap (λ m. first_run n v (candidates n v m es)) C.weighs)
          ∙ (run_is.run v (candidates n v M es) map-weight).0)
          ∙ (run_is.run v (candidates n v M es) map-weight).1

      kept-few : length keep ≤ n
      kept-few =
          let a : length (kept_arcs s list run) ≡ length (take run.count (drop run.from list)) =
          length-map (take run.count (drop run.from list)) (arc_of s) in
          let b = length-take run.count (drop run.from list) in
          omega (arith, ap length kept-is, inside-run, C.few-keys)

      pub share-le : run.total / n ≤ M
      share-le =
          div-le_of_le-mul n (subst (λ x. x ≤ n * M) kept-total
          (le_trans (total-le v keep) (rw (← C.most) (mul-le-mul_right M kept-few))))

      pub room_moved : g.edges + entering (arcs_in g) s ≤ 2048 → (h : Graph) → Moved g s (kept_arcs s list run) h
          → h.edges + entering (arcs_in h) s ≤ 2048
      room_moved r h m =
          let e : entering (arcs_in h) s ≡ entering (arcs_in g) s =
          ap (λ l. entering l s) m.arcs ∙ entering-moved s g.states (kept_arcs s list run) (arcs_in g) in
          omega (arith, m.edges)

      module _ (h : Graph) (m : Moved g s (kept_arcs s list run) h) (d : Graph) (D : Doubled h s d)
          (r : Graph) (W : Weighed d s (run.total / n) r) where
        weights-d : weights_in d ≡ v
        weights-d = ap₂ (λ k l. map (λ i. get_or l i 0) (range k)) (D.states ∙ m.states) (D.weight ∙ m.weight)

        states-r : r.states ≡ g.states + 1
        states-r = W.states ∙ ap (λ k. k + 1) (D.states ∙ m.states)

        arcs-r : arcs_in r ≡ doubled s g.states (map (moved s g.states keep) (arcs_in g))
        arcs-r =
            W.arcs ∙ D.arcs ∙ ap₂ (λ k l. doubled s k l) m.states m.arcs
            ∙ ap (λ q. doubled s g.states (map (moved s g.states q) (arcs_in g))) kept-is

        weights-r : weights_in r ≡ set v s (run.total / n) ++ ((get_or v s 0 - run.total / n) ∷ [])
        weights-r = W.weights ∙ ap (λ l. set l s (run.total / n) ++ ((get_or l s 0 - run.total / n) ∷ [])) weights-d

        pub parted-is : PartedInto n g s r
        parted-is = record {
          work =
              let K : length v ≡ g.states = length-map-range (weight_at g) g.states in
              let a : arcs_in r ≡ doubled s (length v) (map (moved s (length v) keep) (arcs_in g)) =
              arcs-r ∙ ap (λ k. doubled s k (map (moved s k keep) (arcs_in g))) (sym K) in
              let b : weights_in r ≡ set v s (total v keep / n) ++ ((get_or v s 0 - total v keep / n) ∷ []) =
              weights-r ∙ ap (λ t. set v s (t / n) ++ ((get_or v s 0 - t / n) ∷ [])) (sym kept-total) in
              λ i. record { weights = b i; arcs = a i };
          fits =
              let low : M ≤ 128 =
              subst (λ x. x ≤ 128) (sym (C.weighs ∙ map-range-at (weight_at g) g.states s 0 C.inside))
              (C.fits.light s C.inside) in
              fits-from r (let e = states-r in omega (arith, C.few)) (let e = W.edges in omega (arith, D.room))
              (subst (Each Low) (sym weights-r)
              (each_append Low (set v s (run.total / n)) ((get_or v s 0 - run.total / n) ∷ [])
              (each_set Low v s (run.total / n) (fits-weights g C.fits) (omega (arith, share-le)))
              (omega arith, tt)))
              (subst (λ k. Each (Bounded k) (arcs_in r)) (sym states-r)
              (subst (Each (Bounded (g.states + 1))) (sym arcs-r)
              (each-parted s g.states keep (arcs_in g) (fits-arcs g C.fits))));
        }
