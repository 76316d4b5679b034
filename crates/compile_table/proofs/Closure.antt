-- The states reachable from the start by the first edges of each state, by following the edges of one state after the
-- other.
-- In order: row-keys, row_inside; Forward, forward-start, forward-step, forward-end; row_stays.
-- Assumes nothing.
use Rattle.std.proofs.Common.{◌≡◌, ◌⊎◌, ◌&&◌, ◌||◌, ◌∷◌, ◌%◌, ◌<◌}
use Rattle.laws.proofs.All.{refl, sym, ap, subst, ◌∙◌, inl, inr, Bool, true, false, not, List}
use Rattle.laws.proofs.All.{[], map, ℕ, arith, ℕ_discrete, lt-ltb, ne_eqb, T, eqb, eqb→eq}
use Rattle.laws.proofs.All.{eqb_refl, length, get_or, take, set, length-set, get_or-set_other, range, filter, any}
use Rattle.laws.proofs.All.{concat, member, Each, or→, →or_l, →or_r, bool_eq, each_map, each_both, each-any, any-each}
use Rattle.laws.proofs.All.{any-map, each-union, each-range, each-for, length-map-range, filter_same, map-take}
use Rattle.compile_graph.specs.declared.Graph.{Graph}
use Rattle.compile_graph.specs.Arcs.{enters}
use Rattle.compile_graph.specs.Component.{reachings, reaches}
use Rattle.compile_table.specs.TableOf.{row, first_edges}
use Rattle.compile_graph.specs.Invariant.{Inside, Stays}
use Rattle.compile_graph.specs.Value.{arcs_in, weight_at, weights_in, work_in}
use Rattle.compile_order.specs.EdgeKeys.{arc_of, keys_from, admitted, first_keys}
use Rattle.compile_table.specs.Finishing.{Finished, entered_by}
use Rattle.compile_graph.proofs.Reach.{Reaching, reaches-is}
use Rattle.compile_table.proofs.Rows.{row-each, reach-row}
use Rattle.compile_order.proofs.EdgeOrder.{sort-keys, keys-small, weights-small}
use Rattle.compile_graph.proofs.Values.{fits-arcs, Bounded}

-- ---- the first edges of a state, by their keys
filter-all : {A : Type 0} (l : List A) → filter (λ x. true) l ≡ l
filter-all [] = refl
filter-all (x ∷ l) = ap (λ y. x ∷ y) (filter-all l)

module _ (n : ℕ) (g : Graph) (F : Finished n g) where
  pub row-keys : (s : ℕ) → map (arc_of s) (first_keys g s 256 65535 n) ≡ row n (arcs_in g) s
  unfolding first_keys
  row-keys s =
      let ks = keys_from (arcs_in g) s in
      map-take (arc_of s) n (filter (admitted (weights_in g) 256 65535) ks)
      ∙ ap (take n) (ap (map (arc_of s)) (filter_same (admitted (weights_in g) 256 65535) (λ k. true) ks
      (each_map (λ k. k < 32768) _ passes ks (keys-small g s F.fits)) ∙ filter-all ks)
      ∙ sym (sort-keys g s F.fits))
    where
      passes : (k : ℕ) → k < 32768 → admitted (weights_in g) 256 65535 k ≡ true
      passes k h =
          rw (
            lt-ltb (get_or (weights_in g) (k % 128) 0) 256 (weights-small g s F.fits (k % 128)),
            ne_eqb k 65535 (λ e. omega arith),
          )

  abbrev K : ℕ
  K = g.states

  i : Each (Inside K) (arcs_in g)
  i = each_map (Bounded K) (Inside K) (λ e b. (b.0, b.1)) (arcs_in g) (fits-arcs g F.fits)

  abbrev reach : ℕ → ℕ → Bool
  reach = reaches (reachings K (concat (map (row n (arcs_in g)) (range K))))

  reach-is : (s t : ℕ) → reaches (reachings K (first_edges n (work_in g))) s t ≡ reach s t
  reach-is s t = rw (length-map-range (weight_at g) g.states)

  pub row_inside : (s : ℕ) → Each (λ e. Inside K e × (e.source ≡ s)) (row n (arcs_in g) s)
  row_inside = row-each n (arcs_in g) (Inside K) i

  R : Reaching K (concat (map (row n (arcs_in g)) (range K))) reach
  R = reaches-is K (concat (map (row n (arcs_in g)) (range K)))

  pub record Forward (S D : List Bool) : Type 0 where
    pub long_s : length S ≡ 128
    pub long_d : length D ≡ 128
    pub zeroth : T (member S 0)
    pub closed : (s : ℕ) → s < K → T (member D s) → Each (λ e. T (member S e.target)) (row n (arcs_in g) s)
    pub sound : (t : ℕ) → t < K → T (member S t) → T (reach 0 t)

  pub forward-start : (S D : List Bool) → length S ≡ 128 → length D ≡ 128 → ((x : ℕ) → member S x ≡ (false || eqb 0 x))
      → ((x : ℕ) → member D x ≡ false) → Forward S D
  forward-start S D a b f d = record {
    long_s = a;
    long_d = b;
    zeroth = rw (f 0) tt;
    closed = λ s h t. absurd (subst T (d s) t);
    sound = λ t h u. subst (λ x. T (reach 0 x)) (eqb→eq 0 t (subst T (f t) u)) (R.self 0 F.some);
  }

  module _ (S D : List Bool) (c : Forward S D) (s : ℕ) (hs : s < K) (in-S : T (member S s)) (keys : List ℕ)
      (is : keys ≡ first_keys g s 256 65535 n) (S' : List Bool) (l : length S' ≡ 128)
      (marks : (x : ℕ) → member S' x ≡ (member S x || any (entered_by x) keys)) where
    marks-row : (x : ℕ) → member S' x ≡ (member S x || any (enters x) (row n (arcs_in g) s))
    marks-row x =
        marks x ∙ ap (λ b. member S x || b) (sym (any-map (enters x) (arc_of s) keys)
        ∙ ap (any (enters x)) (ap (map (arc_of s)) is ∙ row-keys s))

    grows : (x : ℕ) → T (member S x) → T (member S' x)
    grows x t = rw (marks-row x) (→or_l (member S x) (any (enters x) (row n (arcs_in g) s)) t)

    own : Each (λ e. T (member S' e.target)) (row n (arcs_in g) s)
    own = let r = row n (arcs_in g) s in
        each_map _ (λ e. T (member S' e.target)) (λ e f. rw (marks-row e.target)
        (→or_r (member S e.target) (any (enters e.target) r) (f e.target (eqb_refl e.target)))) r
        (each-for (λ y e. T (enters y e) → T (any (enters y) r)) r (λ y. each-any (enters y) r))

    pub forward-step : Forward S' (set D s true)
    forward-step = record {
      long_s = l;
      long_d = length-set D s true ∙ c.long_d;
      zeroth = grows 0 c.zeroth;
      closed = λ x h t. go x h (ℕ_discrete x s) t;
      sound = λ t h u. found t h (or→ (member S t) (any (enters t) (row n (arcs_in g) s)) (rw (marks-row t) at u));
    }
      where
        go : (x : ℕ) → x < K → Dec (x ≡ s) → T (member (set D s true) x)
            → Each (λ e. T (member S' e.target)) (row n (arcs_in g) x)
        go x h (yes q) t = rw q own
        go x h (no q) t =
            each_map (λ e. T (member S e.target)) (λ e. T (member S' e.target)) (λ e u. grows e.target u)
            (row n (arcs_in g) x) (c.closed x h (subst T (get_or-set_other D s x true false q) t))

        found : (t : ℕ) → t < K → T (member S t) ⊎ T (any (enters t) (row n (arcs_in g) s)) → T (reach 0 t)
        found t h (inl u) = c.sound t h u
        found t h (inr u) =
            let (e, q, (_, r)) = any-each (enters t) (λ e. Inside K e × T (reach 0 e.target)) (row n (arcs_in g) s) u
            (reach-row n K (arcs_in g) i s hs (c.sound s hs in-S)) in
            rw (eqb→eq e.target t q) at r

  pub forward-end : (S D : List Bool) → Forward S D
      → ((s : ℕ) → s < K → (member S s && not (member D s)) ≡ false) → (t : ℕ) → t < K
      → member S t ≡ reaches (reachings K (first_edges n (work_in g))) 0 t
  forward-end S D c f t h =
      bool_eq (member S t) (reach 0 t) (c.sound t h) (λ u. R.sound t h (member S) stays 0 u c.zeroth)
      ∙ sym (reach-is 0 t)
    where
      done : (s : ℕ) → s < K → T (member S s) → T (member D s)
      done s h t = go (member S s) (member D s) t (f s h)
        where
          go : (a b : Bool) → T a → (a && not b) ≡ false → T b
          go true true u e = tt
          go true false u e = absurd (subst T e tt)
          go false b u e = absurd u

      one : (s : ℕ) → s < K → Each (Stays (member S)) (row n (arcs_in g) s)
      one s h = let r = row n (arcs_in g) s in
          each_map _ (Stays (member S)) (λ e p t. p.1 (rw p.0.1 at t)) r (each_both _ _ r (row_inside s)
          (each-for (λ (t : T (member S s)) e. T (member S e.target)) r (λ t. c.closed s h (done s h t))))

      stays : Each (Stays (member S)) (concat (map (row n (arcs_in g)) (range K)))
      stays = each-union (Stays (member S)) (row n (arcs_in g)) (range K)
          (each_map (λ s. s < K) _ (λ s h. one s h) (range K) (each-range K))

-- the first edges of a state that is reached lead to states that are
module _ (n : ℕ) (g : Graph) (F : Finished n g) (S : List Bool)
    (is : (t : ℕ) → t < g.states → member S t ≡ reaches (reachings g.states (first_edges n (work_in g))) 0 t) where
  pub row_stays : (s : ℕ) → s < g.states → T (member S s)
      → Each (λ e. T (member S e.target) × (e.target < g.states)) (row n (arcs_in g) s)
  row_stays s h u =
      each_map (λ e. Inside g.states e × T (reach n g F 0 e.target)) _
      (λ e b. (rw (is e.target b.0.1 ∙ reach-is n g F 0 e.target) b.1, b.0.1)) (row n (arcs_in g) s)
      (reach-row n g.states (arcs_in g) (i n g F) s h (rw (is s h ∙ reach-is n g F 0 s) at u))
