-- The component: there is a state that every state reachable from it reaches back, and what is reachable from it.
-- In order: good-some, start-in, C-closed, C-joined.
-- Assumes nothing.
use Rattle.std.proofs.Common.{◌≡◌, ◌⊎◌, ◌&&◌, ◌||◌, ◌+◌, ◌≤◌, ◌<◌, if◌then◌else◌}
use Rattle.laws.proofs.All.{refl, subst, inl, inr, Bool, true, false, not, List, ℕ, zero, suc}
use Rattle.laws.proofs.All.{zero-le, le_refl, arith, T, eqb, filter, any, elem, all}
use Rattle.laws.proofs.All.{and→, →and, so, nay, eqb_is, T→true, imp→, Each, tot, one, times, each_map, each_both}
use Rattle.laws.proofs.All.{each-any, tot-le, tot-add, any→count, each-elem, elem-each, elem-filter, →elem-filter}
use Rattle.laws.proofs.All.{all-each, not-all}
use Rattle.compile_graph.specs.Invariant.{Inside, Stays}
use Rattle.compile_graph.specs.Arcs.{Arc}
use Rattle.compile_graph.specs.Component.{returns}
use Rattle.compile_graph.proofs.Reach.{Reaching, reach-trans, reach-edge}

module _ (K : ℕ) (L : List ℕ) (g : List Arc) (reach : ℕ → ℕ → Bool) (R : Reaching K g reach) (i : Each (Inside K) g)
    (in_k : Each (λ s. s < K) L) where
  abbrev good : ℕ → Bool
  good s = all (returns reach s) L

  abbrev size : ℕ → ℕ
  size s = tot (one (reach s)) L

  lt : (s : ℕ) → T (elem s L) → s < K
  lt s t = elem-each (λ s. s < K) s L t in_k

  -- t is reachable from s and does not reach back: fewer states are reachable from t
  smaller : (s t : ℕ) → T (elem s L) → t < K → T (reach s t) → reach t s ≡ false → size t < size s
  smaller s t es ht a b =
      let c : 0 < times s L = any→count (eqb s) L es in
      let d : tot (λ x. one (reach t) x + one (eqb s) x) L ≤ size s =
      tot-le (λ x. one (reach t) x + one (eqb s) x) (one (reach s)) L (each_map (λ x. x < K) _ point L in_k) in
      omega (arith, tot-add (one (reach t)) (one (eqb s)) L)
    where
      point : (x : ℕ) → x < K → one (reach t) x + one (eqb s) x ≤ one (reach s) x
      point x hx = elim (eqb_is s x) [
        | so p q ↦ rw (q, ← p, b, T→true (reach s s) (R.self s (lt s es))) (le_refl 1)
        | nay p q ↦ rw q (rest (reach t x) refl)
      ]
        where
          rest : (c : Bool) → reach t x ≡ c → (if c then 1 else 0) + 0 ≤ one (reach s) x
          rest true q = rw (T→true (reach s x) (reach-trans K g reach R i s t x ht hx a (rw q tt))) (le_refl 1)
          rest false q = zero-le

  fails : (a b : Bool) → (not a || b) ≡ false → (a ≡ true) × (b ≡ false)
  fails true b e = (refl, e)
  fails false b e = absurd (subst T e tt)

  -- a state that is not good leads to one from which fewer can be reached
  lower : (s : ℕ) → T (elem s L) → T (any good L) ⊎ ((t : ℕ) × T (elem t L) × (size t < size s))
  lower s es = go (good s) refl
    where
      go : (b : Bool) → good s ≡ b → T (any good L) ⊎ ((t : ℕ) × T (elem t L) × (size t < size s))
      go true q = inl (elem-each (λ s. T (good s) → T (any good L)) s L es (each-any good L) (rw q tt))
      go false q =
          let (t, e, et) = not-all (returns reach s) (λ t. T (elem t L)) L q (each-elem L) in
          let (p, r) = fails (reach s t) (reach t s) e in
          inr (t, et, smaller s t es (lt t et) (rw p tt) r)

  -- there is a state that all states reachable from it reach back
  descend : (k s : ℕ) → T (elem s L) → size s ≤ k → T (any good L)
  descend zero s es h = elim (lower s es) [ inl u ↦ u | inr (t, et, l) ↦ absurd (omega arith) ]
  descend (suc k) s es h = elim (lower s es) [ inl u ↦ u | inr (t, et, l) ↦ descend k t et (omega arith) ]

  pub good-some : (s : ℕ) → T (elem s L) → T (any good L)
  good-some s es = descend (size s) s es (le_refl (size s))

  -- the component of a good state
  module _ (s : ℕ) (es : T (elem s L)) (gs : T (good s)) (stay : Each (λ e. T (elem e.target L)) g) where
    abbrev C : List ℕ
    C = filter (reach s) L

    pub start-in : T (elem s C)
    start-in = →elem-filter (reach s) s L es (R.self s (lt s es))

    C-back : (x : ℕ) → T (elem x C) → T (reach x s)
    C-back x t =
        let u : T (reach s x) × T (elem x L) = elem-filter (reach s) x L t in
        imp→ (reach s x) (reach x s)
        (elem-each (λ x. T (returns reach s x)) x L u.1 (all-each (returns reach s) L gs)) u.0

    -- edges of the component stay in it
    pub C-closed : Each (λ e. T (elem e.source C) → T (elem e.target C)) g
    C-closed =
        each_map _ (λ e. T (elem e.source C) → T (elem e.target C)) closed g
        (each_both _ _ g (each_both (Inside K) _ g i (reach-edge K g reach R i)) stay)
      where
        closed : (e : Arc) → (Inside K e × T (reach e.source e.target)) × T (elem e.target L)
            → T (elem e.source C) → T (elem e.target C)
        closed e h t =
            →elem-filter (reach s) e.target L h.1
            (reach-trans K g reach R i s e.source e.target h.0.0.0 h.0.0.1
            (elem-filter (reach s) e.source L t).0 h.0.1)

    -- a set with a member of the component, closed in it, holds all of it
    pub C-joined : (Q : ℕ → Bool) → Each (λ e. T (elem e.source C) → Stays Q e) g → (x y : ℕ) → T (elem x C)
        → T (elem y C) → T (Q x) → T (Q y)
    C-joined Q c x y ex ey q =
        let a : T (Q' s) = R.sound s (lt s es) Q' closed x (C-back x ex) (→and (elem x C) (Q x) ex q) in
        let b : T (Q' y) = R.sound y (lt y (elem-filter (reach s) y L ey).1) Q' closed s
        (elem-filter (reach s) y L ey).0 a in
        (and→ (elem y C) (Q y) b).1
      where
        Q' : ℕ → Bool
        Q' z = elem z (filter (reach s) L) && Q z

        closed : Each (Stays (λ z. elem z (filter (reach s) L) && Q z)) g
        closed =
            each_map _ (Stays (λ z. elem z (filter (reach s) L) && Q z))
            (λ e h t. let u : T (elem e.source C) × T (Q e.source) =
            and→ (elem e.source C) (Q e.source) t in
            →and (elem e.target C) (Q e.target) (h.0 u.0) (h.1 u.0 u.1)) g
            (each_both (λ e. T (elem e.source C) → T (elem e.target C))
            (λ e. T (elem e.source C) → Stays Q e) g C-closed c)
