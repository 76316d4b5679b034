-- Reaching: its steps, and that a closed set which holds a state holds all that it reaches.
-- In order: Reaching, reaches-is, reach-trans, reach-edge.
-- Assumes nothing.
use Rattle.std.proofs.Common.{◌≡◌, ◌<◌}
use Rattle.laws.proofs.All.{refl, sym, subst, ◌∙◌, inl, inr, Bool, true, false, not, List, [], map, ℕ}
use Rattle.laws.proofs.All.{le_trans, le_of_eq, T, eqb, eqb→eq, eqb_refl, length, get_or, range, any, and→, →and, or→}
use Rattle.laws.proofs.All.{→or_l, →or_r, map-range-at, tab→, →tab, Each, each_map, each_both, each-any, any-each}
use Rattle.laws.proofs.All.{member, missing, missing-le, grow-sub, member-lt, iterate-keeps, settles, each-for}
use Rattle.laws.proofs.All.{T_not, not_T, length-map-range}
use Rattle.compile_graph.specs.Invariant.{Inside, Stays}
use Rattle.compile_graph.specs.Arcs.{Arc}
use Rattle.compile_graph.specs.Component.{leads_into, reaches_into, with_sources, reaching, reachings, reaches}

before-length : (g : List Arc) (S : List Bool) → length (with_sources g S) ≡ length S
before-length g S = length-map-range (reaches_into g S) (length S)

before_more : (g : List Arc) (S : List Bool) (i : ℕ) → T (member S i) → T (member (with_sources g S) i)
before_more g S i t =
    →tab (reaches_into g S) (length S) i (member-lt S i t) (→or_l (member S i) (any (leads_into S i) g) t)

module _ (K : ℕ) (g : List Arc) (t : ℕ) where
  abbrev start : List Bool
  start = map (eqb t) (range K)

  start-length : length start ≡ K
  start-length = length-map-range (eqb t) K

  reaching-length : length (reaching K g t) ≡ K
  reaching-length = iterate-keeps (with_sources g) (λ S. length S ≡ K)
      (λ S e. before-length g S ∙ e) K start start-length

  reaching-fixed : with_sources g (reaching K g t) ≡ reaching K g t
  reaching-fixed =
      settles (with_sources g) missing (λ S. length S ≡ K) (λ S e. before-length g S ∙ e)
      (λ S e. grow-sub S (with_sources g S) (sym (before-length g S)) (before_more g S)) K start start-length
      (le_trans (missing-le start) (le_of_eq start-length))

  reaching-self : t < K → T (member (reaching K g t) t)
  reaching-self h = iterate-keeps (with_sources g) (λ S. T (member S t)) (λ S u. before_more g S t u) K start
      (→tab (eqb t) K t h (eqb_refl t))

  -- an edge to a state that reaches t
  reaching-step : Each (λ e. e.source < K → T (member (reaching K g t) e.target)
      → T (member (reaching K g t) e.source)) g
  reaching-step =
      let R = reaching K g t in
      each_map _ (λ e. e.source < K → T (member R e.target) → T (member R e.source))
      (λ e f h u. close e.source h
      (f e.source (→and (eqb e.source e.source) (member R e.target) (eqb_refl e.source) u))) g
      (each-for (λ s e. T (leads_into R s e) → T (any (leads_into R s) g)) g (λ s. each-any (leads_into R s) g))
    where
      close : (s : ℕ) → s < K → T (any (leads_into (reaching K g t) s) g) → T (member (reaching K g t) s)
      close s h u = let R = reaching K g t in
          subst (λ S. T (member S s)) reaching-fixed (→tab (reaches_into g R) (length R) s (rw reaching-length h)
          (→or_r (member R s) (any (leads_into R s) g) u))

  abbrev Sound : (ℕ → Bool) → List Bool → Type 0
  Sound Q S = (s : ℕ) → T (member S s) → T (Q s) → T (Q t)

  -- a closed set that holds a state that reaches t holds t
  reaching-sound : (Q : ℕ → Bool) → Each (Stays Q) g → (s : ℕ) → T (member (reaching K g t) s) → T (Q s) → T (Q t)
  reaching-sound Q c = iterate-keeps (with_sources g) (Sound Q) keep K start first_one
    where
      first_one : Sound Q start
      first_one s m q = subst (λ x. T (Q x)) (sym (eqb→eq t s (tab→ (eqb t) K s m).1)) q

      keep : (S : List Bool) → Sound Q S → Sound Q (with_sources g S)
      keep S h s m q = elim (or→ (member S s) (any (leads_into S s) g) (tab→ (reaches_into g S) (length S) s m).1) [
        | inl a ↦ h s a q
        | inr a ↦ let (e, u, stay) = any-each (leads_into S s) (Stays Q) g a c in
            let (a, b) = and→ (eqb e.source s) (member S e.target) u in
            h e.target b (stay (rw (eqb→eq e.source s a) q))
      ]

-- what the rest of the theory uses
pub record Reaching (K : ℕ) (g : List Arc) (reach : ℕ → ℕ → Bool) : Type 0 where
  pub self : (t : ℕ) → t < K → T (reach t t)
  pub step : (t : ℕ) → t < K → Each (λ e. e.source < K → T (reach e.target t) → T (reach e.source t)) g
  pub sound : (t : ℕ) → t < K → (Q : ℕ → Bool) → Each (Stays Q) g → (s : ℕ) → T (reach s t) → T (Q s) → T (Q t)

pub reaches-is : (K : ℕ) (g : List Arc) → Reaching K g (reaches (reachings K g))
reaches-is K g =
    record {
      self = λ t h. rw (at t h) (reaching-self K g t h);
      step = λ t h. rw (at t h) (reaching-step K g t);
      sound = λ t h Q c s u. reaching-sound K g t Q c s (rw (at t h) at u);
    }
  where
    at : (t : ℕ) → t < K → get_or (reachings K g) t [] ≡ reaching K g t
    at t h = map-range-at (reaching K g) K t [] h

module _ (K : ℕ) (g : List Arc) (reach : ℕ → ℕ → Bool) (R : Reaching K g reach) (i : Each (Inside K) g) where
  pub reach-trans : (s t u : ℕ) → t < K → u < K → T (reach s t) → T (reach t u) → T (reach s u)
  reach-trans s t u ht hu a b = go (reach s u) refl
    where
      closed : Each (Stays (λ x. not (reach x u))) g
      closed = each_map _ (Stays (λ x. not (reach x u)))
          (λ e h n. not_T (reach e.target u) (λ m. T_not (reach e.source u) n (h.1 h.0.0 m))) g
          (each_both (Inside K) _ g i (R.step u hu))

      go : (c : Bool) → reach s u ≡ c → T (reach s u)
      go true q = rw q tt
      go false q = absurd (T_not (reach t u) (R.sound t ht (λ x. not (reach x u)) closed s a (rw q tt)) b)

  -- an edge is reaching
  pub reach-edge : Each (λ e. T (reach e.source e.target)) g
  reach-edge =
      each_map _ (λ e. T (reach e.source e.target))
      (λ e h. h.1 e.target h.0.1 h.0.0 (R.self e.target h.0.1)) g
      (each_both (Inside K) _ g i (each-for _ g (λ t. each-for
      (λ (l : t < K) e. e.source < K → T (reach e.target t) → T (reach e.source t)) g (R.step t))))
