-- The places of pairs stand for the pairs of the definition `obeys`, so the test of the reached places decides it.
-- In order: state_of, pair_of and their laws, one edge; reached_has; obeys-is.
-- Assumes nothing.
use Rattle.std.proofs.Common.{◌≡◌, ◌+◌, ◌*◌, ◌/◌, ◌%◌, ◌^◌, ◌≤◌, ◌<◌, if◌then◌else◌}
use Rattle.laws.proofs.All.{refl, sym, ap, ap₂, subst, subst₂, ◌∙◌, inl, inr, Bool, true, false, List, ℕ}
use Rattle.laws.proofs.All.{arith, ℕ_discrete, eq-eqb, ne_eqb, T, T_not, not_T, eqb}
use Rattle.laws.proofs.All.{eqb→eq, length, get_or, pow_mono, has, bool_eq, all-below→, →all-below}
use Rattle.laws.proofs.All.{quotient-of, remainder_of}
use Rattle.constraint.specs.Walking.{none, walk}
use Rattle.constraint.specs.Value.{constraint_of}
use Rattle.constraint.specs.PowerTable.{power_codes}
use Rattle.constraint.proofs.Values.{length-constraint_of}
use Rattle.constraint.proofs.PowerTable.{codes_at}
use Rattle.table.specs.declared.Table.{Table}
use Rattle.table.specs.Rows.{Edge}
use Rattle.table.specs.Value.{word_at, next_at, rows_in, code_in}
use Rattle.record_obeys.specs.Obeys.{reached_pairs, obeys}
use Rattle.table.specs.Edges.{lent}
use Rattle.table.proofs.Shape.{inside}
use Rattle.table.proofs.RowsOf.{length-rows, row-long, edge-at}
use Rattle.record_obeys.proofs.Reached.{reached-lt, reached-start, reached-step}
use Rattle.record_obeys.proofs.AnyClosure.{obeys-by, disobeys-by}
use Rattle.record_queue.specs.Places.{state_after, pair_after, finds_at}
use Rattle.record_obeys.specs.Obeying.{Reached, Followed, Followable}
use Rattle.record_obeys.specs.Obeying.Reached.{origin, carried}

-- ---- one edge from the pair of s and k
abbrev power_in : Table → List ℕ
power_in t = power_codes (constraint_of t.constraint) t.q

abbrev walk_in : Table → ℕ → ℕ → ℕ → ℕ
walk_in t s k d = walk (constraint_of t.constraint) t.q (word_at t s d) k

abbrev state_of : Table → ℕ → ℕ → ℕ → ℕ
state_of t s k d = get_or (power_in t) (k * 256 + word_at t s d) 0

abbrev pair_of : Table → ℕ → ℕ → ℕ → ℕ
pair_of t s k d = if eqb (state_of t s k d) none then 2048 else next_at t s d * 16 + state_of t s k d

abbrev place_after : Table → ℕ → ℕ → ℕ
place_after t = pair_after t.word t.next (power_in t)

pair-none : (t : Table) (s k d : ℕ) → state_of t s k d ≡ none → pair_of t s k d ≡ 2048
pair-none t s k d e = rw (eq-eqb (state_of t s k d) none e)

pair-some : (t : Table) (s k d : ℕ) → (state_of t s k d ≡ none → ⊥)
    → pair_of t s k d ≡ next_at t s d * 16 + state_of t s k d
pair-some t s k d e = rw (ne_eqb (state_of t s k d) none e)

-- the place of s and k
state-at : (t : Table) (s k d : ℕ) → k < 16 → state_after t.word (power_in t) (s * 16 + k) d ≡ state_of t s k d
state-at t s k d h = ap₂ (λ s k. state_of t s k d) (quotient-of 16 s k h) (remainder_of 16 s k h)

pair-at : (t : Table) (s k d : ℕ) → k < 16 → place_after t (s * 16 + k) d ≡ pair_of t s k d
pair-at t s k d h = ap₂ (λ s k. pair_of t s k d) (quotient-of 16 s k h) (remainder_of 16 s k h)

module _ (t : Table) (h : Followable t) where
  count : length (constraint_of t.constraint) ≡ t.constraint.states
  count = length-constraint_of t.constraint

  state-walk : (s k d : ℕ) → s < t.states → k < t.constraint.states → d < 2 ^ t.p
      → state_of t s k d ≡ walk_in t s k d
  state-walk s k d hs hk hd =
      let r = h.ready in
      let w : 2 ^ t.q ≤ 2 ^ 8 = pow_mono r.short in
      codes_at (constraint_of t.constraint) t.q k (word_at t s d) w (rw count hk) (let l = r.limits in omega arith)
      (r.reading s d hs hd)

  walk-in : (s k d : ℕ) → k < t.constraint.states → (walk_in t s k d ≡ none → ⊥)
      → walk_in t s k d < t.constraint.states
  walk-in s k d hk e =
      elim (inside (constraint_of t.constraint) (rw count (let l = h.ready.limits in omega arith)) h.nexts t.q
      (word_at t s d) k (rw count hk)) [ inl z ↦ absurd (e z) | inr l ↦ rw count at l ]

  -- ---- a place that is reached stands for a reached pair
  has-start : T (has (reached_pairs (code_in t)) (t.start / 16) (t.start % 16))
  has-start =
      let l = h.ready.limits in
      let b = h.begin in
      let z : 0 ≡ t.start / 16 = omega arith in
      let m : t.start ≡ t.start % 16 = omega arith in
      subst₂ (λ s k. T (has (reached_pairs (code_in t)) s k)) z m
      (reached-start (code_in t) (rw (length-rows (lent t)) h.ready.some) (rw count b))

  has-step : (s k d : ℕ) → s < t.states → d < 2 ^ t.p → T (has (reached_pairs (code_in t)) s k)
      → walk_in t s k d < t.constraint.states → T (has (reached_pairs (code_in t)) (next_at t s d) (walk_in t s k d))
  has-step s k d hs hd u l =
      subst Steps (edge-at (lent t) s d hs hd) (reached-step (code_in t) s k d u (rw (row-long (lent t) s hs) hd))
      (rw (length-rows (lent t)) (h.ready.inside s d hs hd)) (rw count l)
    where
      Steps : Edge → Type 0
      Steps e = e.next < length (rows_in t)
          → walk (constraint_of t.constraint) t.q e.word k < length (constraint_of t.constraint)
          → T (has (reached_pairs (code_in t)) e.next (walk (constraint_of t.constraint) t.q e.word k))

  has-next : (x d y : ℕ) → T (has (reached_pairs (code_in t)) (x / 16) (x % 16)) → d < 2 ^ t.p → place_after t x d ≡ y
      → y < 2048 → T (has (reached_pairs (code_in t)) (y / 16) (y % 16))
  has-next x d y u hd e l = go (ℕ_discrete (state_of t s k d) none)
    where
      s : ℕ
      s = x / 16

      k : ℕ
      k = x % 16

      hs : s < t.states
      hs = rw (length-rows (lent t)) at (reached-lt (code_in t) s k u).0

      hk : k < t.constraint.states
      hk = rw count at (reached-lt (code_in t) s k u).1

      w : state_of t s k d ≡ walk_in t s k d
      w = state-walk s k d hs hk hd

      go : Dec (state_of t s k d ≡ none) → T (has (reached_pairs (code_in t)) (y / 16) (y % 16))
      go (yes z) = absurd (let p : 2048 ≡ y = sym (pair-none t s k d z) ∙ e in omega arith)
      go (no z) =
          let b = walk-in s k d hk (λ q. z (w ∙ q)) in
          let m = h.ready.limits in
          let p : next_at t s d * 16 + walk_in t s k d ≡ y =
          ap (λ j. next_at t s d * 16 + j) (sym w) ∙ sym (pair-some t s k d z) ∙ e in
          let i : next_at t s d ≡ y / 16 = omega arith in
          let j : walk_in t s k d ≡ y % 16 = omega arith in
          subst₂ (λ s k. T (has (reached_pairs (code_in t)) s k)) i j (has-step s k d hs hd u b)

  pub reached_has : {x : ℕ} → Reached (place_after t) (2 ^ t.p) t.start x
      → T (has (reached_pairs (code_in t)) (x / 16) (x % 16))
  reached_has origin = has-start
  reached_has (carried x d y r l e b) = has-next x d y (reached_has r) l e b

  -- ---- the test of the reached places decides `obeys`
  module _ (r : Bool)
      (c : Followed (place_after t) (finds_at t.word (power_in t)) (2 ^ t.p) t.start r) where
    -- the pairs whose places are reached
    Held : ℕ → ℕ → Type 0
    Held s k =
        (s < t.states) × (k < t.constraint.states) × Reached (place_after t) (2 ^ t.p) t.start (s * 16 + k)

    held_start : Held 0 t.start
    unfolding Held
    held_start =
        let z : t.start ≡ 0 * 16 + t.start = omega arith in
        (h.ready.some, h.begin, subst (Reached (place_after t) (2 ^ t.p) t.start) z origin)

    held_next : (s k d : ℕ) → Held s k → d < 2 ^ t.p → walk_in t s k d < t.constraint.states
        → Held (next_at t s d) (walk_in t s k d)
    unfolding Held
    held_next s k d (hs, hk, u) hd l = (i, l, carried (s * 16 + k) d (next_at t s d * 16 + walk_in t s k d) u hd e b)
      where
        m : t.constraint.states ≤ 16
        m = h.ready.limits

        i : next_at t s d < t.states
        i = h.ready.inside s d hs hd

        w : state_of t s k d ≡ walk_in t s k d
        w = state-walk s k d hs hk hd

        e : place_after t (s * 16 + k) d ≡ next_at t s d * 16 + walk_in t s k d
        e = pair-at t s k d (omega arith) ∙ pair-some t s k d (λ z. omega (arith, w, m))
            ∙ ap (λ j. next_at t s d * 16 + j) w

        b : next_at t s d * 16 + walk_in t s k d < 2048
        b = let f = h.ready.few in omega (arith, i, m)

    held-finds : T r → (s k d : ℕ) → Held s k → d < 2 ^ t.p → (walk_in t s k d ≡ none) → ⊥
    unfolding Held
    held-finds g s k d (hs, hk, u) hd e =
        let m = h.ready.limits in
        let q : state_after t.word (power_in t) (s * 16 + k) d ≡ none =
        state-at t s k d (omega arith) ∙ state-walk s k d hs hk hd ∙ e in
        T_not (eqb (state_after t.word (power_in t) (s * 16 + k) d) none)
        (all-below→ (finds_at t.word (power_in t) (s * 16 + k)) (2 ^ t.p) (c.passed g (s * 16 + k) u) d hd)
        (rw (eq-eqb (state_after t.word (power_in t) (s * 16 + k) d) none q) tt)

    obeys-if : T r → T (obeys (code_in t))
    unfolding Held
    obeys-if g =
        obeys-by (code_in t) Held held_start
        (λ s k d q a l. let hd : d < 2 ^ t.p = rw (row-long (lent t) s q.0) at a in
        subst (Steps k) (sym (edge-at (lent t) s d q.0 hd)) (λ l. held_next s k d q hd (rw count at l)) l)
        (λ s k d q a. let hd : d < 2 ^ t.p = rw (row-long (lent t) s q.0) at a in
        subst (Fails k) (sym (edge-at (lent t) s d q.0 hd)) (held-finds g s k d q hd))
      where
        Steps : ℕ → Edge → Type 0
        Steps k e = walk (constraint_of t.constraint) t.q e.word k < length (constraint_of t.constraint)
            → Held e.next (walk (constraint_of t.constraint) t.q e.word k)

        Fails : ℕ → Edge → Type 0
        Fails k e = (walk (constraint_of t.constraint) t.q e.word k ≡ none) → ⊥

    refuted : (x d : ℕ) → d < 2 ^ t.p → state_after t.word (power_in t) x d ≡ none
        → T (has (reached_pairs (code_in t)) (x / 16) (x % 16)) → T (obeys (code_in t)) → ⊥
    refuted x d hd e v g =
        let hs : x / 16 < t.states = rw (length-rows (lent t)) at (reached-lt (code_in t) (x / 16) (x % 16) v).0 in
        let hk : x % 16 < t.constraint.states = rw count at (reached-lt (code_in t) (x / 16) (x % 16) v).1 in
        disobeys-by (code_in t) (x / 16) (x % 16) d v (rw (row-long (lent t) (x / 16) hs) hd)
        (ap (λ e. walk (constraint_of t.constraint) t.q e.word (x % 16)) (edge-at (lent t) (x / 16) d hs hd)
        ∙ sym (state-walk (x / 16) (x % 16) d hs hk hd) ∙ e) g

    obeys-only : (b : Bool) → r ≡ b → T (obeys (code_in t)) → T b
    obeys-only true e g = tt
    obeys-only false e g =
        let (x, u, q) = c.failed e in
        subst T q (→all-below (finds_at t.word (power_in t) x) (2 ^ t.p)
        (λ d hd. not_T (eqb (state_after t.word (power_in t) x d) none)
        (λ v. refuted x d hd (eqb→eq (state_after t.word (power_in t) x d) none v) (reached_has u) g)))

    decides : r ≡ obeys (code_in t)
    decides = bool_eq _ _ obeys-if (obeys-only r refl)

-- THEOREM: the test of the reached places is the test `obeys`
pub obeys-is : (t : Table) → Followable t → (n : ℕ) (power : List ℕ) (r : Bool) → n ≡ 2 ^ t.p
    → power ≡ power_codes (constraint_of t.constraint) t.q
    → Followed (pair_after t.word t.next power) (finds_at t.word power) n t.start r
    → r ≡ obeys (code_in t)
obeys-is t h n power r e g c =
    decides t h r
    (subst₂ (λ n power. Followed (pair_after t.word t.next power) (finds_at t.word power) n t.start r) e g c)
