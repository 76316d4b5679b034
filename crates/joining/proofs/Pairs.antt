-- The pairs of two constraints are exactly the reachable ones, each once.
-- In order: pair-back; allowed-both, both-allowed, allowed-bit, leads-bit; reach-start, reach_step; met-grows,
-- walks-keep; reach-state; Walks, walk-one, walk_more, pairs-walks; pairs-closed, pairs-all.
-- Assumes nothing.
use Rattle.std.proofs.Common.{◌≡◌, ◌∷◌, ◌++◌, ◌+◌, ◌/◌, ◌%◌, ◌≤◌, ◌<◌, if◌then◌else◌}
use Rattle.laws.proofs.All.{refl, sym, ap, ap₂, subst, subst₂, ◌∙◌, Bool, true, false, not, List, []}
use Rattle.laws.proofs.All.{ℕ, zero, suc, zero-add, arith, dec_lt, ℕ_discrete, digits_div}
use Rattle.laws.proofs.All.{digits_mod, T, ltb, eqb, eqb→eq, ltb-true, ltb-false, length, get_or}
use Rattle.laws.proofs.All.{elem, index_of, T→true, and→, →and, Each, Once, each_at, index-lt, at-index}
use Rattle.constraint.specs.Walking.{none, Constraint, after, Lawful}
use Rattle.constraint.specs.Follow.{follow, Finds}
use Rattle.constraint.proofs.Walking.{after-bit, after_small}
use Rattle.constraint.proofs.Follow.{follow-state, finds-join, follow-append}
use Rattle.joining.specs.Joined.{pair_of, allowed, leads_to, adjoin, met, walked, walked_from, pairs, Reachable}
use Rattle.joining.proofs.Lists.{Grows, grown, grows-trans, grows-elem, grows_at, adjoin-grows}
use Rattle.joining.proofs.Lists.{adjoin-elem, adjoin-each, adjoin-once}

-- ---- a pair as one number
pub pair-back : (x y : ℕ) → y < 16 → (pair_of x y / 16 ≡ x) × (pair_of x y % 16 ≡ y)
pair-back x y h = (digits_div x h, digits_mod x h)

-- ---- one bit
not_none : (s : ℕ) → T (not (eqb s none)) → s ≡ none → ⊥
not_none s t e = subst (λ k. T (not (eqb k none))) e t

none-not : (s : ℕ) → (s ≡ none → ⊥) → T (not (eqb s none))
none-not s h = go (eqb s none) refl
  where
    go : (b : Bool) → eqb s none ≡ b → T (not b)
    go true e = h (eqb→eq s none (subst T (sym e) tt))
    go false e = tt

module _ (c d : Constraint) (b z : ℕ) where
  pub allowed-both : T (allowed c d b z) → (after c (z / 16) b ≡ none → ⊥) × (after d (z % 16) b ≡ none → ⊥)
  allowed-both t =
      let (p, q) = and→ (not (eqb (after c (z / 16) b) none)) (not (eqb (after d (z % 16) b) none)) t in
      (not_none _ p, not_none _ q)

  pub both-allowed : (after c (z / 16) b ≡ none → ⊥) → (after d (z % 16) b ≡ none → ⊥) → T (allowed c d b z)
  both-allowed p q =
      →and (not (eqb (after c (z / 16) b) none)) (not (eqb (after d (z % 16) b) none)) (none-not _ p) (none-not _ q)

  -- every number but 0 is read as bit 1
  pub allowed-bit : (b ≡ 0 → ⊥) → allowed c d b z ≡ allowed c d 1 z
  allowed-bit h = rw (after-bit c (z / 16) b h, after-bit d (z % 16) b h)

  pub leads-bit : (b ≡ 0 → ⊥) → leads_to c d b z ≡ leads_to c d 1 z
  leads-bit h = ap₂ pair_of (after-bit c (z / 16) b h) (after-bit d (z % 16) b h)

-- ---- reachable pairs
module _ (c d : Constraint) where
  pub reach-start : Reachable c d 0 0
  reach-start = record { bits = []; first = tt; second = tt; x-is = refl; y-is = refl }

  pub reach_step : (x y b : ℕ) → Reachable c d x y → (after c x b ≡ none → ⊥) → (after d y b ≡ none → ⊥)
      → Reachable c d (after c x b) (after d y b)
  reach_step x y b r p q = record {
    bits = r.bits ++ b ∷ [];
    first = finds-join c r.bits (b ∷ []) 0 r.first (rw r.x-is (p, tt));
    second = finds-join d r.bits (b ∷ []) 0 r.second (rw r.y-is (q, tt));
    x-is = follow-append c r.bits (b ∷ []) 0 ∙ ap (λ k. after c k b) r.x-is;
    y-is = follow-append d r.bits (b ∷ []) 0 ∙ ap (λ k. after d k b) r.y-is;
  }

-- the list after a bit is the list before it, with more at its end or none
pub met-grows : (c d : Constraint) (b z : ℕ) (ps : List ℕ) → Grows ps (met c d b z ps)
met-grows c d b z ps = go (allowed c d b z)
  where
    go : (t : Bool) → Grows ps (if t then adjoin (leads_to c d b z) ps else ps)
    go true = adjoin-grows (leads_to c d b z) ps
    go false = grown ps

-- what each walked pair keeps, all of them do
pub walks-keep : (c d : Constraint) (P : ℕ → List ℕ → Type 0)
    → ((i : ℕ) (ps : List ℕ) → P i ps → P (suc i) (walked c d i ps))
    → (k i : ℕ) (ps : List ℕ) → P i ps → P (k + i) (walked_from c d k i ps)
walks-keep c d P f zero i ps p = rw (zero-add i) p
walks-keep c d P f (suc k) i ps p =
    let e : k + suc i ≡ suc k + i = omega arith in
    subst (λ n. P n (walked_from c d (suc k) i ps)) e (walks-keep c d P f k (suc i) (walked c d i ps) (f i ps p))

module _ (c d : Constraint) (lc : Lawful c) (ld : Lawful d) where
  pub reach-state : (x y : ℕ) → Reachable c d x y → (x < length c) × (y < length d)
  reach-state x y r = (
    subst (λ k. k < length c) r.x-is (follow-state c lc.well r.bits 0 lc.some r.first),
    subst (λ k. k < length d) r.y-is (follow-state d ld.well r.bits 0 ld.some r.second),
  )

  -- what holds of the list when the pairs numbered below i are walked
  pub record Walks (i : ℕ) (ps : List ℕ) : Type 0 where
    pub once : Once ps
    pub reach : Each (λ z. Reachable c d (z / 16) (z % 16)) ps
    pub start : Grows (0 ∷ []) ps
    pub closed : (k b : ℕ) → k < i → k < length ps → T (allowed c d b (get_or ps k 0))
        → T (elem (leads_to c d b (get_or ps k 0)) ps)

  -- the pair to which an allowed bit leads is reachable
  leads-reach : (b z : ℕ) → T (allowed c d b z) → Reachable c d (z / 16) (z % 16)
      → Reachable c d (leads_to c d b z / 16) (leads_to c d b z % 16)
  leads-reach b z t r =
      let (p, q) = allowed-both c d b z t in
      let (e, f) = pair-back (after c (z / 16) b) (after d (z % 16) b) (after_small d ld (z % 16) b q) in
      rw (e, f) (reach_step c d (z / 16) (z % 16) b r p q)

  -- ---- one bit met
  record Meets (ps qs : List ℕ) : Type 0 where
    once : Once ps → Once qs
    reach : Each (λ z. Reachable c d (z / 16) (z % 16)) ps → Each (λ z. Reachable c d (z / 16) (z % 16)) qs

  meets : (b z : ℕ) (ps : List ℕ) → Reachable c d (z / 16) (z % 16) → Meets ps (met c d b z ps)
  meets b z ps r = go (allowed c d b z) refl
    where
      y : ℕ
      y = leads_to c d b z

      go : (t : Bool) → allowed c d b z ≡ t → Meets ps (if t then adjoin y ps else ps)
      go true e = record {
        once = adjoin-once y ps;
        reach = λ h. adjoin-each y ps _ h (leads-reach b z (subst T (sym e) tt) r);
      }
      go false e = record { once = λ h. h; reach = λ h. h }

  met-elem : (b z : ℕ) (ps : List ℕ) → T (allowed c d b z) → T (elem (leads_to c d b z) (met c d b z ps))
  met-elem b z ps t = rw (T→true (allowed c d b z) t) (adjoin-elem (leads_to c d b z) ps)

  -- ---- one pair walked
  walk-one : (i : ℕ) (ps : List ℕ) → i < length ps → Walks i ps
      → Walks (suc i) (met c d 1 (get_or ps i 0) (met c d 0 (get_or ps i 0) ps))
  walk-one i ps h w = record {
    once = m₁.once (m₀.once w.once);
    reach = m₁.reach (m₀.reach w.reach);
    start = grows-trans (0 ∷ []) ps rs w.start more;
    closed = closed;
  }
    where
      z : ℕ
      z = get_or ps i 0

      qs : List ℕ
      qs = met c d 0 z ps

      rs : List ℕ
      rs = met c d 1 z qs

      here : Reachable c d (z / 16) (z % 16)
      here = each_at (λ z. Reachable c d (z / 16) (z % 16)) 0 ps w.reach i h

      m₀ : Meets ps qs
      m₀ = meets 0 z ps here

      m₁ : Meets qs rs
      m₁ = meets 1 z qs here

      second : Grows qs rs
      second = met-grows c d 1 z qs

      more : Grows ps rs
      more = grows-trans ps qs rs (met-grows c d 0 z ps) second

      new : (b : ℕ) → Dec (b ≡ 0) → T (allowed c d b z) → T (elem (leads_to c d b z) rs)
      new b (yes e) t =
          rw e (grows-elem qs rs second _ (met-elem 0 z ps (subst (λ b. T (allowed c d b z)) e t)))
      new b (no n) t = rw (leads-bit c d b z n) (met-elem 1 z qs (subst T (allowed-bit c d b z n) t))

      closed : (k b : ℕ) → k < suc i → k < length rs → T (allowed c d b (get_or rs k 0))
          → T (elem (leads_to c d b (get_or rs k 0)) rs)
      closed k b l _ = elim (dec_lt k i) [
        | yes u ↦
            let s : k < length ps = omega arith in
            rw (grows_at ps rs more k 0 s) (λ t. grows-elem ps rs more _ (w.closed k b u s t))
        | no u ↦
            let e : k ≡ i = omega arith in
            rw (e, grows_at ps rs more i 0 h) (new b (ℕ_discrete b 0))
      ]

  walk_more : (i : ℕ) (ps : List ℕ) → Walks i ps → Walks (suc i) (walked c d i ps)
  walk_more i ps w = go (ltb i (length ps)) refl
    where
      go : (b : Bool) → ltb i (length ps) ≡ b
          → Walks (suc i) (if b then met c d 1 (get_or ps i 0) (met c d 0 (get_or ps i 0) ps) else ps)
      go true e = walk-one i ps (ltb-true i (length ps) e) w
      go false e = record {
        once = w.once;
        reach = w.reach;
        start = w.start;
        closed = λ k b l s. w.closed k b (omega (arith, ltb-false i (length ps) e)) s;
      }

  pub pairs-walks : Walks 16 (pairs c d)
  unfolding pairs
  pairs-walks = walks-keep c d Walks walk_more 16 0 (0 ∷ []) (record {
    once = λ x. single x (eqb x 0);
    reach = (reach-start c d, tt);
    start = grown (0 ∷ []);
    closed = λ k b l. absurd (omega arith);
  })
    where
      single : (x : ℕ) (b : Bool) → (if b then 1 else 0) + 0 ≤ 1
      single x true = omega arith
      single x false = omega arith

  -- ---- 16 pairs at most are all that are reachable
  module _ (few : length (pairs c d) ≤ 16) where
    pub pairs-closed : (z b : ℕ) → T (elem z (pairs c d)) → T (allowed c d b z)
        → T (elem (leads_to c d b z) (pairs c d))
    pairs-closed z b t =
        let k = index_of z (pairs c d) in
        let h : k < length (pairs c d) = index-lt z (pairs c d) t in
        subst (λ z. T (allowed c d b z) → T (elem (leads_to c d b z) (pairs c d))) (at-index z (pairs c d) t)
        (pairs-walks.closed k b (omega arith) h)

    follow-elem : (bs : List ℕ) (x y : ℕ) → y < 16 → T (elem (pair_of x y) (pairs c d)) → Finds c x bs → Finds d y bs
        → T (elem (pair_of (follow c x bs) (follow d y bs)) (pairs c d))
    follow-elem [] x y h t f g = t
    follow-elem (b ∷ bs) x y h t (n, f) (m, g) =
        follow-elem bs (after c x b) (after d y b) (after_small d ld y b m) (step (pair-back x y h)) f g
      where
        step : (pair_of x y / 16 ≡ x) × (pair_of x y % 16 ≡ y)
            → T (elem (pair_of (after c x b) (after d y b)) (pairs c d))
        step (e, k) =
            rw (e, k) at (pairs-closed (pair_of x y) b t (both-allowed c d b (pair_of x y) (rw e n) (rw k m)))

    pub pairs-all : (x y : ℕ) → Reachable c d x y → T (elem (pair_of x y) (pairs c d))
    pairs-all x y r =
        subst₂ (λ x y. T (elem (pair_of x y) (pairs c d))) r.x-is r.y-is
        (follow-elem r.bits 0 0 (omega arith) (grows-elem (0 ∷ []) (pairs c d) pairs-walks.start 0 tt) r.first
        r.second)
