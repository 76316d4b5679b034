-- Lists that a test leaves: when they are empty, their first element, and lists in a row of which few have elements.
-- In order: filter-pos, filter-some; first_head; filter-taken; filter_none, filter-first; filter-interval; concat-none,
-- concat-first; pick-range.
-- Assumes nothing.
use Rattle.std.proofs.Common.{cond}
use mathlib.Core.Path.{◌≡◌, refl, sym, ap, ap₂, ◌∙◌}
use mathlib.Core.Logic.{◌⊎◌, inl, inr}
use mathlib.Core.Bool.{Bool, true, false, ◌||◌}
use mathlib.Core.List.{List, [], ◌∷◌, ◌++◌, map, append-nil}
use Prim.Native.Nat.{ℕ, zero, suc, ◌+◌, ◌-◌, ◌≤◌, ◌<◌}
use native.Mathlib.Omega.{arith}
use native.Mathlib.Decide.{dec_lt, ℕ_discrete}
use lib.Dec.{T}
use lib.ListN.{length, get_or}
use Rattle.laws.specs.Lists.{from, range, filter, any, first, concat}
use Rattle.laws.specs.Sums.{Each}
use Rattle.laws.proofs.Maps.{filter-append}

pub filter-pos : (p : ℕ → Bool) (l : List ℕ) → T (any p l) → 0 < length (filter p l)
filter-pos p [] t = absurd t
filter-pos p (x ∷ l) t = go (p x) t (filter-pos p l)
  where
    go : (b : Bool) → T (b || any p l) → (T (any p l) → 0 < length (filter p l))
        → 0 < length (cond b (x ∷ filter p l) (filter p l))
    go true u r = omega arith
    go false u r = r u

pub filter-some : (p : ℕ → Bool) (l : List ℕ) → 0 < length (filter p l) → T (any p l)
filter-some p [] h = absurd (omega arith)
filter-some p (x ∷ l) h = go (p x) h (filter-some p l)
  where
    go : (b : Bool) → 0 < length (cond b (x ∷ filter p l) (filter p l)) → (0 < length (filter p l) → T (any p l))
        → T (b || any p l)
    go true u r = tt
    go false u r = r u

-- if all that pass q pass p, and the first that passes p passes q, it is the first that passes q
pub first_head : (p q : ℕ → Bool) (d : ℕ) (l : List ℕ) → T (any p l) → Each (λ x. T (q x) → T (p x)) l
    → T (q (first p d l)) → get_or (filter q l) 0 0 ≡ first p d l
first_head p q d [] t h u = absurd t
first_head p q d (x ∷ l) t h u = go (p x) (q x) t h.0 u refl (λ t u. first_head p q d l t h.1 u)
  where
    go : (a b : Bool) → T (a || any p l) → (T b → T a) → T (q (cond a x (first p d l))) → q x ≡ b
        → (T (any p l) → T (q (first p d l)) → get_or (filter q l) 0 0 ≡ first p d l)
        → get_or (cond b (x ∷ filter q l) (filter q l)) 0 0 ≡ (cond a x (first p d l))
    go true true t k u e f = refl
    go true false t k u e f = absurd (rw e at u)
    go false true t k u e f = absurd (k tt)
    go false false t k u e f = f t u

-- ---- the numbers from i on by two tests
module _ (p q : ℕ → Bool) where
  filter_alike : (i k : ℕ) → ((d : ℕ) → i ≤ d → d < i + k → p d ≡ q d) → filter p (from i k) ≡ filter q (from i k)
  filter_alike i zero h = refl
  filter_alike i (suc k) h =
      ap₂ (λ b r. cond b (i ∷ r) r) (h i (omega arith) (omega arith))
      (filter_alike (suc i) k (λ d a b. h d (omega arith) (omega arith)))

  -- q passes what p passes, but not e, the first of them
  pub filter-taken : (e : ℕ) → p e ≡ true → q e ≡ false → (i k : ℕ) → i ≤ e → e < i + k
      → ((d : ℕ) → i ≤ d → d < e → p d ≡ false) → ((d : ℕ) → i ≤ d → d < i + k → (d ≡ e → ⊥) → q d ≡ p d)
      → filter p (from i k) ≡ e ∷ filter q (from i k)
  filter-taken e t f i zero a b low same = absurd (omega arith)
  filter-taken e t f i (suc k) a b low same =
      go (ℕ_discrete i e)
      (λ l. filter-taken e t f (suc i) k l (omega arith) (λ d x y. low d (omega arith) y)
      (λ d x y. same d (omega arith) (omega arith)))
    where
      go : Dec (i ≡ e) → (suc i ≤ e → filter p (from (suc i) k) ≡ e ∷ filter q (from (suc i) k))
          → filter p (from i (suc k)) ≡ e ∷ filter q (from i (suc k))
      go (yes z) r =
          rw (z, t, f) (ap (λ l. e ∷ l)
          (filter_alike (suc e) k (λ d x y. sym (same d (omega arith) (omega arith) (λ v. omega arith)))))
      go (no z) r =
          let u : p i ≡ false = low i (omega arith) (omega arith) in
          rw (u, same i (omega arith) (omega arith) z ∙ u) (r (omega arith))

-- ---- the first of the numbers from i on
module _ (p : ℕ → Bool) where
  pub filter_none : (i k : ℕ) → ((d : ℕ) → i ≤ d → d < i + k → p d ≡ false) → filter p (from i k) ≡ []
  filter_none i zero h = refl
  filter_none i (suc k) h =
      rw (h i (omega arith) (omega arith)) (filter_none (suc i) k (λ d a b. h d (omega arith) (omega arith)))

  pub filter-first : (i k d : ℕ) → i ≤ d → d < i + k → p d ≡ true → ((j : ℕ) → i ≤ j → j < d → p j ≡ false)
      → (r : List ℕ) × (filter p (from i k) ≡ d ∷ r)
  filter-first i zero d a b q h = absurd (omega arith)
  filter-first i (suc k) d a b q h =
      go (ℕ_discrete i d) (λ l. filter-first (suc i) k d l (omega arith) q (λ j x y. h j (omega arith) y))
    where
      go : Dec (i ≡ d) → (suc i ≤ d → (r : List ℕ) × (filter p (from (suc i) k) ≡ d ∷ r))
          → (r : List ℕ) × (filter p (from i (suc k)) ≡ d ∷ r)
      go (yes z) f = (filter p (from (suc i) k), rw (z, q))
      go (no z) f =
          let (r, e) = f (omega arith) in
          (r, rw (h i (omega arith) (omega arith)) e)

-- ---- the numbers that pass lie in the interval of k numbers from u on: they are at most k
module _ (p : ℕ → Bool) (u k : ℕ) where
  one_more : (b : Bool) (x m : ℕ) (r : List ℕ) → length r ≤ m → length (cond b (x ∷ r) r) ≤ suc m
  one_more true x m r h = omega arith
  one_more false x m r h = omega arith

  -- of the numbers from i on, where i is not before the interval
  filter-within : (i n : ℕ) → u ≤ i → ((d : ℕ) → d < i + n → u + k ≤ d → p d ≡ false)
      → length (filter p (from i n)) ≤ u + k - i
  filter-within i zero g h = omega arith
  filter-within i (suc n) g h =
      go (dec_lt i (u + k)) (filter-within (suc i) n (omega arith) (λ d a b. h d (omega arith) b))
    where
      go : Dec (i < u + k) → length (filter p (from (suc i) n)) ≤ u + k - suc i
          → length (filter p (from i (suc n))) ≤ u + k - i
      go (yes l) r =
          let e : suc (u + k - suc i) ≤ u + k - i = omega arith in
          let f = one_more (p i) i (u + k - suc i) (filter p (from (suc i) n)) r in
          omega (arith, e, f)
      go (no l) r = rw (h i (omega arith) (omega arith)) (omega (arith, r))

  pub filter-interval : (i n : ℕ) → ((d : ℕ) → d < i + n → (d < u) ⊎ (u + k ≤ d) → p d ≡ false)
      → length (filter p (from i n)) ≤ k
  filter-interval i zero h = omega arith
  filter-interval i (suc n) h =
      go (dec_lt i u) (filter-interval (suc i) n (λ d a b. h d (omega arith) b))
    where
      go : Dec (i < u) → length (filter p (from (suc i) n)) ≤ k → length (filter p (from i (suc n))) ≤ k
      go (yes l) r = rw (h i (omega arith) (inl l)) r
      go (no l) r =
          omega (arith, filter-within i (suc n) (omega arith) (λ d a b. h d a (inr b)))

module _ (f : ℕ → List ℕ) where
  pub concat-none : (i k : ℕ) → ((s : ℕ) → i ≤ s → s < i + k → f s ≡ []) → concat (map f (from i k)) ≡ []
  concat-none i zero h = refl
  concat-none i (suc k) h =
      ap₂ (λ x y. x ++ y) (h i (omega arith) (omega arith))
      (concat-none (suc i) k (λ s a b. h s (omega arith) (omega arith)))

  pub concat-first : (i k s d : ℕ) (r : List ℕ) → i ≤ s → s < i + k → f s ≡ d ∷ r
      → ((j : ℕ) → i ≤ j → j < s → f j ≡ []) → (q : List ℕ) × (concat (map f (from i k)) ≡ d ∷ q)
  concat-first i zero s d r a b e h = absurd (omega arith)
  concat-first i (suc k) s d r a b e h =
      go (ℕ_discrete i s) (λ l. concat-first (suc i) k s d r l (omega arith) e (λ j x y. h j (omega arith) y))
    where
      go : Dec (i ≡ s) → (suc i ≤ s → (q : List ℕ) × (concat (map f (from (suc i) k)) ≡ d ∷ q))
          → (q : List ℕ) × (concat (map f (from i (suc k))) ≡ d ∷ q)
      go (yes z) g =
          let l = concat (map f (from (suc i) k)) in
          (r ++ l, ap (λ x. x ++ l) (ap f z ∙ e))
      go (no z) g =
          let (q, y) = g (omega arith) in
          (q, ap₂ (λ u v. u ++ v) (h i (omega arith) (omega arith)) y)

-- ---- of lists in a row only the elements of one pass
module _ {A : Type 0} (p : A → Bool) (f : ℕ → List A) (s : ℕ) (own : filter p (f s) ≡ f s)
    (others : (j : ℕ) → (j ≡ s → ⊥) → filter p (f j) ≡ []) where
  past-from : (i K : ℕ) → s < i → filter p (concat (map f (from i K))) ≡ []
  past-from i zero h = refl
  past-from i (suc K) h =
      filter-append p (f i) (concat (map f (from (suc i) K)))
      ∙ ap₂ (λ a b. a ++ b) (others i (λ e. omega arith)) (past-from (suc i) K (omega arith))

  pick-from : (i K : ℕ) → i ≤ s → s < i + K → filter p (concat (map f (from i K))) ≡ f s
  pick-from i zero h l = absurd (omega arith)
  pick-from i (suc K) h l = go (ℕ_discrete i s) (λ a b. pick-from (suc i) K a b)
    where
      go : Dec (i ≡ s) → (suc i ≤ s → s < suc i + K → filter p (concat (map f (from (suc i) K))) ≡ f s)
          → filter p (concat (map f (from i (suc K)))) ≡ f s
      go (yes e) r =
          filter-append p (f i) (concat (map f (from (suc i) K)))
          ∙ ap₂ (λ a b. a ++ b) (ap (λ k. filter p (f k)) e ∙ own) (past-from (suc i) K (omega arith))
          ∙ append-nil (f s)
      go (no e) r =
          filter-append p (f i) (concat (map f (from (suc i) K)))
          ∙ ap₂ (λ a b. a ++ b) (others i e) (r (omega arith) (omega arith))

  pub pick-range : (K : ℕ) → s < K → filter p (concat (map f (range K))) ≡ f s
  pick-range K h = pick-from 0 K (omega arith) (omega arith)
