-- The first that passes a test; and what the second pass over a state's edges gives each of them.
-- In order: first-not, first-low; answered-kept, answered-low, answered-rises.
-- Assumes nothing.
use Rattle.std.proofs.Common.{◌≡◌, ◌||◌, ◌∷◌, ◌≤◌, ◌<◌, if◌then◌else◌}
use Rattle.laws.proofs.All.{refl, sym, subst, Bool, true, false, List, [], ℕ, zero, suc}
use Rattle.laws.proofs.All.{zero-le, le_refl, le_of_suc-le-suc, not-suc-le-zero, arith, T, ltb, ltb→lt, lt-ltb}
use Rattle.laws.proofs.All.{le-ltb, length, get_or, drop, range, first, any, Each, each_map, each-drop}
use Rattle.laws.proofs.All.{each-range, →any-below, first_passes, none-lower}
use Rattle.laws.specs.Sorted.{Ordered}
use Rattle.compile_labels.specs.Labels.{answered}

-- ---- the first that passes
module _ {A : Type 0} (p : A → Bool) (d : A) where
  pub first-not : (l : List A) → any p l ≡ false → first p d l ≡ d
  first-not [] e = refl
  first-not (x ∷ l) e = go (p x) e (first-not l)
    where
      go : (b : Bool) → (b || any p l) ≡ false → (any p l ≡ false → first p d l ≡ d)
          → (if b then x else first p d l) ≡ d
      go true u f = absurd (subst T u tt)
      go false u f = f u

-- of the numbers below n the first that passes, or n
pub first-low : (p : ℕ → Bool) (n x : ℕ) → x ≡ first p n (range n)
    → (x < n → T (p x) × ((d : ℕ) → d < x → T (p d) → ⊥)) × (n ≤ x → (d : ℕ) → d < n → T (p d) → ⊥)
first-low p n x e = go (any p (range n)) refl
  where
    go : (b : Bool) → any p (range n) ≡ b
        → (x < n → T (p x) × ((d : ℕ) → d < x → T (p d) → ⊥)) × (n ≤ x → (d : ℕ) → d < n → T (p d) → ⊥)
    go true q =
        let t : T (any p (range n)) = rw q tt in
        let (a, b) = first_passes p n (λ d. d < n) (range n) t (each-range n) in (
          λ h. (subst (λ y. T (p y)) (sym e) a, λ d l. none-lower p n 0 n t d zero-le (subst (λ y. d < y) e l)),
          λ h d l u. omega (arith, e, b),
        )
    go false q = (
      λ h. let z = first-not p n (range n) q in absurd (omega (arith, e, z)),
      λ h d l u. subst T q (→any-below p n d l u),
    )

-- ---- the second pass
module _ (n : ℕ) where
  -- an edge that asked for a datum keeps it
  pub answered-kept : (left xs : List ℕ) (k : ℕ) → k < length xs → get_or xs k 0 < n
      → get_or (answered n left xs) k 0 ≡ get_or xs k 0
  answered-kept left [] k h l = absurd (not-suc-le-zero h)
  answered-kept left (x ∷ xs) zero h l = rw (lt-ltb x n l)
  answered-kept left (x ∷ xs) (suc k) h l =
      answered-kept (if ltb x n then left else drop 1 left) xs k (le_of_suc-le-suc h) l

  abbrev After : Bool → List ℕ → List ℕ
  After b left = if b then left else drop 1 left

  -- one that asked for none takes no lower one than those left
  answered-low : (b : ℕ) (left xs : List ℕ) → b ≤ n → Each (λ y. b ≤ y) left → (k : ℕ) → k < length xs
      → n ≤ get_or xs k 0 → b ≤ get_or (answered n left xs) k 0
  answered-low b left [] hb e k h l = absurd (not-suc-le-zero h)
  answered-low b left (x ∷ xs) hb e zero h l = rw (le-ltb x n l) (head left e)
    where
      head : (left : List ℕ) → Each (λ y. b ≤ y) left → b ≤ get_or left 0 n
      head [] e = hb
      head (y ∷ left) e = e.0
  answered-low b left (x ∷ xs) hb e (suc k) h l =
      answered-low b (After (ltb x n) left) xs hb (after (ltb x n)) k (le_of_suc-le-suc h) l
    where
      after : (q : Bool) → Each (λ y. b ≤ y) (After q left)
      after true = e
      after false = each-drop (λ y. b ≤ y) 1 left e

  -- of two that asked for none the later one takes no lower one
  pub answered-rises : (left xs : List ℕ) → Ordered ltb left → Each (λ y. y ≤ n) left → (i k : ℕ) → i < k
      → k < length xs → n ≤ get_or xs i 0 → n ≤ get_or xs k 0
      → get_or (answered n left xs) i 0 ≤ get_or (answered n left xs) k 0
  answered-rises left [] o e i k h b c d = absurd (not-suc-le-zero b)
  answered-rises left (x ∷ xs) o e i zero h b c d = absurd (not-suc-le-zero h)
  answered-rises left (x ∷ xs) o e zero (suc k) h b c d = rw (le-ltb x n c) (go left o e)
    where
      go : (left : List ℕ) → Ordered ltb left → Each (λ y. y ≤ n) left
          → get_or left 0 n ≤ get_or (answered n (drop 1 left) xs) k 0
      go [] o e = answered-low n [] xs (le_refl n) tt k (le_of_suc-le-suc b) d
      go (y ∷ left) o e =
          answered-low y left xs e.0
          (each_map (λ z. T (ltb y z)) (λ z. y ≤ z) (λ z t. let m = ltb→lt y z t in omega (arith, m)) left o.0) k
          (le_of_suc-le-suc b) d
  answered-rises left (x ∷ xs) o e (suc i) (suc k) h b c d =
      answered-rises (After (ltb x n) left) xs (ordered (ltb x n) left o) (after (ltb x n)) i k (le_of_suc-le-suc h)
      (le_of_suc-le-suc b) c d
    where
      ordered : (q : Bool) (left : List ℕ) → Ordered ltb left → Ordered ltb (After q left)
      ordered true left o = o
      ordered false [] o = tt
      ordered false (y ∷ left) o = o.1

      after : (q : Bool) → Each (λ y. y ≤ n) (After q left)
      after true = e
      after false = each-drop (λ y. y ≤ n) 1 left e
