-- The first element that passes: in a joined list, in a list of images, of lists in a row, among numbers the lowest.
-- In order: first-yes, first-no, any-yes, any-no; first-place, first-nowhere; first-front, first_back; first-image;
-- FirstList, first-union; first-at; first_part, first-none; first-least, none-lower.
-- Assumes nothing.
use Rattle.std.proofs.Common.{cond}
use mathlib.Core.Path.{◌≡◌, refl, sym, ap, subst, ◌∙◌}
use mathlib.Core.Bool.{Bool, true, false, ◌||◌}
use mathlib.Core.List.{List, [], ◌∷◌, ◌++◌, map}
use Prim.Native.Nat.{ℕ, zero, suc, ◌+◌, ◌≤◌, ◌<◌, zero-le, suc-le-suc}
use native.Mathlib.Nat.{le_refl, le_of_suc-le-suc, add-zero, zero-add, not-suc-le-zero}
use native.Mathlib.Omega.{arith}
use native.Mathlib.Decide.{dec_lt}
use lib.Dec.{T}
use lib.ListN.{length, get_or}
use Rattle.laws.specs.Lists.{from, range, any, first, concat}
use Rattle.laws.proofs.Anys.{any_append}

module _ {A : Type 0} (p : A → Bool) (d : A) where
  pub first-yes : (x : A) (l : List A) → p x ≡ true → first p d (x ∷ l) ≡ x
  first-yes x l e = rw e

  pub first-no : (x : A) (l : List A) → p x ≡ false → first p d (x ∷ l) ≡ first p d l
  first-no x l e = rw e

  pub any-yes : (x : A) (l : List A) → p x ≡ true → any p (x ∷ l) ≡ true
  any-yes x l e = rw e

  pub any-no : (x : A) (l : List A) → p x ≡ false → any p (x ∷ l) ≡ any p l
  any-no x l e = rw e

  -- the first that passes stands at j
  pub first-place : (l : List A) (j : ℕ) → j < length l → p (get_or l j d) ≡ true
      → ((k : ℕ) → k < j → p (get_or l k d) ≡ false) → first p d l ≡ get_or l j d
  first-place [] j h e f = absurd (not-suc-le-zero h)
  first-place (x ∷ l) zero h e f = first-yes x l e
  first-place (x ∷ l) (suc j) h e f =
      first-no x l (f 0 (suc-le-suc zero-le))
      ∙ first-place l j (le_of_suc-le-suc h) e (λ k b. f (suc k) (suc-le-suc b))

  pub first-nowhere : (l : List A) → ((k : ℕ) → k < length l → p (get_or l k d) ≡ false) → first p d l ≡ d
  first-nowhere [] f = refl
  first-nowhere (x ∷ l) f =
      first-no x l (f 0 (suc-le-suc zero-le)) ∙ first-nowhere l (λ k b. f (suc k) (suc-le-suc b))

  pub first-front : (k l : List A) → T (any p k) → first p d (k ++ l) ≡ first p d k
  first-front [] l t = absurd t
  first-front (x ∷ k) l t = go (p x) t (first-front k l)
    where
      go : (b : Bool) → T (b || any p k) → (T (any p k) → first p d (k ++ l) ≡ first p d k)
          → (cond b x (first p d (k ++ l))) ≡ (cond b x (first p d k))
      go true u f = refl
      go false u f = f u

  pub first_back : (k l : List A) → any p k ≡ false → first p d (k ++ l) ≡ first p d l
  first_back [] l e = refl
  first_back (x ∷ k) l e = go (p x) e (first_back k l)
    where
      go : (b : Bool) → (b || any p k) ≡ false → (any p k ≡ false → first p d (k ++ l) ≡ first p d l)
          → (cond b x (first p d (k ++ l))) ≡ first p d l
      go true u f = absurd (subst T u tt)
      go false u f = f u

  pub first-image : (g : ℕ → A) (l : List ℕ) → T (any (λ y. p (g y)) l)
      → first p d (map g l) ≡ g (first (λ y. p (g y)) 0 l)
  first-image g [] t = absurd t
  first-image g (x ∷ l) t = go (p (g x)) t (first-image g l)
    where
      go : (b : Bool) → T (b || any (λ y. p (g y)) l)
          → (T (any (λ y. p (g y)) l) → first p d (map g l) ≡ g (first (λ y. p (g y)) 0 l))
          → (cond b (g x) (first p d (map g l))) ≡ g (cond b x (first (λ y. p (g y)) 0 l))
      go true u f = refl
      go false u f = f u

  -- of lists in a row the first in which one passes
  abbrev pub FirstList : (ℕ → List A) → ℕ → ℕ → Type 0
  FirstList f b k =
      (e : ℕ) × (b ≤ e) × (e < b + k) × T (any p (f e)) × (first p d (concat (map f (from b k))) ≡ first p d (f e))
      × ((y : ℕ) → b ≤ y → y < e → T (any p (f y)) → ⊥)

  pub first-union : (f : ℕ → List A) (b k : ℕ) → T (any p (concat (map f (from b k)))) → FirstList f b k
  first-union f b zero t = absurd t
  first-union f b (suc k) t =
      go (any p (f b)) refl (subst T (any_append p (f b) (concat (map f (from (suc b) k)))) t)
      (first-union f (suc b) k)
    where
      go : (q : Bool) → any p (f b) ≡ q → T (any p (f b) || any p (concat (map f (from (suc b) k))))
          → (T (any p (concat (map f (from (suc b) k)))) → FirstList f (suc b) k) → FirstList f b (suc k)
      go true q u r =
          let h : T (any p (f b)) = rw q tt in
          let e = first-front (f b) (concat (map f (from (suc b) k))) h in
          (b, le_refl b, omega arith, h, e, λ y l m. absurd (omega arith))
      go false q u r =
          let (e, l, m, h, i, n) = r (rw q at u) in
          let j = first_back (f b) (concat (map f (from (suc b) k))) q ∙ i in
          (e, omega arith, omega arith, h, j, λ y v w z. before e n y (dec_lt b y) v w z)
        where
          before : (e : ℕ) → ((y : ℕ) → suc b ≤ y → y < e → T (any p (f y)) → ⊥)
              → (y : ℕ) → Dec (b < y) → b ≤ y → y < e → T (any p (f y)) → ⊥
          before e n y (yes c) v w z = n y c w z
          before e n y (no c) v w z =
              let i : y ≡ b = omega arith in
              subst T (ap (λ x. any p (f x)) i ∙ q) z

  -- ---- f i is the first of f 0, f 1, .. that passes
  module _ (f : ℕ → A) where
    at_from : (i m j : ℕ) → ((k : ℕ) → k < j → p (f (i + k)) ≡ false) → j < m → p (f (i + j)) ≡ true
        → (first p d (map f (from i m)) ≡ f (i + j)) × (any p (map f (from i m)) ≡ true)
    at_from i zero j h l e = absurd (not-suc-le-zero l)
    at_from i (suc m) zero h l e =
        let q : p (f i) ≡ true = subst (λ k. p (f k) ≡ true) (add-zero i) e in
        (first-yes (f i) (map f (from (suc i) m)) q ∙ ap f (sym (add-zero i)), any-yes (f i) (map f (from (suc i) m)) q)
    at_from i (suc m) (suc j) h l e =
        let q : p (f i) ≡ false = subst (λ k. p (f k) ≡ false) (add-zero i) (h 0 (omega arith)) in
        let up : (k : ℕ) → suc i + k ≡ i + suc k = λ k. omega arith in
        let (a, b) = at_from (suc i) m j
        (λ k b. subst (λ x. p (f x) ≡ false) (sym (up k)) (h (suc k) (omega arith))) (omega arith)
        (subst (λ x. p (f x) ≡ true) (sym (up j)) e) in
        (first-no (f i) (map f (from (suc i) m)) q ∙ a ∙ ap f (up j), any-no (f i) (map f (from (suc i) m)) q ∙ b)

    pub first-at : (m j : ℕ) → ((k : ℕ) → k < j → p (f k) ≡ false) → j < m → p (f j) ≡ true
        → (first p d (map f (range m)) ≡ f j) × (any p (map f (range m)) ≡ true)
    first-at m j h l e =
        let (a, b) = at_from 0 m j (λ k b. subst (λ x. p (f x) ≡ false) (sym (zero-add k)) (h k b)) l
        (subst (λ x. p (f x) ≡ true) (sym (zero-add j)) e) in
        (a ∙ ap f (zero-add j), b)

  -- ---- of the lists f 0, f 1, .. the first that has one that passes
  module _ (f : ℕ → List A) where
    part-from : (i m j : ℕ) → ((k : ℕ) → k < j → any p (f (i + k)) ≡ false) → j < m → any p (f (i + j)) ≡ true
        → first p d (concat (map f (from i m))) ≡ first p d (f (i + j))
    part-from i zero j h l e = absurd (not-suc-le-zero l)
    part-from i (suc m) zero h l e =
        let q : any p (f i) ≡ true = subst (λ k. any p (f k) ≡ true) (add-zero i) e in
        first-front (f i) (concat (map f (from (suc i) m))) (subst T (sym q) tt)
        ∙ ap (λ k. first p d (f k)) (sym (add-zero i))
    part-from i (suc m) (suc j) h l e =
        let q : any p (f i) ≡ false = subst (λ k. any p (f k) ≡ false) (add-zero i) (h 0 (omega arith)) in
        let up : (k : ℕ) → suc i + k ≡ i + suc k = λ k. omega arith in
        first_back (f i) (concat (map f (from (suc i) m))) q
        ∙ part-from (suc i) m j (λ k b. subst (λ x. any p (f x) ≡ false) (sym (up k)) (h (suc k) (omega arith)))
        (omega arith) (subst (λ x. any p (f x) ≡ true) (sym (up j)) e)
        ∙ ap (λ k. first p d (f k)) (up j)

    pub first_part : (m j : ℕ) → ((k : ℕ) → k < j → any p (f k) ≡ false) → j < m → any p (f j) ≡ true
        → first p d (concat (map f (range m))) ≡ first p d (f j)
    first_part m j h l e =
        part-from 0 m j (λ k b. subst (λ x. any p (f x) ≡ false) (sym (zero-add k)) (h k b)) l
        (subst (λ x. any p (f x) ≡ true) (sym (zero-add j)) e)
        ∙ ap (λ k. first p d (f k)) (zero-add j)

    none_from : (i m : ℕ) → ((k : ℕ) → k < m → any p (f (i + k)) ≡ false) → first p d (concat (map f (from i m))) ≡ d
    none_from i zero h = refl
    none_from i (suc m) h =
        let q : any p (f i) ≡ false = subst (λ k. any p (f k) ≡ false) (add-zero i) (h 0 (omega arith)) in
        let up : (k : ℕ) → suc i + k ≡ i + suc k = λ k. omega arith in
        first_back (f i) (concat (map f (from (suc i) m))) q
        ∙ none_from (suc i) m (λ k b. subst (λ x. any p (f x) ≡ false) (sym (up k)) (h (suc k) (omega arith)))

    pub first-none : (m : ℕ) → ((k : ℕ) → k < m → any p (f k) ≡ false) → first p d (concat (map f (range m))) ≡ d
    first-none m h = none_from 0 m (λ k b. subst (λ x. any p (f x) ≡ false) (sym (zero-add k)) (h k b))

-- the lowest number that passes
pub first-least : (p : ℕ → Bool) (d m j : ℕ) → ((k : ℕ) → k < j → p k ≡ false) → j < m → p j ≡ true
    → first p d (range m) ≡ j
first-least p d m j h l e = ap (first p d) (sym (same (range m))) ∙ (first-at p d (λ x. x) m j h l e).0
  where
    same : (l : List ℕ) → map (λ x. x) l ≡ l
    same [] = refl
    same (x ∷ l) = ap (λ y. x ∷ y) (same l)

-- none that passes is lower
pub none-lower : (p : ℕ → Bool) (d b k : ℕ) → T (any p (from b k)) → (y : ℕ) → b ≤ y → y < first p d (from b k)
    → T (p y) → ⊥
none-lower p d b zero t y l h u = absurd t
none-lower p d b (suc k) t y l h u = go (p b) refl t h (none-lower p d (suc b) k)
  where
    go : (q : Bool) → p b ≡ q → T (q || any p (from (suc b) k)) → y < (cond q b (first p d (from (suc b) k)))
        → (T (any p (from (suc b) k)) → (y : ℕ) → suc b ≤ y → y < first p d (from (suc b) k) → T (p y) → ⊥) → ⊥
    go true q v w f = omega arith
    go false q v w f = next (dec_lt b y)
      where
        next : Dec (b < y) → ⊥
        next (yes c) = f v y c w u
        next (no c) =
            let i : y ≡ b = omega arith in
            subst T (ap p i ∙ q) u
