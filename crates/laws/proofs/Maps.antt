-- Functions and tests over lists that are joined, taken from, or gone over twice.
-- In order: map-append, map-take, map-drop, map-map, map_each; filter-append, filter_same, filter_map, filter-filter,
-- filter-both, filter-never; all_filter, first-filter, filter-fuse; filter-concat, map-concat.
-- Assumes nothing.
use Rattle.std.proofs.Common.{cond}
use mathlib.Core.Path.{◌≡◌, refl, ap, ap₂, subst, ◌∙◌}
use mathlib.Core.Bool.{Bool, true, false, not, ◌&&◌, ◌||◌}
use mathlib.Core.List.{List, [], ◌∷◌, ◌++◌, map}
use Prim.Native.Nat.{ℕ, zero, suc}
use lib.Dec.{T}
use lib.ListN.{take, drop}
use Rattle.laws.specs.Lists.{filter, all, first, concat}
use Rattle.laws.specs.Sums.{Each}

pub map-append : {A B : Type 0} (f : A → B) (xs ys : List A) → map f (xs ++ ys) ≡ map f xs ++ map f ys
map-append f [] ys = refl
map-append f (x ∷ xs) ys = ap (λ l. f x ∷ l) (map-append f xs ys)

pub map-take : {A B : Type 0} (f : A → B) (k : ℕ) (l : List A) → map f (take k l) ≡ take k (map f l)
map-take f zero l = refl
map-take f (suc k) [] = refl
map-take f (suc k) (x ∷ l) = ap (λ y. f x ∷ y) (map-take f k l)

pub map-drop : {A B : Type 0} (f : A → B) (k : ℕ) (l : List A) → map f (drop k l) ≡ drop k (map f l)
map-drop f zero l = refl
map-drop f (suc k) [] = refl
map-drop f (suc k) (x ∷ l) = map-drop f k l

pub map-map : {A B C : Type 0} (f : B → C) (g : A → B) (l : List A) → map f (map g l) ≡ map (λ x. f (g x)) l
map-map f g [] = refl
map-map f g (x ∷ l) = ap (λ y. f (g x) ∷ y) (map-map f g l)

pub map_each : {A B : Type 0} (f g : A → B) (l : List A) → Each (λ x. f x ≡ g x) l → map f l ≡ map g l
map_each f g [] h = refl
map_each f g (x ∷ l) h = ap₂ (λ a b. a ∷ b) h.0 (map_each f g l h.1)

pub filter-append : {A : Type 0} (p : A → Bool) (xs ys : List A) → filter p (xs ++ ys) ≡ filter p xs ++ filter p ys
filter-append p [] ys = refl
filter-append p (x ∷ xs) ys = go (p x) (filter-append p xs ys)
  where
    go : (b : Bool) → filter p (xs ++ ys) ≡ filter p xs ++ filter p ys
        → (cond b (x ∷ filter p (xs ++ ys)) (filter p (xs ++ ys)))
        ≡ (cond b (x ∷ filter p xs) (filter p xs)) ++ filter p ys
    go true e = ap (λ l. x ∷ l) e
    go false e = e

pub filter_same : {A : Type 0} (p q : A → Bool) (l : List A) → Each (λ x. p x ≡ q x) l → filter p l ≡ filter q l
filter_same p q [] h = refl
filter_same p q (x ∷ l) h = ap₂ (λ b r. cond b (x ∷ r) r) h.0 (filter_same p q l h.1)

pub filter_map : {A B : Type 0} (p : B → Bool) (f : A → B) (l : List A)
    → filter p (map f l) ≡ map f (filter (λ x. p (f x)) l)
filter_map p f [] = refl
filter_map p f (x ∷ l) = go (p (f x)) (filter_map p f l)
  where
    go : (b : Bool) → filter p (map f l) ≡ map f (filter (λ x. p (f x)) l)
        → (cond b (f x ∷ filter p (map f l)) (filter p (map f l)))
        ≡ map f (cond b (x ∷ filter (λ x. p (f x)) l) (filter (λ x. p (f x)) l))
    go true e = ap (λ r. f x ∷ r) e
    go false e = e

module _ {A : Type 0} (p q : A → Bool) where
  -- two tests in either order
  pub filter-filter : (l : List A) → filter p (filter q l) ≡ filter q (filter p l)
  filter-filter [] = refl
  filter-filter (x ∷ l) = go (p x) refl (q x) refl (filter-filter l)
    where
      go : (a : Bool) → p x ≡ a → (b : Bool) → q x ≡ b → filter p (filter q l) ≡ filter q (filter p l)
          → filter p (cond b (x ∷ filter q l) (filter q l)) ≡ filter q (cond a (x ∷ filter p l) (filter p l))
      go true e true f r = rw (e, f) (ap (λ y. x ∷ y) r)
      go true e false f r = rw f r
      go false e true f r = rw e r
      go false e false f r = r

  -- a test that follows from another
  pub filter-both : ((x : A) → T (p x) → T (q x)) → (l : List A) → filter p (filter q l) ≡ filter p l
  filter-both h [] = refl
  filter-both h (x ∷ l) = go (p x) refl (q x) refl (filter-both h l)
    where
      go : (a : Bool) → p x ≡ a → (b : Bool) → q x ≡ b → filter p (filter q l) ≡ filter p l
          → filter p (cond b (x ∷ filter q l) (filter q l)) ≡ (cond a (x ∷ filter p l) (filter p l))
      go true e true f r = rw e (ap (λ y. x ∷ y) r)
      go true e false f r = absurd (subst T f (h x (rw e tt)))
      go false e true f r = rw e r
      go false e false f r = r

pub filter-never : {A : Type 0} (p : A → Bool) (l : List A) → Each (λ x. p x ≡ false) l → filter p l ≡ []
filter-never p [] h = refl
filter-never p (x ∷ l) h = ap (λ b. cond b (x ∷ filter p l) (filter p l)) h.0 ∙ filter-never p l h.1

module _ {A : Type 0} (p q : A → Bool) where
  pub all_filter : (l : List A) → all p (filter q l) ≡ all (λ x. not (q x) || p x) l
  all_filter [] = refl
  all_filter (x ∷ l) = go (q x) (all_filter l)
    where
      go : (b : Bool) → all p (filter q l) ≡ all (λ x. not (q x) || p x) l
          → all p (cond b (x ∷ filter q l) (filter q l)) ≡ ((not b || p x) && all (λ x. not (q x) || p x) l)
      go true e = ap (λ b. p x && b) e
      go false e = e

  pub first-filter : (d : A) (l : List A) → first p d (filter q l) ≡ first (λ x. q x && p x) d l
  first-filter d [] = refl
  first-filter d (x ∷ l) = go (q x) (first-filter d l)
    where
      go : (b : Bool) → first p d (filter q l) ≡ first (λ x. q x && p x) d l
          → first p d (cond b (x ∷ filter q l) (filter q l)) ≡ (cond (b && p x) x (first (λ x. q x && p x) d l))
      go true e = ap (λ y. cond (p x) x y) e
      go false e = e

  pub filter-fuse : (l : List A) → filter p (filter q l) ≡ filter (λ x. q x && p x) l
  filter-fuse [] = refl
  filter-fuse (x ∷ l) = go (q x) (filter-fuse l)
    where
      go : (b : Bool) → filter p (filter q l) ≡ filter (λ x. q x && p x) l
          → filter p (cond b (x ∷ filter q l) (filter q l))
          ≡ (cond (b && p x) (x ∷ filter (λ x. q x && p x) l) (filter (λ x. q x && p x) l))
      go true e = ap (λ y. cond (p x) (x ∷ y) y) e
      go false e = e

pub filter-concat : {A B : Type 0} (p : B → Bool) (f : A → List B) (l : List A)
    → filter p (concat (map f l)) ≡ concat (map (λ x. filter p (f x)) l)
filter-concat p f [] = refl
filter-concat p f (x ∷ l) = filter-append p (f x) (concat (map f l))
    ∙ ap (λ y. filter p (f x) ++ y) (filter-concat p f l)

pub map-concat : {A B C : Type 0} (h : B → C) (f : A → List B) (l : List A)
    → map h (concat (map f l)) ≡ concat (map (λ x. map h (f x)) l)
map-concat h f [] = refl
map-concat h f (x ∷ l) = map-append h (f x) (concat (map f l)) ∙ ap (λ y. map h (f x) ++ y) (map-concat h f l)
