-- Sorting by any strict order: what it keeps, that it sorts, and that a list in order is known by its elements.
-- In order: each-insert, each-sort; tot-insert, tot-sort, length-sort; among-each, among-insert, insert-among;
-- insert-ordered, sort-ordered; ordered-unique.
-- Assumes nothing.
use Rattle.std.proofs.Common.{cond}
use mathlib.Core.Path.{◌≡◌, refl, sym, ap, ap₂, subst, ◌∙◌}
use mathlib.Core.Logic.{◌⊎◌, inl, inr}
use mathlib.Core.Bool.{Bool, true, false}
use mathlib.Core.List.{List, [], ◌∷◌}
use Prim.Native.Nat.{ℕ, ◌+◌}
use native.Mathlib.Omega.{arith}
use lib.Dec.{T}
use lib.ListN.{length}
use Rattle.laws.specs.Sums.{Each, tot}
use Rattle.laws.specs.Sorted.{insert_by, sort_by, Ahead, Ordered, Apart, StrictOrder, Among}
use Rattle.laws.proofs.Sums.{each_map, tot-length}

-- what holds of each holds of an element
pub among-each : {A : Type 0} (P : A → Type 0) (x : A) (l : List A) → Among x l → Each P l → P x
among-each P x [] m h = absurd m
among-each P x (y ∷ l) (inl e) h = subst P (sym e) h.0
among-each P x (y ∷ l) (inr m) h = among-each P x l m h.1

-- ---- what sorting keeps
module _ {A : Type 0} (before : A → A → Bool) where
  pub each-insert : (P : A → Type 0) (e : A) (l : List A) → P e → Each P l → Each P (insert_by before e l)
  each-insert P e [] p h = (p, tt)
  each-insert P e (x ∷ l) p h = go (before e x) (each-insert P e l p h.1)
    where
      go : (b : Bool) → Each P (insert_by before e l) → Each P (cond b (e ∷ x ∷ l) (x ∷ insert_by before e l))
      go true k = (p, h)
      go false k = (h.0, k)

  pub each-sort : (P : A → Type 0) (l : List A) → Each P l → Each P (sort_by before l)
  each-sort P [] h = tt
  each-sort P (x ∷ l) h = each-insert P x (sort_by before l) h.0 (each-sort P l h.1)

  pub tot-insert : (f : A → ℕ) (e : A) (l : List A) → tot f (insert_by before e l) ≡ f e + tot f l
  tot-insert f e [] = refl
  tot-insert f e (x ∷ l) = go (before e x) (tot-insert f e l)
    where
      go : (b : Bool) → tot f (insert_by before e l) ≡ f e + tot f l
          → tot f (cond b (e ∷ x ∷ l) (x ∷ insert_by before e l)) ≡ f e + (f x + tot f l)
      go true k = refl
      go false k = rw k (omega arith)

  pub tot-sort : (f : A → ℕ) (l : List A) → tot f (sort_by before l) ≡ tot f l
  tot-sort f [] = refl
  tot-sort f (x ∷ l) = tot-insert f x (sort_by before l) ∙ ap (λ k. f x + k) (tot-sort f l)

  pub length-sort : (l : List A) → length (sort_by before l) ≡ length l
  length-sort l = sym (tot-length (sort_by before l)) ∙ tot-sort (λ x. 1) l ∙ tot-length l

  pub among-insert : (e y : A) (l : List A) → (y ≡ e) ⊎ Among y l → Among y (insert_by before e l)
  among-insert e y [] m = m
  among-insert e y (x ∷ l) m = go (before e x) m (among-insert e y l)
    where
      go : (b : Bool) → (y ≡ e) ⊎ Among y (x ∷ l) → ((y ≡ e) ⊎ Among y l → Among y (insert_by before e l))
          → Among y (cond b (e ∷ x ∷ l) (x ∷ insert_by before e l))
      go true k f = k
      go false (inl q) f = inr (f (inl q))
      go false (inr (inl q)) f = inl q
      go false (inr (inr q)) f = inr (f (inr q))

  pub insert-among : (e y : A) (l : List A) → Among y (insert_by before e l) → (y ≡ e) ⊎ Among y l
  insert-among e y [] m = m
  insert-among e y (x ∷ l) m = go (before e x) m (insert-among e y l)
    where
      go : (b : Bool) → Among y (cond b (e ∷ x ∷ l) (x ∷ insert_by before e l))
          → (Among y (insert_by before e l) → (y ≡ e) ⊎ Among y l) → (y ≡ e) ⊎ Among y (x ∷ l)
      go true k f = k
      go false (inl q) f = inr (inl q)
      go false (inr q) f = on (f q)
        where
          on : (y ≡ e) ⊎ Among y l → (y ≡ e) ⊎ Among y (x ∷ l)
          on (inl r) = inl r
          on (inr r) = inr (inr r)

-- ---- lists in a strict order
module _ {A : Type 0} (before : A → A → Bool) (o : StrictOrder before) where
  pub insert-ordered : (e : A) (l : List A) → Each (λ x. before e x ≡ false → T (before x e)) l → Ordered before l
      → Ordered before (insert_by before e l)
  insert-ordered e [] h s = (tt, tt)
  insert-ordered e (x ∷ l) h s = go (before e x) refl (insert-ordered e l h.1 s.1)
    where
      go : (b : Bool) → before e x ≡ b → Ordered before (insert_by before e l)
          → Ordered before (cond b (e ∷ x ∷ l) (x ∷ insert_by before e l))
      go true q r = (
        (
          rw q tt,
          each_map (λ f. T (before x f)) (λ f. T (before e f))
              (λ f t. o.transitive e x f (rw q tt) t) l s.0,
        ),
        s,
      )
      go false q r = (each-insert before (λ f. T (before x f)) e l (h.0 q) s.0, r)

  pub sort-ordered : (l : List A) → Apart before l → Ordered before (sort_by before l)
  sort-ordered [] h = tt
  sort-ordered (x ∷ l) h =
      insert-ordered x (sort_by before l)
      (each-sort before (λ f. before x f ≡ false → T (before f x)) l h.0)
      (sort-ordered l h.1)

  -- the first of each comes before, or is, the first of the other
  head-same : (x y : A) (a b : List A) → Ahead before x a → Ahead before y b → (x ≡ y) ⊎ Among x b
      → (y ≡ x) ⊎ Among y a → x ≡ y
  head-same x y a b p q (inl e) n = e
  head-same x y a b p q (inr m) (inl e) = sym e
  head-same x y a b p q (inr m) (inr n) =
      absurd (o.irreflexive x (o.transitive x y x (among-each (λ f. T (before x f)) y a n p)
      (among-each (λ f. T (before y f)) x b m q)))

  behind : (x : A) (a b : List A) → Ahead before x a → ((e : A) → Among e a → (e ≡ x) ⊎ Among e b)
      → (e : A) → Among e a → Among e b
  behind x a b p h e m = go (h e m)
    where
      go : (e ≡ x) ⊎ Among e b → Among e b
      go (inl q) =
          absurd (o.irreflexive x (subst (λ f. T (before x f)) q (among-each (λ f. T (before x f)) e a m p)))
      go (inr n) = n

  -- two lists in order with the same elements are one
  pub ordered-unique : (a b : List A) → Ordered before a → Ordered before b → ((e : A) → Among e a → Among e b)
      → ((e : A) → Among e b → Among e a) → a ≡ b
  ordered-unique [] [] s t h k = refl
  ordered-unique [] (y ∷ b) s t h k = absurd (k y (inl refl))
  ordered-unique (x ∷ a) [] s t h k = absurd (h x (inl refl))
  ordered-unique (x ∷ a) (y ∷ b) s t h k =
      let e : x ≡ y = head-same x y a b s.0 t.0 (h x (inl refl)) (k y (inl refl)) in
      ap₂ (λ z l. z ∷ l) e
      (ordered-unique a b s.1 t.1
      (behind x a b s.0 (λ f m. subst (λ z. (f ≡ z) ⊎ Among f b) (sym e) (h f (inr m))))
      (behind y b a t.0 (λ f m. subst (λ z. (f ≡ z) ⊎ Among f a) e (k f (inr m)))))
