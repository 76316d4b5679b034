-- Lists in order, where the order is any test of what comes before what.
-- In order: insert_by, sort_by; Ahead, Ordered; Apart; StrictOrder; Among.
-- Assumes nothing.
use Rattle.std.specs.Prelude.{cond, ◌≡◌, ◌⊎◌, Bool, false, List, [], ◌∷◌, T}
use Rattle.laws.specs.Sums.{Each}

module _ {A : Type 0} (before : A → A → Bool) where
  -- e put in front of the first that it comes before
  abbrev pub insert_by : A → List A → List A
  insert_by e [] = e ∷ []
  insert_by e (f ∷ fs) = let r = insert_by e fs in cond (before e f) (e ∷ f ∷ fs) (f ∷ r)

  -- the list in order, each element put in by itself
  abbrev pub sort_by : List A → List A
  sort_by [] = []
  sort_by (e ∷ es) = insert_by e (sort_by es)

  -- e comes before each of the list
  abbrev pub Ahead : A → List A → Type 0
  Ahead e l = Each (λ f. T (before e f)) l

  -- each comes before all after it
  abbrev pub Ordered : List A → Type 0
  Ordered [] = Unit {0}
  Ordered (e ∷ l) = Ahead e l × Ordered l

  -- of each two one comes before the other
  abbrev pub Apart : List A → Type 0
  Apart [] = Unit {0}
  Apart (e ∷ l) = Each (λ f. before e f ≡ false → T (before f e)) l × Apart l

  -- nothing comes before itself, and what comes before comes before all that follows
  pub record StrictOrder : Type 0 where
    pub irreflexive : (a : A) → T (before a a) → ⊥
    pub transitive : (a b c : A) → T (before a b) → T (before b c) → T (before a c)

-- x is an element of the list
abbrev pub Among : {A : Type 0} → A → List A → Type 0
Among x [] = ⊥
Among x (y ∷ l) = (x ≡ y) ⊎ Among x l
