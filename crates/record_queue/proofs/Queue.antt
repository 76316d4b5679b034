-- Laws of a set of places and the list of its members, to which places are added.
-- In order: member-put; absent-put, absent-blank; queue-blank, queue-room, queue-put, queue-same; grown-none,
-- grown-more.
-- Assumes nothing.
use Rattle.std.proofs.Common.{◌≡◌, ◌⊎◌, ◌∷◌, ◌+◌, ◌<◌}
use Rattle.laws.proofs.All.{refl, sym, subst, ◌∙◌, inl, inr, Bool, true, false, List, [], ℕ, zero}
use Rattle.laws.proofs.All.{suc, not-suc-le-zero, le_of_suc-le-suc, arith, ℕ_discrete, below_more, T}
use Rattle.laws.proofs.All.{length, get_or, set, length-set, replicate, length-replicate, get_or-set_same}
use Rattle.laws.proofs.All.{get_or-set_other, member, member-blank}
use Rattle.record_queue.specs.Places.{absent, Queue, Grown}

-- ---- members
pub member-put : (S : List Bool) (y : ℕ) → y < length S → T (member (set S y true) y)
member-put S y h = rw (get_or-set_same S y true false h) tt

member-kept : (S : List Bool) (y x : ℕ) → y < length S → T (member S x) → T (member (set S y true) x)
member-kept S y x h u = go (ℕ_discrete x y)
  where
    go : Dec (x ≡ y) → T (member (set S y true) x)
    go (yes q) = rw q (member-put S y h)
    go (no q) = rw (get_or-set_other S y x true false q) u

member-new : (S : List Bool) (y x : ℕ) → T (member (set S y true) x) → (x ≡ y) ⊎ ((x ≡ y → ⊥) × T (member S x))
member-new S y x u = go (ℕ_discrete x y)
  where
    go : Dec (x ≡ y) → (x ≡ y) ⊎ ((x ≡ y → ⊥) × T (member S x))
    go (yes q) = inl q
    go (no q) = inr (q, rw (get_or-set_other S y x true false q) at u)

-- ---- how many are not members
pub absent-put : (S : List Bool) (y : ℕ) → y < length S → member S y ≡ false → absent (set S y true) + 1 ≡ absent S
absent-put [] y h e = absurd (not-suc-le-zero h)
absent-put (b ∷ S) zero h e = rw e (omega arith)
absent-put (b ∷ S) (suc y) h e = omega (arith, absent-put S y (le_of_suc-le-suc h) e)

pub absent-blank : (k : ℕ) → absent (replicate k false) ≡ k
absent-blank zero = refl
absent-blank (suc k) = omega (arith, absent-blank k)

blank_none : (k x : ℕ) → T (member (replicate k false) x) → ⊥
blank_none k x u = absurd (subst T (member-blank k x) u)

-- ---- a place put into the set and at the end of the list
pub queue-blank : Queue (replicate 2048 false) (replicate 2048 0) 0
queue-blank = record {
  long = length-replicate 2048 false;
  room = length-replicate {A = ℕ} 2048 0;
  count = absent-blank 2048;
  listed = λ j h. absurd (not-suc-le-zero h);
  every = λ x u. absurd (blank_none 2048 x u);
}

module _ (S : List Bool) (L : List ℕ) (m : ℕ) (w : Queue S L m) (y : ℕ) where
  pub queue-room : y < 2048 → member S y ≡ false → m < 2048
  queue-room h e = let n = w.long in let k = w.count in omega (arith, absent-put S y (omega arith) e)

  queue-more : y < 2048 → member S y ≡ false → Queue (set S y true) (set L m y) (m + 1)
  queue-more h e = record {
    long = length-set S y true ∙ w.long;
    room = length-set L m y ∙ w.room;
    count = let k = w.count in omega (arith, absent-put S y l e);
    listed = below_more (λ j. T (member (set S y true) (get_or (set L m y) j 0))) m
        (λ j a. rw (get_or-set_other L m j y 0 (λ z. omega arith)) (member-kept S y (get_or L j 0) l (w.listed j a)))
        (rw (last) (member-put S y l));
    every = λ x u. place x (member-new S y x u);
  }
    where
      l : y < length S
      l = let n = w.long in omega arith

      last : get_or (set L m y) m 0 ≡ y
      last = get_or-set_same L m y 0 (let n = w.room in omega (arith, queue-room h e))

      place : (x : ℕ) → (x ≡ y) ⊎ ((x ≡ y → ⊥) × T (member S x))
          → (j : ℕ) × (j < m + 1) × (get_or (set L m y) j 0 ≡ x)
      place x (inl q) = (m, omega arith, last ∙ sym q)
      place x (inr (q, u)) =
          let (j, a, z) = w.every x u in
          (j, omega arith, get_or-set_other L m j y 0 (λ z. omega arith) ∙ z)

  pub queue-put : y < 2048 → member S y ≡ false → Grown (λ d. y) 1 S L m (set S y true) (set L m y) (m + 1)
  queue-put h e = record {
    queue = queue-more h e;
    longer = omega arith;
    kept = λ j a. get_or-set_other L m j y 0 (λ z. omega arith);
    holds = λ x u. member-kept S y x l u;
    added = λ d a b. member-put S y l;
    only = λ x u. elim (member-new S y x u) [ inl q ↦ inr (0, omega arith, sym q) | inr (q, v) ↦ inl v ];
  }
    where
      l : y < length S
      l = let n = w.long in omega arith

  pub queue-same : (y < 2048 → T (member S y)) → Grown (λ d. y) 1 S L m S L m
  queue-same h = record {
    queue = w;
    longer = omega arith;
    kept = λ j a. refl;
    holds = λ x u. u;
    added = λ d a b. h b;
    only = λ x u. inl u;
  }

-- ---- several places put one after the other
pub grown-none : (g : ℕ → ℕ) (S : List Bool) (L : List ℕ) (m : ℕ) → Queue S L m → Grown g 0 S L m S L m
grown-none g S L m w = record {
  queue = w;
  longer = omega arith;
  kept = λ j a. refl;
  holds = λ x u. u;
  added = λ d a b. absurd (not-suc-le-zero a);
  only = λ x u. inl u;
}

module _ (g : ℕ → ℕ) (i : ℕ) (S S₁ S₂ : List Bool) (L L₁ L₂ : List ℕ) (m m₁ m₂ : ℕ) where
  pub grown-more : (y : ℕ) → y ≡ g i → Grown g i S L m S₁ L₁ m₁ → Grown (λ d. y) 1 S₁ L₁ m₁ S₂ L₂ m₂
      → Grown g (i + 1) S L m S₂ L₂ m₂
  grown-more y z a b = record {
    queue = b.queue;
    longer = let p = a.longer in let q = b.longer in omega arith;
    kept = λ j h. b.kept j (let p = a.longer in omega arith) ∙ a.kept j h;
    holds = λ x u. b.holds x (a.holds x u);
    added = below_more (λ d. g d < 2048 → T (member S₂ (g d))) i (λ d h l. b.holds (g d) (a.added d h l))
        (λ l. subst (λ x. T (member S₂ x)) z (b.added 0 (omega arith) (subst (λ x. x < 2048) (sym z) l)));
    only = λ x u. elim (b.only x u) [
      | inl v ↦ elim (a.only x v) [ inl p ↦ inl p | inr (d, h, e) ↦ inr (d, omega arith, e) ]
      | inr (d, h, e) ↦ inr (i, omega arith, sym z ∙ e)
    ];
  }
