-- The places of the list followed one after the other, until all members of the set have been.
-- In order: Reaching, reach-start, reach-more, reach-done, reach-fail, reach-test.
-- Assumes nothing.
use Rattle.std.proofs.Common.{◌≡◌, ◌+◌, ◌≤◌, ◌<◌}
use Rattle.laws.proofs.All.{sym, ap, subst, ◌∙◌, inl, inr, Bool, true, false, List, ℕ}
use Rattle.laws.proofs.All.{not-suc-le-zero, arith, below_more, T, get_or, range, all, member, member-lt}
use Rattle.record_queue.specs.Places.{Queue, Grown}
use Rattle.record_obeys.specs.Obeying.{Reached, Followed}
use Rattle.record_obeys.specs.Obeying.Reached.{origin, carried}

-- the places below i of the list have been followed
pub record Reaching (f : ℕ → ℕ → ℕ) (n start i : ℕ) (S : List Bool) (L : List ℕ) (m : ℕ) : Type 0 where
  pub queue : Queue S L m
  pub within : i ≤ m
  pub begins : T (member S start)
  pub closed : (j : ℕ) → j < i → (d : ℕ) → d < n → f (get_or L j 0) d < 2048 → T (member S (f (get_or L j 0) d))
  pub only : (x : ℕ) → T (member S x) → Reached f n start x

module _ (f : ℕ → ℕ → ℕ) (n start : ℕ) where
  pub reach-start : (S S' : List Bool) (L L' : List ℕ) (m : ℕ) → start < 2048 → Queue S L 0
      → Grown (λ d. start) 1 S L 0 S' L' m → Reaching f n start 0 S' L' m
  reach-start S S' L L' m h w g = record {
    queue = g.queue;
    within = omega arith;
    begins = g.added 0 (omega arith) h;
    closed = λ j a. absurd (not-suc-le-zero a);
    only = λ x u. elim (g.only x u) [
      | inl v ↦ absurd (not-suc-le-zero (w.every x v).1)
      | inr (d, a, e) ↦ subst (Reached f n start) e origin
    ];
  }

  module _ (i : ℕ) (S : List Bool) (L : List ℕ) (m : ℕ) (r : Reaching f n start i S L m) where
    pub reach-more : (S' : List Bool) (L' : List ℕ) (m' : ℕ) → i < m → Grown (f (get_or L i 0)) n S L m S' L' m'
        → Reaching f n start (i + 1) S' L' m'
    reach-more S' L' m' h g = record {
      queue = g.queue;
      within = let l = g.longer in omega arith;
      begins = g.holds start r.begins;
      closed = below_more Done i
          (λ j a. subst Follows (sym (g.kept j (omega arith))) (λ d b l. g.holds _ (r.closed j a d b l)))
          (subst Follows (sym (g.kept i h)) (λ d b l. g.added d b l));
      only = λ x u. elim (g.only x u) [
        | inl v ↦ r.only x v
        | inr (d, a, e) ↦ carried (get_or L i 0) d x (r.only (get_or L i 0) (r.queue.listed i h)) a e
            (let n = g.queue.long in omega (arith, member-lt S' x u))
      ];
    }
      where
        Follows : ℕ → Type 0
        Follows x = (d : ℕ) → d < n → f x d < 2048 → T (member S' (f x d))

        Done : ℕ → Type 0
        Done j = Follows (get_or L' j 0)

    reach-all : m ≤ i → {x : ℕ} → Reached f n start x → T (member S x)
    reach-all h origin = r.begins
    reach-all h (carried x d y u l e b) =
        let (j, a, q) = r.queue.every x (reach-all h u) in
        subst (λ z. T (member S z)) (ap (λ z. f z d) q ∙ e)
        (r.closed j (omega arith) d l (subst (λ z. z < 2048) (sym (ap (λ z. f z d) q ∙ e)) b))

    -- all members have been followed, and each has passed
    pub reach-done : (g : ℕ → ℕ → Bool) → m ≤ i → ((j : ℕ) → j < i → T (all (g (get_or L j 0)) (range n)))
        → Followed f g n start true
    reach-done g h k = record {
      passed = λ u x v. let (j, a, q) = r.queue.every x (reach-all h v) in
          subst (λ z. T (all (g z) (range n))) q (k j (omega arith));
      failed = λ e. absurd (subst T e tt);
    }

    -- one that is still to be followed fails
    pub reach-fail : (g : ℕ → ℕ → Bool) → i < m → all (g (get_or L i 0)) (range n) ≡ false → Followed f g n start false
    reach-fail g h e = record {
      passed = λ u. absurd u;
      failed = λ q. (get_or L i 0, r.only (get_or L i 0) (r.queue.listed i h), e);
    }

    pub reach-test : (g : ℕ → ℕ → Bool) (S' : List Bool) (L' : List ℕ) (m' : ℕ) → i < m
        → Grown (f (get_or L i 0)) n S L m S' L' m' → ((j : ℕ) → j < i → T (all (g (get_or L j 0)) (range n)))
        → all (g (get_or L i 0)) (range n) ≡ true → (j : ℕ) → j < i + 1 → T (all (g (get_or L' j 0)) (range n))
    reach-test g S' L' m' h w k e = below_more (λ j. T (all (g (get_or L' j 0)) (range n))) i
        (λ j a. subst (λ z. T (all (g z) (range n))) (sym (w.kept j (let l = r.within in omega arith))) (k j a))
        (subst (λ z. T (all (g z) (range n))) (sym (w.kept i h)) (subst T (sym e) tt))
