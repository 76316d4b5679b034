-- Exactly when a call is done, and exactly when each of its refusals comes: laws on checks in a row, to be used from
-- the last check to the first.
-- In order: Told, told-le, told-lt, told-eq, told_and, what a test says where it passes and where it fails; other,
-- refusals with different numbers; done-past, refused-past, refused-here, never-past, one check; done-exact,
-- never_done; bad-place, place-bad, below-exact, bad-exact, never-bad, the check of 11; done-onward, refused-onward,
-- refused-first, what goes on.
-- Assumes nothing.
use Rattle.std.proofs.Common.{◌≡◌, ◌↔◌, ◌⊎◌, ◌&&◌, ◌∷◌, ◌≤◌, ◌<◌, if◌then◌else◌}
use Rattle.laws.proofs.All.{refl, sym, ap, subst, ◌∙◌, inl, inr, Bool, true, false, List, []}
use Rattle.laws.proofs.All.{ℕ, zero, suc, arith, T, leb, ltb, eqb, leb→le, le→leb, ltb→lt, lt→ltb, eqb→eq}
use Rattle.laws.proofs.All.{leb-false, lt-leb, ltb-false, le-ltb, lt-ltb, eqb-false, ne_eqb, eq-eqb, length}
use Rattle.laws.proofs.All.{dec_lt, take, get_or, Below}
use Rattle.answer.specs.declared.Refusal.{Refusal}
use Rattle.answer.specs.declared.Refusal.TheVariants.{BadByte}
use Rattle.answer.specs.Refusals.{number_of, place_of}
use Rattle.answer.specs.Outcomes.{Outcome, done, refused, unless, onward}
use Rattle.answer.specs.FirstBad.{first_bad, all_below}
use Rattle.answer.proofs.Outcomes.{done_inj, refused-not, unless-true, unless-false, unless→, onward→}
use Rattle.answer.proofs.FirstBad.{bad-le, below-bad, all_below-true, all_below→}
use Rattle.answer.proofs.RefusedOutcomes.{refused-inj, onward-refused}

-- ---- tests
-- what a test says where it passes, and what it says where it fails
pub record Told (b : Bool) (P N : Type 0) : Type 0 where
  pub passes : T b ↔ P
  pub fails : (b ≡ false) ↔ N

pub told-le : (m n : ℕ) → Told (leb m n) (m ≤ n) (n < m)
told-le m n = record { passes = (leb→le m n, le→leb m n); fails = (leb-false m n, lt-leb m n) }

pub told-lt : (m n : ℕ) → Told (ltb m n) (m < n) (n ≤ m)
told-lt m n = record { passes = (ltb→lt m n, lt→ltb m n); fails = (ltb-false m n, le-ltb m n) }

pub told-eq : (m n : ℕ) → Told (eqb m n) (m ≡ n) (m ≡ n → ⊥)
told-eq m n = record {
  passes = (eqb→eq m n, λ e. subst T (sym (eq-eqb m n e)) tt);
  fails = (eqb-false m n, ne_eqb m n);
}

pub told_and : {P N Q M : Type 0} (a b : Bool) → Told a P N → Told b Q M → Told (a && b) (P × Q) (N ⊎ M)
told_and true b s t = record {
  passes = (λ u. (s.passes.0 tt, t.passes.0 u), λ (p, q). t.passes.1 q);
  fails = (
    λ e. inr (t.fails.0 e),
    λ o. elim o [ inl n ↦ absurd (subst T (s.fails.1 n) tt) | inr m ↦ t.fails.1 m ],
  );
}
told_and false b s t = record {
  passes = (λ u. absurd u, λ (p, q). s.passes.1 p);
  fails = (λ e. inl (s.fails.0 refl), λ o. refl);
}

-- ---- one check, before a row of which it is known when it is done or refused
-- two refusals with different numbers
abbrev pub other : Refusal → Refusal → Type 0
other r s = number_of r ≡ number_of s → ⊥

module _ {A P N : Type 0} (r : Refusal) (b : Bool) (o : Outcome A) (t : Told b P N) where
  pub done-past : {D : Type 0} (x : A) → (o ≡ done x) ↔ D → (unless r b o ≡ done x) ↔ (P × D)
  done-past x k = (
    λ e. let (u, q) = unless→ r b o x e in (t.passes.0 u, k.0 q),
    λ (p, d). unless-true r b o (t.passes.1 p) ∙ k.1 d,
  )

  pub refused-past : {D : Type 0} (s : Refusal) → other r s → (o ≡ refused s) ↔ D → (unless r b o ≡ refused s) ↔ (P × D)
  refused-past {D = D} s n k = (
    λ e. go b refl e,
    λ (p, d). unless-true r b o (t.passes.1 p) ∙ k.1 d,
  )
    where
      go : (v : Bool) → b ≡ v → unless r v o ≡ refused s → P × D
      go true q e = (t.passes.0 (subst T (sym q) tt), k.0 e)
      go false q e = absurd (n (ap number_of (refused-inj r s e)))

  pub refused-here : (o ≡ refused r → ⊥) → (unless r b o ≡ refused r) ↔ N
  refused-here n = (λ e. go b refl e, λ x. unless-false r b o (t.fails.1 x))
    where
      go : (v : Bool) → b ≡ v → unless r v o ≡ refused r → N
      go true q e = absurd (n e)
      go false q e = t.fails.0 q

-- a refusal that neither the check nor the row gives
pub never-past : {A : Type 0} (r : Refusal) (b : Bool) (o : Outcome A) (s : Refusal) → other r s → (o ≡ refused s → ⊥)
    → unless r b o ≡ refused s → ⊥
never-past r true o s n k e = k e
never-past r false o s n k e = n (ap number_of (refused-inj r s e))

-- a row that is at its end
pub done-exact : {A : Type 0} (x y : A) → (done x ≡ done y) ↔ (x ≡ y)
done-exact x y = (done_inj x y, ap done)

pub never_done : {A : Type 0} (x : A) (s : Refusal) → done x ≡ refused s → ⊥
never_done x s e = refused-not s x (sym e)

-- ---- the check of 11
-- all bytes before the first bad one are good, and it is not
pub bad-place : (n : ℕ) (xs : List ℕ) → first_bad n xs < length xs
    → Below n (take (first_bad n xs) xs) × (n ≤ get_or xs (first_bad n xs) 0)
bad-place n [] h = absurd (omega arith)
bad-place n (x ∷ xs) h = go (ltb x n) refl h (λ l. bad-place n xs l)
  where
    go : (b : Bool) → ltb x n ≡ b → (if b then suc (first_bad n xs) else 0) < suc (length xs)
        → (first_bad n xs < length xs → Below n (take (first_bad n xs) xs) × (n ≤ get_or xs (first_bad n xs) 0))
        → let k = if b then suc (first_bad n xs) else 0 in Below n (take k (x ∷ xs)) × (n ≤ get_or (x ∷ xs) k 0)
    go true t l f = let (a, b) = f (omega arith) in ((ltb→lt x n (subst T (sym t) tt), a), b)
    go false t l f = (tt, ltb-false x n t)

-- and a place of that kind is the first
pub place-bad : (n : ℕ) (xs : List ℕ) (k : ℕ) → k < length xs → Below n (take k xs) → n ≤ get_or xs k 0
    → first_bad n xs ≡ k
place-bad n [] k h b l = absurd (omega arith)
place-bad n (x ∷ xs) zero h b l = rw (le-ltb x n l)
place-bad n (x ∷ xs) (suc k) h (a, b) l = rw (lt-ltb x n a) (ap suc (place-bad n xs k (omega arith) b l))

module _ (n : ℕ) (xs result : List ℕ) where
  pub below-exact : (ys : List ℕ) → (all_below n xs result ≡ done ys) ↔ (Below n xs × (result ≡ ys))
  below-exact ys = (all_below→ n xs result ys, λ (b, e). all_below-true n xs result b ∙ ap done e)

  pub bad-exact : (k : ℕ) → (all_below n xs result ≡ refused (BadByte k))
      ↔ ((k < length xs) × Below n (take k xs) × (n ≤ get_or xs k 0))
  bad-exact k = (λ e. there (eqb (first_bad n xs) (length xs)) refl e, back)
    where
      there : (b : Bool) → eqb (first_bad n xs) (length xs) ≡ b
          → unless (BadByte (first_bad n xs)) b (done result) ≡ refused (BadByte k)
          → (k < length xs) × Below n (take k xs) × (n ≤ get_or xs k 0)
      there true q e = absurd (never_done result (BadByte k) e)
      there false q e =
          let i : first_bad n xs ≡ k = ap place_of (refused-inj (BadByte (first_bad n xs)) (BadByte k) e) in
          let l : first_bad n xs < length xs =
          less (first_bad n xs) (bad-le n xs) (eqb-false (first_bad n xs) (length xs) q) in
          let (a, b) = bad-place n xs l in
          subst (λ j. (j < length xs) × Below n (take j xs) × (n ≤ get_or xs j 0)) i (l, a, b)
        where
          less : (j : ℕ) → j ≤ length xs → (j ≡ length xs → ⊥) → j < length xs
          less j h f = elim (dec_lt j (length xs)) [ yes l ↦ l | no l ↦ absurd (f (omega arith)) ]

      back : (k < length xs) × Below n (take k xs) × (n ≤ get_or xs k 0)
          → all_below n xs result ≡ refused (BadByte k)
      back (h, b, l) =
          let i = place-bad n xs k h b l in
          below-bad n xs result (subst (λ j. j < length xs) (sym i) h) ∙ ap (λ j. refused (BadByte j)) i

  pub never-bad : (s : Refusal) → (11 ≡ number_of s → ⊥) → all_below n xs result ≡ refused s → ⊥
  never-bad s n' =
      never-past (BadByte (first_bad n xs)) (eqb (first_bad n xs) (length xs)) (done result) s n' (never_done result s)

-- ---- a result that goes on
module _ {A B : Type 0} (o : Outcome A) (f : A → Outcome B) where
  pub done-onward : {D : A → Type 0} (y : B) → ((x : A) → (f x ≡ done y) ↔ D x)
      → (onward o f ≡ done y) ↔ ((x : A) × (o ≡ done x) × D x)
  done-onward y k = (
    λ e. let (x, p, q) = onward→ o f y e in (x, p, (k x).0 q),
    λ (x, p, d). ap (λ z. onward z f) p ∙ (k x).1 d,
  )

  -- a refusal that the first step does not give
  pub refused-onward : {D : A → Type 0} (s : Refusal) → (o ≡ refused s → ⊥) → ((x : A) → (f x ≡ refused s) ↔ D x)
      → (onward o f ≡ refused s) ↔ ((x : A) × (o ≡ done x) × D x)
  refused-onward s n k = (
    λ e. elim (onward-refused o f s e) [ inl q ↦ absurd (n q) | inr (x, p, q) ↦ (x, p, (k x).0 q) ],
    λ (x, p, d). ap (λ z. onward z f) p ∙ (k x).1 d,
  )

  -- and one that only the first step gives
  pub refused-first : (s : Refusal) → ((x : A) → f x ≡ refused s → ⊥) → (onward o f ≡ refused s) ↔ (o ≡ refused s)
  refused-first s n = (
    λ e. elim (onward-refused o f s e) [ inl q ↦ q | inr (x, p, q) ↦ absurd (n x q) ],
    λ q. ap (λ z. onward z f) q,
  )
