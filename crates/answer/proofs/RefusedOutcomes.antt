-- Laws of refused outcomes: which check the refusal comes from.
-- In order: refused-inj; onward-refused; fitting-refused; Refuses, refuses-done, refuses-unless, refuses-onward.
-- Assumes nothing.
use Rattle.std.proofs.Common.{◌≡◌, ◌⊎◌, ◌<◌}
use Rattle.laws.proofs.All.{refl, sym, ap, subst, inl, inr, Bool, true, false, List, ℕ, leb, length}
use Rattle.laws.proofs.All.{leb-false}
use Rattle.answer.specs.declared.Refusal.{Refusal}
use Rattle.answer.specs.declared.Refusal.TheVariants.{ShortOutput}
use Rattle.answer.specs.Outcomes.{Outcome, done, refused, unless, onward, fitting}
use Rattle.answer.proofs.Outcomes.{refused-not}

-- the refusal, or the one given
reason_of : {A : Type 0} → Refusal → Outcome A → Refusal
reason_of d (done a) = d
reason_of d (refused r) = r

pub refused-inj : {A : Type 0} (r r' : Refusal) → ◌≡◌ {A = Outcome A} (refused r) (refused r') → r ≡ r'
unfolding reason_of
refused-inj r r' e = ap (reason_of r) e

pub onward-refused : {A B : Type 0} (o : Outcome A) (f : A → Outcome B) (r : Refusal) → onward o f ≡ refused r
    → (o ≡ refused r) ⊎ ((x : A) × (o ≡ done x) × (f x ≡ refused r))
onward-refused (done x) f r e = inr (x, refl, e)
onward-refused (refused r') f r e = inl (ap refused (refused-inj r' r e))

-- the check of the room is refused with 13 only, and exactly where there is too little
pub fitting-refused : (room : ℕ) (xs : List ℕ) (r : Refusal) → fitting room xs ≡ refused r
    → (r ≡ ShortOutput) × (room < length xs)
fitting-refused room xs r e = go (leb (length xs) room) refl e
  where
    go : (b : Bool) → leb (length xs) room ≡ b → unless ShortOutput b (done xs) ≡ refused r
        → (r ≡ ShortOutput) × (room < length xs)
    go true q k = absurd (refused-not r xs (sym k))
    go false q k = (sym (refused-inj ShortOutput r k), leb-false (length xs) room q)

-- ---- what holds of every refusal that an outcome can be
abbrev pub Refuses : {A : Type 0} → (Refusal → Type 0) → Outcome A → Type 0
Refuses P o = (r : Refusal) → o ≡ refused r → P r

module _ (P : Refusal → Type 0) where
  pub refuses-done : {A : Type 0} (a : A) → Refuses P (done a)
  refuses-done a r e = absurd (refused-not r a (sym e))

  pub refuses-unless : {A : Type 0} (r : Refusal) (b : Bool) (o : Outcome A) → P r → Refuses P o
      → Refuses P (unless r b o)
  refuses-unless r true o h f r' e = f r' e
  refuses-unless r false o h f r' e = subst P (refused-inj r r' e) h

  pub refuses-onward : {A B : Type 0} (o : Outcome A) (f : A → Outcome B) → Refuses P o
      → ((a : A) → Refuses P (f a)) → Refuses P (onward o f)
  refuses-onward (done a) f h k r e = k a r e
  refuses-onward (refused r') f h k r e = h r (ap refused (refused-inj r' r e))
