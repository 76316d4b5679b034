-- Laws of outcomes: what a finished result says of the checks before it.
-- In order: done_inj, refused-not; unless-true, unless-false, unless→; onward→; said-good, said-bad; handed_on; fitting-true,
-- fitting→.
-- Assumes nothing.
use Rattle.std.proofs.Common.{Result, Ok, Err}
use Rattle.std.proofs.Common.{◌≡◌, ◌≤◌, IsErrAnd}
use Rattle.std.proofs.lemmas.Result.{err_from_is_err_and}
use Rattle.laws.proofs.All.{refl, sym, ap, subst, ◌∙◌, Bool, true, false, List, ℕ, T, leb, leb→le, le→leb}
use Rattle.laws.proofs.All.{length}
use Rattle.answer.specs.declared.Refusal.{Refusal}
use Rattle.answer.specs.declared.Refusal.TheVariants.{ShortOutput}
use Rattle.answer.specs.Outcomes.{Outcome, done, refused, unless, onward, verdict_on, fitting}

-- the result, or the one given
result : {A : Type 0} → A → Outcome A → A
result d (done a) = a
result d (refused r) = d

finished : {A : Type 0} → Outcome A → Bool
finished (done a) = true
finished (refused r) = false

pub done_inj : {A : Type 0} (x y : A) → done x ≡ done y → x ≡ y
unfolding result
done_inj x y e = ap (result x) e

pub refused-not : {A : Type 0} (r : Refusal) (x : A) → refused r ≡ done x → ⊥
unfolding finished
refused-not r x e = subst T (sym (ap finished e)) tt

-- ---- one check
pub unless-true : {A : Type 0} (r : Refusal) (b : Bool) (a : Outcome A) → T b → unless r b a ≡ a
unless-true r true a t = refl
unless-true r false a t = absurd t

pub unless-false : {A : Type 0} (r : Refusal) (b : Bool) (a : Outcome A) → b ≡ false → unless r b a ≡ refused r
unless-false r true a e = absurd (subst T e tt)
unless-false r false a e = refl

pub unless→ : {A : Type 0} (r : Refusal) (b : Bool) (a : Outcome A) (x : A) → unless r b a ≡ done x
    → T b × (a ≡ done x)
unless→ r true a x e = (tt, e)
unless→ r false a x e = absurd (refused-not r x e)

-- ---- a result that goes on
pub onward→ : {A B : Type 0} (a : Outcome A) (f : A → Outcome B) (y : B) → onward a f ≡ done y
    → (x : A) × (a ≡ done x) × (f x ≡ done y)
onward→ (done x) f y e = (x, refl, e)
onward→ (refused r) f y e = absurd (refused-not r y e)

-- ---- what a check said, and the exit of a `?`
module _ {A : Type 0} (v : Result Unit Refusal) (a : A) (o : Outcome A) (e : verdict_on v a ≡ o) where
  pub said-good : v ≡ Ok tt → o ≡ done a
  said-good q = sym e ∙ ap (λ v. verdict_on v a) q

  pub said-bad : (r : Refusal) → v ≡ Err r → o ≡ refused r
  said-bad r q = sym e ∙ ap (λ v. verdict_on v a) q

-- the refusal of a `?` is what the function answers
pub handed_on : {A : Type 0} (r : Result A Refusal) (x : Refusal) → IsErrAnd r (λ y. y ≡ x) → r ≡ Err x
handed_on r x h = let (y, e, q) = err_from_is_err_and r h in e ∙ ap Err q

-- ---- the check of the room
pub fitting-true : (room : ℕ) (xs : List ℕ) → length xs ≤ room → fitting room xs ≡ done xs
fitting-true room xs h = unless-true ShortOutput (leb (length xs) room) (done xs) (le→leb (length xs) room h)

pub fitting→ : (room : ℕ) (xs ys : List ℕ) → fitting room xs ≡ done ys → (length xs ≤ room) × (xs ≡ ys)
fitting→ room xs ys e =
    let (t, q) = unless→ ShortOutput (leb (length xs) room) (done xs) ys e in
    (leb→le (length xs) room t, done_inj xs ys q)
