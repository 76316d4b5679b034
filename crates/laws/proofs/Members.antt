-- Members of a set that is a list of yes and no.
-- In order: member-lt, member-blank; put-member, a member more.
-- Assumes nothing.
use mathlib.Core.Path.{◌≡◌, refl, sym, ap, ◌∙◌}
use mathlib.Core.Bool.{Bool, true, false, ◌||◌, or-true, or-false}
use mathlib.Core.List.{List, [], ◌∷◌}
use Prim.Native.Nat.{ℕ, zero, suc, ◌<◌, zero-le, suc-le-suc}
use native.Mathlib.Decide.{ℕ_discrete}
use borrow.Author.Tests.{eq-eqb, ne_eqb}
use lib.Dec.{T, eqb}
use lib.ListN.{length, set, replicate}
use lib.Seq.{get_or-set_same, get_or-set_other}
use Rattle.laws.specs.Sets.{member}

pub member-lt : (S : List Bool) (i : ℕ) → T (member S i) → i < length S
member-lt [] i t = absurd t
member-lt (x ∷ S) zero t = suc-le-suc zero-le
member-lt (x ∷ S) (suc i) t = suc-le-suc (member-lt S i t)

pub member-blank : (k x : ℕ) → member (replicate k false) x ≡ false
member-blank zero x = refl
member-blank (suc k) zero = refl
member-blank (suc k) (suc x) = member-blank k x

pub put-member : (R : List Bool) (y x : ℕ) → y < length R → member (set R y true) x ≡ (member R x || eqb y x)
put-member R y x h = go (ℕ_discrete x y)
  where
    go : Dec (x ≡ y) → member (set R y true) x ≡ (member R x || eqb y x)
    go (yes q) =
        rw q (get_or-set_same R y true false h
        ∙ sym (ap (λ b. member R y || b) (eq-eqb y y refl) ∙ or-true (member R y)))
    go (no q) =
        get_or-set_other R y x true false q
        ∙ sym (ap (λ b. member R x || b) (ne_eqb y x (λ e. q (sym e))) ∙ or-false (member R x))
