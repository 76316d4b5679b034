-- The cases of `Refusal`, by where they stand in the code's list of them.
-- In order: tag; number-tag, number-some, number-most, place_none; refusal-numbers; named, same-refusal; place-unless.
-- Assumes nothing.
use Rattle.std.proofs.Common.{◌≡◌, ◌∷◌, ◌≤◌}
use Rattle.laws.proofs.All.{refl, sym, ap₂, subst, ◌∙◌, [], ℕ, suc, arith, get_or}
use denote.Enum.Declared.{tag_of}
use borrow.Enum.Match.{tag_small}
use Rattle.answer.specs.declared.Refusal.{Refusal}
use Rattle.answer.specs.declared.Refusal.TheVariants.{Parameters, States, NoCode, TooHeavy, TooManyEdges}
use Rattle.answer.specs.declared.Refusal.TheVariants.{NoWindow, Field, Length, Disobeys, WindowFails}
use Rattle.answer.specs.declared.Refusal.TheVariants.{BadByte, TooFewWords, ShortOutput, TooManyPairs}
use Rattle.answer.specs.declared.Refusal.TheVariants.{Stream, Depth, BadWeights}
use Rattle.answer.specs.Refusals.{number_of, most, place_of}
use Rattle.answer.specs.contracts.Refusal.{the_type}

-- where the case of a refusal stands in the list of them
abbrev pub tag : Refusal → ℕ
tag r = tag_of the_type r

-- the numbers are in the order of the list, from 1; only 11 names a place
case : (r : Refusal) → (number_of r ≡ suc (tag r)) × ((number_of r ≡ 11 → ⊥) → place_of r ≡ 0)
case Parameters = (refl, λ h. refl)
case States = (refl, λ h. refl)
case NoCode = (refl, λ h. refl)
case TooHeavy = (refl, λ h. refl)
case TooManyEdges = (refl, λ h. refl)
case NoWindow = (refl, λ h. refl)
case Field = (refl, λ h. refl)
case Length = (refl, λ h. refl)
case Disobeys = (refl, λ h. refl)
case WindowFails = (refl, λ h. refl)
case (BadByte place) = (refl, λ h. absurd (h refl))
case TooFewWords = (refl, λ h. refl)
case ShortOutput = (refl, λ h. refl)
case TooManyPairs = (refl, λ h. refl)
case Stream = (refl, λ h. refl)
case Depth = (refl, λ h. refl)
case BadWeights = (refl, λ h. refl)

pub number-tag : (r : Refusal) → number_of r ≡ suc (tag r)
number-tag r = (case r).0

-- no refusal has the number 0
pub number-some : (r : Refusal) → 1 ≤ number_of r
number-some r = omega (arith, number-tag r)

pub number-most : (r : Refusal) → number_of r ≤ most
number-most r = subst (λ n. n ≤ most) (sym (number-tag r)) (tag_small the_type r)

pub place_none : (r : Refusal) → (number_of r ≡ 11 → ⊥) → place_of r ≡ 0
place_none r = (case r).1

-- THEOREM: the number of each refusal, and its place
pub refusal-numbers : ((number_of Parameters ≡ 1) × (number_of States ≡ 2) × (number_of NoCode ≡ 3)
    × (number_of TooHeavy ≡ 4) × (number_of TooManyEdges ≡ 5) × (number_of NoWindow ≡ 6) × (number_of Field ≡ 7)
    × (number_of Length ≡ 8) × (number_of Disobeys ≡ 9) × (number_of WindowFails ≡ 10)
    × ((k : ℕ) → number_of (BadByte k) ≡ 11) × (number_of TooFewWords ≡ 12) × (number_of ShortOutput ≡ 13)
    × (number_of TooManyPairs ≡ 14) × (number_of Stream ≡ 15) × (number_of Depth ≡ 16) × (number_of BadWeights ≡ 17))
    × ((k : ℕ) → place_of (BadByte k) ≡ k) × ((r : Refusal) → (number_of r ≡ 11 → ⊥) → place_of r ≡ 0)
refusal-numbers = (
  (
    refl,
    refl,
    refl,
    refl,
    refl,
    refl,
    refl,
    refl,
    refl,
    refl,
    (λ k. refl),
    refl,
    refl,
    refl,
    refl,
    refl,
    refl,
  ),
  (λ k. refl),
  place_none,
)

-- the refusal with a number and a place
named : ℕ → ℕ → Refusal
named n place =
    get_or
    (Parameters ∷ Parameters ∷ States ∷ NoCode ∷ TooHeavy ∷ TooManyEdges ∷ NoWindow ∷ Field ∷ Length ∷ Disobeys
    ∷ WindowFails ∷ BadByte place ∷ TooFewWords ∷ ShortOutput ∷ TooManyPairs ∷ Stream ∷ Depth ∷ BadWeights ∷ []) n
    Parameters

named-is : (r : Refusal) → named (number_of r) (place_of r) ≡ r
unfolding named
named-is Parameters = refl
named-is States = refl
named-is NoCode = refl
named-is TooHeavy = refl
named-is TooManyEdges = refl
named-is NoWindow = refl
named-is Field = refl
named-is Length = refl
named-is Disobeys = refl
named-is WindowFails = refl
named-is (BadByte place) = refl
named-is TooFewWords = refl
named-is ShortOutput = refl
named-is TooManyPairs = refl
named-is Stream = refl
named-is Depth = refl
named-is BadWeights = refl

-- THEOREM: a refusal is told by its number and its place
pub same-refusal : (r s : Refusal) → number_of r ≡ number_of s → place_of r ≡ place_of s → r ≡ s
same-refusal r s n p = sym (named-is r) ∙ ap₂ named n p ∙ named-is s

-- THEOREM: a refusal that is no case with a place has the place 0
pub place-unless : (r : Refusal) → ((k : ℕ) → r ≡ BadByte k → ⊥) → place_of r ≡ 0
place-unless r h = place_none r (λ e. h (place_of r) (same-refusal r (BadByte (place_of r)) e refl))
