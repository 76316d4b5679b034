-- How a trace ends, by the answer of the call; how a run ends, by its status and by the action.
-- In order: end_refused, end-done, done-gives; number-ends, number-misused, same-action, misused-most, asked-ends;
-- acted, acted-short, fits_not.
-- Assumes nothing.
use Rattle.std.proofs.Common.{Ok, Err}
use Rattle.std.proofs.Common.{◌≡◌, ◌∷◌, ◌≤◌}
use Rattle.laws.proofs.All.{refl, sym, ap, subst, ◌∙◌, Bool, true, false, T, List, [], ℕ, arith}
use Rattle.answer.specs.declared.Refusal.{Refusal}
use Rattle.answer.specs.Outcomes.{Outcome, done, refused, answer_of}
use Rattle.command_arguments.specs.declared.Status.{Status}
use Rattle.command_arguments.specs.declared.Status.TheVariants.{Failed, Misused, NoRecording, Done}
use Rattle.command_arguments.specs.declared.Action.{Action}
use Rattle.command_arguments.specs.Shapes.{fits, status_of}
use Rattle.command_arguments.specs.declared.Shape.{Shape}
use Rattle.command_outputs.specs.Results.{Gives, EndsBy, WellOnly}
use Rattle.command.specs.Ending.{end_of}
use Rattle.command.specs.Acting.{EndsWell, EndsShort, EndsAs, Acted, ActedShort}

pub end_refused : (o : Outcome (List ℕ)) (r : Refusal) → answer_of o ≡ Err r → Failed ≡ end_of o
end_refused (refused x) r e = refl
end_refused (done xs) r e = let z : ◌≡◌ {A = ℕ} 0 1 = cc in absurd (omega arith)

pub end-done : (o : Outcome (List ℕ)) (n : ℕ) → answer_of o ≡ Ok n → Done ≡ end_of o
end-done (done xs) n e = refl
end-done (refused x) n e = let z : ◌≡◌ {A = ℕ} 0 1 = cc in absurd (omega arith)

pub done-gives : (o : Outcome (List ℕ)) (n : ℕ) → answer_of o ≡ Ok n → Gives o
done-gives (done xs) n e = tt
done-gives (refused x) n e = let z : ◌≡◌ {A = ℕ} 0 1 = cc in absurd (omega arith)

-- the number of a status says how the run ended
pub number-ends : {a : Action} (s : Status) (r : ℕ) → r ≡ status_of s → EndsBy (EndsWell a) (EndsShort a) s → EndsAs a r
number-ends Done r e w = record { well = λ z. w; short = λ z. absurd (omega arith) }
number-ends Failed r e w = record { well = λ z. absurd (omega arith); short = λ z. absurd (omega arith) }
number-ends Misused r e w = record { well = λ z. absurd (omega arith); short = λ z. absurd (omega arith) }
number-ends NoRecording r e w = record { well = λ z. absurd (omega arith); short = λ z. w }

-- status 2 says neither
pub number-misused : {a : Action} (s : Status) (r : ℕ) → r ≡ status_of s → s ≡ Misused → EndsAs a r
number-misused s r e h =
    let q : r ≡ 2 = e ∙ ap status_of h in
    record { well = λ z. absurd (omega arith); short = λ z. absurd (omega arith) }

-- an action that is this one
pub same-action : {a b : Action} {r : ℕ} → a ≡ b → EndsAs b r → EndsAs a r
same-action {r = r} e h = subst (λ a. EndsAs a r) (sym e) h

-- wrong usage is status 2
pub misused-most : (s : Status) → s ≡ Misused → status_of s ≤ 2
misused-most s h = let q : status_of s ≡ 2 = ap status_of h in omega arith

-- a run with a status up to 2 does not end with 3
pub asked-ends : (s : Status) → status_of s ≤ 2 → WellOnly (Unit {0}) s
asked-ends Done m = tt
asked-ends Failed m = tt
asked-ends Misused m = tt
asked-ends NoRecording m = absurd (omega arith)

pub acted : {a : Action} {r : ℕ} → EndsAs a r → r ≡ 0 → Acted
acted {a = a} e z = record { action = a; well = e.well z }

pub acted-short : {a : Action} {r : ℕ} → EndsAs a r → r ≡ 3 → ActedShort
acted-short {a = a} e z = record { action = a; short = e.short z }

-- a count that was found to fit does not fail to
pub fits_not : {P : Type 0} (s t : Shape) (count : ℕ) (b : Bool) → s ≡ t → b ≡ fits s.fewest s.most count
    → b ≡ true → fits t.fewest t.most count ≡ false → P
fits_not s t count b e f g z =
    let q : true ≡ false = sym g ∙ f ∙ ap (λ s. fits s.fewest s.most count) e ∙ z in absurd (subst T q tt)
