-- A text as the result of a call.
-- In order: fill-short, fill_done; fill-same.
-- Assumes nothing.
use Rattle.answer.specs.declared.Refusal.{Refusal}
use Rattle.std.proofs.Common.{Result, Ok, Err}
use Rattle.std.proofs.Common.{◌≡◌, ◌++◌, ◌≤◌, ◌<◌}
use Rattle.laws.proofs.All.{sym, ap, subst, ◌∙◌, List, ℕ, arith, lt-leb, length, take, drop}
use Rattle.laws.proofs.All.{take_all}
use Rattle.answer.specs.declared.Refusal.TheVariants.{ShortOutput}
use Rattle.answer.specs.Outcomes.{done, fitting, answer_of, output_of}
use Rattle.answer.proofs.Outcomes.{fitting-true, unless-false}

pub fill-short : (xs B : List ℕ) → length B < length xs
    → (Err ShortOutput ≡ answer_of (fitting (length B) xs)) × (B ≡ output_of (fitting (length B) xs) B)
fill-short xs B h =
    let e = unless-false ShortOutput _ (done xs) (lt-leb (length xs) (length B) h) in
    (sym (ap answer_of e), sym (ap (λ o. output_of o B) e))

pub fill_done : (xs B C : List ℕ) (r : ℕ) → length xs ≤ length B → r ≡ length xs
    → C ≡ take (length xs) xs ++ drop (length xs) B
    → (Ok r ≡ answer_of (fitting (length B) xs)) × (C ≡ output_of (fitting (length B) xs) B)
fill_done xs B C r h n w =
    let e = fitting-true (length B) xs h in (
      ap Ok n ∙ sym (ap answer_of e),
      w ∙ ap (λ l. l ++ drop (length xs) B) (take_all (length xs) xs (omega arith)) ∙ sym (ap (λ o. output_of o B) e),
    )

-- the same text
pub fill-same : (B : List ℕ) {xs ys C : List ℕ} {r : Result ℕ Refusal} → xs ≡ ys
    → (r ≡ answer_of (fitting (length B) xs)) × (C ≡ output_of (fitting (length B) xs) B)
    → (r ≡ answer_of (fitting (length B) ys)) × (C ≡ output_of (fitting (length B) ys) B)
fill-same B {C = C} {r = r} e h =
    subst (λ l. (r ≡ answer_of (fitting (length B) l)) × (C ≡ output_of (fitting (length B) l) B)) e h
