-- An outcome as the code answers it, with the lent bytes after the call.
-- In order: declined, finished, handed; ends-onward, goes-onward; output-bytes.
-- Assumes nothing.
use Rattle.std.proofs.Common.{Result, Ok, Err}
use Rattle.std.proofs.Common.{◌≡◌, ◌++◌}
use Rattle.laws.proofs.All.{refl, sym, ap, ◌∙◌, List, ℕ, length, take, drop, take-append_seam, drop_at}
use Rattle.answer.specs.declared.Refusal.{Refusal}
use Rattle.answer.specs.Outcomes.{Outcome, done, refused, onward, answer_of, output_of}

-- a refusal, and the lent bytes as they were
pub declined : (o : Outcome (List ℕ)) (r : Refusal) (out : List ℕ) → o ≡ refused r
    → (Err r ≡ answer_of o) × (out ≡ output_of o out)
declined o r out e = (sym (ap answer_of e), sym (ap (λ x. output_of x out) e))

-- a result of n bytes, and the lent bytes with it in front
pub finished : (o : Outcome (List ℕ)) (xs out out' : List ℕ) (n : ℕ) → o ≡ done xs → n ≡ length xs
    → out' ≡ xs ++ drop n out → (Ok n ≡ answer_of o) × (out' ≡ output_of o out)
finished o xs out out' n e q b =
    (ap Ok q ∙ sym (ap answer_of e), b ∙ ap (λ k. xs ++ drop k out) q ∙ sym (ap (λ x. output_of x out) e))

-- an answer and the output that meet an outcome meet one that is equal to it
pub handed : (o o' : Outcome (List ℕ)) (a : Result ℕ Refusal) (out out' : List ℕ) → o ≡ o' → a ≡ answer_of o
    → out' ≡ output_of o out → (a ≡ answer_of o') × (out' ≡ output_of o' out)
handed o o' a out out' e p q = (p ∙ ap answer_of e, q ∙ ap (λ x. output_of x out) e)

-- a first step that is refused ends the call
pub ends-onward : {A : Type 0} (o : Outcome A) (f : A → Outcome (List ℕ)) (r : Refusal) (out : List ℕ) → o ≡ refused r
    → (Err r ≡ answer_of (onward o f)) × (out ≡ output_of (onward o f) out)
ends-onward o f r out e = declined (onward o f) r out (ap (λ x. onward x f) e)

-- and one that is done hands on what comes of its result
pub goes-onward : {A : Type 0} (o : Outcome A) (f : A → Outcome (List ℕ)) (x : A) (a : Result ℕ Refusal) (out out' : List ℕ)
    → o ≡ done x → a ≡ answer_of (f x) → out' ≡ output_of (f x) out
    → (a ≡ answer_of (onward o f)) × (out' ≡ output_of (onward o f) out)
goes-onward o f x a out out' e = handed (f x) (onward o f) a out out' (ap (λ y. onward y f) (sym e))

-- THEOREM: a result fills the output from its first byte, and bytes past its end and those of a refused call stay
pub output-bytes : (out : List ℕ) → ((xs : List ℕ) → (take (length xs) (output_of (done xs) out) ≡ xs)
    × (drop (length xs) (output_of (done xs) out) ≡ drop (length xs) out))
    × ((r : Refusal) → output_of (refused r) out ≡ out)
output-bytes out = (
  (λ xs. (take-append_seam xs (drop (length xs) out), drop_at xs (drop (length xs) out) (length xs) refl)),
  (λ r. refl),
)
