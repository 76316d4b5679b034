-- What a call comes to, as the definitions say it: a finished result of any kind, or one refusal chosen by a fixed
-- order of checks. A call that fills bytes lent for output has a list of bytes as its result.
-- In order: Outcome; unless, one check; onward, what is done with a result; verdict_on, a value and what was said of
-- it; outcome_of, the code's result; fitting, the check of the room; answer_of, the code's answer; output_of, the lent bytes after the call.
-- Assumes nothing.
use Rattle.std.specs.Prelude.{Bool, true, false, List, ◌++◌, ℕ, Result, Ok, Err, leb, length, drop}
use Rattle.answer.specs.declared.Refusal.{Refusal}
use Rattle.answer.specs.declared.Refusal.TheVariants.{ShortOutput}

-- a finished result, or one refusal
pub data Outcome (A : Type 0) : Type 0 where
  done : A → Outcome A
  refused : Refusal → Outcome A

-- one check: the refusal, unless the test passes
abbrev pub unless : {A : Type 0} → Refusal → Bool → Outcome A → Outcome A
unless r true a = a
unless r false a = refused r

-- a result goes on, a refusal ends the call
abbrev pub onward : {A B : Type 0} → Outcome A → (A → Outcome B) → Outcome B
onward (done a) f = f a
onward (refused r) f = refused r

-- the value that a check found good, or why the check declines
abbrev pub verdict_on : {A : Type 0} → Result Unit Refusal → A → Outcome A
verdict_on (Ok u) a = done a
verdict_on (Err r) a = refused r

-- what the code's result comes to, with its value read by f
abbrev pub outcome_of : {A B : Type 0} → (A → B) → Result A Refusal → Outcome B
outcome_of f (Ok a) = done (f a)
outcome_of f (Err r) = refused r

-- "lent output too short": the bytes, if there is room for them
abbrev pub fitting : ℕ → List ℕ → Outcome (List ℕ)
fitting room xs = unless ShortOutput (leb (length xs) room) (done xs)

-- the answer that names the refusal, or how many bytes the result has
abbrev pub answer_of : Outcome (List ℕ) → Result ℕ Refusal
answer_of (done xs) = Ok (length xs)
answer_of (refused r) = Err r

-- "A result fills the output from its first byte; bytes past its end stay as lent"; refused: "Output bytes stay as
-- lent"
abbrev pub output_of : Outcome (List ℕ) → List ℕ → List ℕ
output_of (done xs) out = xs ++ drop (length xs) out
output_of (refused r) out = out
