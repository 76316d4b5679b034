-- A result lies within the bytes that were lent for it; a run that a call refuses fails, so one that ends well had a
-- result.
-- In order: result-within, front_long; fails-refused, fails-done, fails-outcome; failed-most, ended-most; well-holds;
-- failed-by, by-well, by-ends, fails_by, fails-well.
-- Assumes nothing.
use Rattle.std.specs.Prelude.{Result, Ok, Err}
use Rattle.std.proofs.Common.{◌≡◌, ◌≤◌}
use Rattle.laws.proofs.All.{sym, ap, subst, ◌∙◌, List, ℕ, arith, length, drop, length-append}
use Rattle.answer.specs.declared.Refusal.{Refusal}
use Rattle.answer.specs.Outcomes.{Outcome, done, refused, answer_of, output_of}
use Rattle.command_arguments.specs.declared.Status.{Status}
use Rattle.command_arguments.specs.declared.Status.TheVariants.{Done, Failed, Misused, NoRecording}
use Rattle.command_arguments.specs.Shapes.{status_of}
use Rattle.command_store.specs.declared.StoreError.{StoreError}
use Rattle.command_outputs.specs.Results.{Within, Fails, FailsBy, Gives, EndsBy, WellOnly, ended_by}

pub result-within : (o : Outcome (List ℕ)) (a : Result ℕ Refusal) (B C : List ℕ) → a ≡ answer_of o → C ≡ output_of o B
    → Within a C
result-within o a B C e w = subst (λ a. Within a C) (sym e) (go o w)
  where
    go : (o : Outcome (List ℕ)) → C ≡ output_of o B → Within (answer_of o) C
    go (done xs) w = let l = ap length w ∙ length-append xs (drop (length xs) B) in omega arith
    go (refused r) w = tt

pub front_long : (a : Result ℕ Refusal) (xs : List ℕ) (n : ℕ) → Within a xs → a ≡ Ok n → n ≤ length xs
front_long a xs n h e = subst (λ a. Within a xs) e h

pub fails-refused : (a : Result ℕ Refusal) (r : Refusal) (s : Status) → a ≡ Err r → s ≡ Failed → Fails a s
fails-refused a r s e h = subst (λ a. Fails a s) (sym e) h

pub fails-done : (a : Result ℕ Refusal) (n : ℕ) (s : Status) → a ≡ Ok n → Fails a s
fails-done a n s e = subst (λ a. Fails a s) (sym e) tt

-- how a run ends is said of the call's outcome
pub fails-outcome : (o : Outcome (List ℕ)) (a : Result ℕ Refusal) (s : Status) → a ≡ answer_of o → Fails a s
    → Fails (answer_of o) s
fails-outcome o a s e = subst (λ a. Fails a s) e

-- a run that fails ends with status 1
pub failed-most : (s : Status) → s ≡ Failed → status_of s ≤ 1
failed-most s e = let q : status_of s ≡ 1 = ap status_of e in omega arith

-- a run that writes its result ends with status 0 or 1
pub ended-most : (w : Result ℕ StoreError) (s : Status) → s ≡ ended_by w → status_of s ≤ 1
ended-most w s e = subst (λ s. status_of s ≤ 1) (sym e) (go w)
  where
    go : (w : Result ℕ StoreError) → status_of (ended_by w) ≤ 1
    go (Ok n) = omega arith
    go (Err e) = omega arith

-- a run with status 0 or 1 may end so where P holds
pub well-holds : {P : Type 0} (s : Status) → status_of s ≤ 1 → P → WellOnly P s
well-holds Done m p = p
well-holds Failed m p = tt
well-holds Misused m p = tt
well-holds NoRecording m p = absurd (omega arith)

pub failed-by : {A : Type 0} (o : Outcome A) (s : Status) → s ≡ Failed → FailsBy o s
failed-by (done x) s h = tt
failed-by (refused r) s h = h

-- a run that ends well had a result
pub by-well : {A : Type 0} {P : Type 0} (o : Outcome A) (s : Status) → status_of s ≤ 1 → FailsBy o s → (Gives o → P)
    → WellOnly P s
by-well {P = P} (done x) s m h f = well-holds s m (f tt)
by-well {P = P} (refused r) s m h f = subst (WellOnly P) (sym h) tt

-- and so had one that ends with status 3
pub by-ends : {A : Type 0} (o : Outcome A) (s : Status) → FailsBy o s → EndsBy (Gives o) (Gives o) s
by-ends (done x) Done h = tt
by-ends (done x) Failed h = tt
by-ends (done x) Misused h = tt
by-ends (done x) NoRecording h = tt
by-ends (refused r) s h = subst (EndsBy ⊥ ⊥) (sym h) tt

pub fails_by : (o : Outcome (List ℕ)) (a : Result ℕ Refusal) (s : Status) → a ≡ answer_of o → Fails a s → FailsBy o s
fails_by o a s e h = go o (fails-outcome o a s e h)
  where
    go : (o : Outcome (List ℕ)) → Fails (answer_of o) s → FailsBy o s
    go (done xs) h = tt
    go (refused r) h = h

pub fails-well : {P : Type 0} (o : Outcome (List ℕ)) (a : Result ℕ Refusal) (s : Status) → a ≡ answer_of o
    → Fails a s × (status_of s ≤ 1) → (Gives o → P) → WellOnly P s
fails-well o a s e h = by-well o s h.1 (fails_by o a s e h.0)
