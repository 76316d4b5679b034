-- What a call leaves: how many of the bytes are the result; and how a run ends: where the call is refused, and by what
-- writing the result came to.
-- In order: Within; Fails; FailsBy, Gives; EndsBy, WellOnly; ended_by.
-- Assumes nothing.
use Rattle.answer.specs.declared.Refusal.{Refusal}
use Rattle.std.specs.Prelude.{◌≡◌, List, ℕ, ◌≤◌, length, Result, Ok, Err}
use Rattle.command_arguments.specs.declared.Status.{Status}
use Rattle.answer.specs.Outcomes.{Outcome, done, refused}
use Rattle.command_arguments.specs.declared.Status.TheVariants.{Done, Failed, Misused, NoRecording}
use Rattle.command_store.specs.declared.StoreError.{StoreError}

-- a result lies within the bytes
abbrev pub Within : Result ℕ Refusal → List ℕ → Type 0
Within (Ok n) xs = n ≤ length xs
Within (Err r) xs = Unit {0}

-- a run whose call is refused fails; how one with a result ends is the system's
abbrev pub Fails : Result ℕ Refusal → Status → Type 0
Fails (Ok n) s = Unit {0}
Fails (Err r) s = s ≡ Failed

-- the same of a call with a result of any kind
abbrev pub FailsBy : {A : Type 0} → Outcome A → Status → Type 0
FailsBy (done x) s = Unit {0}
FailsBy (refused r) s = s ≡ Failed

-- the call has a result
abbrev pub Gives : {A : Type 0} → Outcome A → Type 0
Gives (done x) = Unit {0}
Gives (refused r) = ⊥

-- how a run may end: well only where W holds, and with status 3 only where N does
abbrev pub EndsBy : Type 0 → Type 0 → Status → Type 0
EndsBy W N Done = W
EndsBy W N Failed = Unit {0}
EndsBy W N Misused = Unit {0}
EndsBy W N NoRecording = N

-- a run ends well only where P holds, and never with status 3
abbrev pub WellOnly : Type 0 → Status → Type 0
WellOnly P s = EndsBy P ⊥ s

-- how a run ends by what writing its result came to: well where all of it was written
abbrev pub ended_by : Result ℕ StoreError → Status
ended_by (Ok n) = Done
ended_by (Err e) = Failed
