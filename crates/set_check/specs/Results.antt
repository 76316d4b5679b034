-- The answer of a set: what it must be of a walk, its number and its value; and one step of the walk.
-- In order: bad; SetAnswer, set_answer; set_number, set_value; step_of, step_at.
-- Assumes nothing.
use Rattle.std.specs.Prelude.{if◌then◌else◌, List, ℕ, ◌+◌, leb, length, take, drop, Result, Ok, Err}
use Rattle.answer.specs.declared.Refusal.{Refusal}
use Rattle.answer.specs.declared.Refusal.TheVariants.{Length}
use Rattle.answer.specs.Outcomes.{Outcome, done, refused}
use Rattle.answer.specs.Refusals.{number_of}
use Rattle.table.specs.Rows.{Code}
use Rattle.record_check.specs.Parse.{parse}
use Rattle.set_places.specs.Offsets.{length_at, end_at}
use Rattle.set_check.specs.declared.BadRecord.{BadRecord}
use Rattle.set_check.specs.Sets.{Walk, codes, stopped}

-- the bad record number i, with its refusal
abbrev pub bad : ℕ → Refusal → BadRecord
bad i r = record { number = i; refusal = r }

-- how many records a good set has, or the first bad one
abbrev pub SetAnswer : Type 0
SetAnswer = Result ℕ BadRecord

-- how many records a good set has; or "the first bad one [..] is answered with its number from 0 and its refusal"
abbrev pub set_answer : Walk → SetAnswer
set_answer (codes cs) = Ok (length cs)
set_answer (stopped i r) = Err (bad i r)

-- 0 for a good set, otherwise the number of the refusal
abbrev pub set_number : SetAnswer → ℕ
set_number (Ok count) = 0
set_number (Err b) = number_of b.refusal

-- how many records a good set has, otherwise the number of the first bad one
abbrev pub set_value : SetAnswer → ℕ
set_value (Ok count) = count
set_value (Err b) = b.number

-- what the walk makes of the outcome of a record that ends at e
abbrev pub step_of : ℕ → Outcome Code → Result ℕ Refusal
step_of e (done c) = Ok e
step_of e (refused r) = Err r

-- the step over the record whose length stands at an offset: "8 if its length or bytes are cut off, else the record's
-- own checks"
unfoldable pub step_at : List ℕ → ℕ → Result ℕ Refusal
step_at s at =
    let r = step_of (end_at s at) (parse (take (length_at s at) (drop (at + 2) s))) in
    if leb (end_at s at) (length s) then r else Err Length
