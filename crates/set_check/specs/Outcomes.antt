-- What each record of a set comes to, and which records are good.
-- In order: outcome_in, record_of; GoodTo.
-- Assumes nothing.
use Rattle.std.specs.Prelude.{◌≡◌, List, ℕ, ◌<◌, take, drop, Option, Some, None}
use Rattle.answer.specs.declared.Refusal.TheVariants.{Length}
use Rattle.answer.specs.Outcomes.{Outcome, done, refused}
use Rattle.table.specs.Rows.{Code}
use Rattle.record_check.specs.Parse.{parse}
use Rattle.set_places.specs.declared.Place.{Place}
use Rattle.set_places.specs.Offsets.{record_place}

-- "8 if its length or bytes are cut off, else the record's own checks", for the record at a place of the set
abbrev pub outcome_in : List ℕ → Option Place → Outcome Code
outcome_in s (Some p) = parse (take p.len (drop p.start s))
outcome_in s None = refused Length

-- what record i comes to, counted from 0
abbrev pub record_of : List ℕ → ℕ → Outcome Code
record_of s i = outcome_in s (record_place s i)

-- the records with numbers below n are good
abbrev pub GoodTo : List ℕ → ℕ → Type 0
GoodTo s n = (k : ℕ) → k < n → (c : Code) × (record_of s k ≡ done c)
