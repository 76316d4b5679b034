-- Which call a case makes, and what it comes to: its number and its value.
-- In order: told_of, told_of_set; Called.
-- Assumes nothing.
use Rattle.answer.specs.declared.Refusal.{Refusal}
use Rattle.std.specs.Prelude.{Result}
use Rattle.std.specs.Prelude.{◌≡◌, ℕ, List}
use Rattle.answer.specs.Outcomes.{answer_of}
use Rattle.answer.specs.Answers.{answer_number, answer_value}
use Rattle.record_check.specs.Parse.{checked_only}
use Rattle.codec.specs.Answers.{encode_under, decode_under}
use Rattle.set_check.specs.Sets.{read_set}
use Rattle.set_check.specs.Results.{set_answer, set_number, set_value}
use Rattle.judging.specs.declared.Told.{Told}

-- the number and the value of an answer
abbrev pub told_of : Result ℕ Refusal → Told
told_of a = record { number = answer_number a; value = answer_value a }

-- the number and the value of what a set is answered
abbrev pub told_of_set : List ℕ → Told
told_of_set set = record {
  number = set_number (set_answer (read_set set));
  value = set_value
      (set_answer (read_set set));
}

-- a case of kind 3 checks a record, one of kind 4 encodes, of kind 5 decodes, and of kind 6 walks a set
pub record Called (kind : ℕ) (first second : List ℕ) (room : ℕ) (a : Told) : Type 0 where
  pub check : kind ≡ 3 → a ≡ told_of (answer_of (checked_only first))
  pub encode : kind ≡ 4 → a ≡ told_of (answer_of (encode_under first room second))
  pub decode : kind ≡ 5 → a ≡ told_of (answer_of (decode_under first room second))
  pub set : kind ≡ 6 → a ≡ told_of_set first
