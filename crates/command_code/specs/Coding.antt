-- What is done under a record.
-- In order: coded; Whole, Coded; Short, Spoiled; end_code; longest_of.
-- Assumes nothing.
use Rattle.std.specs.Prelude.{Ok}
use Rattle.std.specs.Prelude.{◌≡◌, List, ℕ, length}
use Rattle.answer.specs.Outcomes.{Outcome, answer_of}
use Rattle.codec.specs.Answers.{encode_under, decode_under}
use Rattle.codec_verify.specs.Verify.{verify_under}
use Rattle.command_outputs.specs.Results.{Gives}
use Rattle.command_verify.specs.Verifying.{end_by, Fewer}
use Rattle.command_arguments.specs.declared.Status.{Status}
use Rattle.command_arguments.specs.declared.Status.TheVariants.{Done}
use Rattle.command_arguments.specs.declared.Way.{Way}
use Rattle.command_arguments.specs.declared.Way.TheVariants.{Encode, Decode}

-- the words of blocks, or the blocks of words, under the record in the bytes, with so much room
abbrev pub coded : Way → List ℕ → ℕ → List ℕ → Outcome (List ℕ)
coded Encode rec room xs = encode_under rec room xs
coded Decode rec room xs = decode_under rec room xs

-- words that are decoded are a recording: all of them come back
abbrev pub Whole : Way → List ℕ → List ℕ → Type 0
Whole Encode rec xs = Unit {0}
Whole Decode rec xs = answer_of (verify_under rec xs) ≡ Ok (length xs)

-- some bytes have a result under some record, and words that are decoded are a recording
pub record Coded (w : Way) : Type 0 where
  pub under : List ℕ
  pub room : ℕ
  pub bytes : List ℕ
  pub gives : Gives (coded w under room bytes)
  pub whole : Whole w under bytes

-- words that are decoded are no recording: fewer of them come back
abbrev pub Short : Way → List ℕ → List ℕ → Type 0
Short Encode rec xs = ⊥
Short Decode rec xs = Fewer (answer_of (verify_under rec xs)) (length xs)

-- some words are decoded under some record, and are no recording
pub record Spoiled (w : Way) : Type 0 where
  pub under : List ℕ
  pub room : ℕ
  pub bytes : List ℕ
  pub gives : Gives (coded w under room bytes)
  pub short : Short w under bytes

-- how a run ends whose result was written: encoding well, decoding by how many words come back
abbrev pub end_code : Way → List ℕ → List ℕ → Status
end_code Encode rec xs = Done
end_code Decode rec xs = end_by (answer_of (verify_under rec xs)) (length xs)

-- the most bytes that are taken: 1,000,000 blocks, and the words of as many
abbrev pub longest_of : Way → ℕ
longest_of Encode = 1000000
longest_of Decode = 1000015
