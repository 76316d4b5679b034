-- What is said of words that were verified, and how a run ends by how many of them come back.
-- In order: recording_line, short_line; blocks_under; end_by, after_by, Fewer; VerifiedWords, VerifiedStream.
-- Assumes nothing.
use Rattle.answer.specs.declared.Refusal.{Refusal}
use Rattle.std.specs.Prelude.{Result, Ok, Err}
use Rattle.std.specs.Prelude.{if◌then◌else◌, ◌≡◌, List, [], ◌∷◌, ℕ, ◌-◌, ◌<◌, ltb, length}
use Rattle.answer.specs.Outcomes.{Outcome, done, refused, answer_of}
use Rattle.sentences.specs.Sentences.{said}
use Rattle.table.specs.Rows.{Code}
use Rattle.codec_verify.specs.Verify.{verify_under, verify_stream}
use Rattle.command_arguments.specs.declared.Status.{Status}
use Rattle.command_arguments.specs.declared.Status.TheVariants.{Done, Failed, Misused, NoRecording}

-- the line of a recording of n blocks: `a recording of 12 blocks`
abbrev pub recording_line : ℕ → List ℕ
recording_line n = said "a recording of # block~\n" (n ∷ n ∷ [])

-- the line of n words of which k come back, and not the next
abbrev pub short_line : ℕ → ℕ → List ℕ
short_line k n =
    said "sbc: no recording: # of # word~ come back, word # is the first that does not\n" (k ∷ n ∷ n ∷ k ∷ [])

-- how many blocks n words have, under the record that was read
abbrev pub blocks_under : Outcome Code → ℕ → ℕ
blocks_under (done c) n = n - c.window.lookahead
blocks_under (refused r) n = 0

-- how a run ends by the answer on n words: it fails where they are refused, with status 3 where fewer come back
abbrev pub end_by : Result ℕ Refusal → ℕ → Status
end_by (Err r) n = Failed
end_by (Ok k) n = if ltb k n then NoRecording else Done

-- how a run ends that ended so far as the first: as the second where all was written, and otherwise it fails
abbrev pub after_by : Status → Status → Status
after_by Done e = e
after_by Failed e = Failed
after_by Misused e = Failed
after_by NoRecording e = Failed

-- the answer on n words is that fewer come back
abbrev pub Fewer : Result ℕ Refusal → ℕ → Type 0
Fewer r n = (k : ℕ) × (r ≡ Ok k) × (k < n)

-- some words are a recording under some record
pub record VerifiedWords : Type 0 where
  pub under : List ℕ
  pub words : List ℕ
  pub whole : answer_of (verify_under under words) ≡ Ok (length words)

-- so many words of some stream are a recording under some record
pub record VerifiedStream : Type 0 where
  pub under : List ℕ
  pub count : ℕ
  pub stream : List ℕ
  pub whole : answer_of (verify_stream under count stream) ≡ Ok count
