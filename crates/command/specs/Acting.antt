-- Which definition the status of an action comes from: a run ends with status 0 only where the action's definition has
-- a result, and with status 3 only where it has one for words that are no recording, for some of what the action can be
-- given. What it was given is the system's to say: no contract names it.
-- In order: CompiledNumbers, CompiledJob, CompiledJoined; Viewed, Closed; SetFails, Listed; EndsWell, EndsShort,
-- EndsAs; Acted, ActedShort.
-- Assumes nothing.
use Rattle.std.specs.Prelude.{◌≡◌, List, ℕ}
use Rattle.table.specs.Rows.{Code}
use Rattle.record_check.specs.Parse.{parse}
use Rattle.record_tail.specs.Closing.{closed_with}
use Rattle.compile.specs.Compile.{compile_run_length, compile_job, compile_joined}
use Rattle.set_check.specs.Sets.{Walk, codes, stopped, read_set}
use Rattle.command_arguments.specs.declared.Action.{Action}
use Rattle.command_arguments.specs.declared.Action.TheVariants.{Compile, CompileJob, CompileJoined, Trace}
use Rattle.command_arguments.specs.declared.Action.TheVariants.{Collection, Help, Version, Viewing, Coding}
use Rattle.command_arguments.specs.declared.Action.TheVariants.{Stream, WithTail, Recordings, Verify}
use Rattle.command_arguments.specs.declared.OnStream.TheVariants.{Pack, Unpack, Encode, Decode, Reach}
use Rattle.command_arguments.specs.declared.Form.TheVariants.{Words, Stream as AsStream}
use Rattle.command_arguments.specs.declared.Status.{Status}
use Rattle.command_arguments.specs.declared.Status.TheVariants.{Failed}
use Rattle.command_outputs.specs.Results.{Gives}
use Rattle.command_verify.specs.Verifying.{VerifiedWords, VerifiedStream}
use Rattle.command_code.specs.Coding.{Coded, Spoiled}
use Rattle.command_weave.specs.Weaves.{Rearranged}
use Rattle.command_stream.specs.Streamed.{Packed, Unpacked, EncodedStream, DecodedStream, SpoiledStream, Reached}

-- some run-length job is compiled
pub record CompiledNumbers : Type 0 where
  pub job : List ℕ
  pub room : ℕ
  pub gives : Gives (compile_run_length job room)

-- some job is compiled
pub record CompiledJob : Type 0 where
  pub job : List ℕ
  pub room : ℕ
  pub gives : Gives (compile_job job room)

-- some job with two constraints is compiled
pub record CompiledJoined : Type 0 where
  pub job : List ℕ
  pub room : ℕ
  pub gives : Gives (compile_joined job room)

-- some bytes are a record that is accepted
pub record Viewed : Type 0 where
  pub bytes : List ℕ
  pub gives : Gives (parse bytes)

-- some record takes some tail datum
pub record Closed : Type 0 where
  pub bytes : List ℕ
  pub datum : ℕ
  pub room : ℕ
  pub gives : Gives (closed_with bytes datum room)

-- the run fails for a bad set
abbrev pub SetFails : Walk → Status → Type 0
SetFails (codes cs) s = Unit {0}
SetFails (stopped i r) s = s ≡ Failed

-- some bytes are a good set
pub record Listed : Type 0 where
  pub bytes : List ℕ
  pub records : List Code
  pub good : read_set bytes ≡ codes records

-- what lets an action end well: a result by its definition; to ask about the command asks for nothing
abbrev pub EndsWell : Action → Type 0
EndsWell (Compile w) = CompiledNumbers
EndsWell CompileJob = CompiledJob
EndsWell CompileJoined = CompiledJoined
EndsWell Trace = CompiledNumbers
EndsWell Collection = Listed
EndsWell Help = Unit {0}
EndsWell Version = Unit {0}
EndsWell (Viewing v) = Viewed
EndsWell WithTail = Closed
EndsWell (Coding w) = Coded w
EndsWell (Stream Pack) = Packed
EndsWell (Stream Unpack) = Unpacked
EndsWell (Stream Encode) = EncodedStream
EndsWell (Stream Decode) = DecodedStream
EndsWell (Stream Reach) = Reached
EndsWell (Recordings how) = Rearranged how
EndsWell (Verify Words) = VerifiedWords
EndsWell (Verify AsStream) = VerifiedStream

-- what lets an action end with status 3: words that were decoded and are no recording
abbrev pub EndsShort : Action → Type 0
EndsShort (Compile w) = ⊥
EndsShort CompileJob = ⊥
EndsShort CompileJoined = ⊥
EndsShort Trace = ⊥
EndsShort Collection = ⊥
EndsShort Help = ⊥
EndsShort Version = ⊥
EndsShort (Viewing v) = ⊥
EndsShort WithTail = ⊥
EndsShort (Coding w) = Spoiled w
EndsShort (Stream Pack) = ⊥
EndsShort (Stream Unpack) = ⊥
EndsShort (Stream Encode) = ⊥
EndsShort (Stream Decode) = SpoiledStream
EndsShort (Stream Reach) = ⊥
EndsShort (Recordings how) = ⊥
EndsShort (Verify f) = ⊥

-- what the exit status r of an action says: 0 that it ended well, and 3 that it decoded words that are no recording
pub record EndsAs (a : Action) (r : ℕ) : Type 0 where
  pub well : r ≡ 0 → EndsWell a
  pub short : r ≡ 3 → EndsShort a

-- some action ended well
pub record Acted : Type 0 where
  pub action : Action
  pub well : EndsWell action

-- some action ended with status 3
pub record ActedShort : Type 0 where
  pub action : Action
  pub short : EndsShort action
