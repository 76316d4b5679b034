-- What each action takes: how many arguments, and which of them are numbers, are read and are written; and the number
-- of a status.
-- In order: shaped, written_after, stream_shape, verify_shape, shape_of, fits; status_of.
-- Assumes nothing.
use Rattle.std.specs.Prelude.{if◌then◌else◌, Bool, ◌&&◌, ℕ, ◌+◌, min, leb, eqb}
use Rattle.command_arguments.specs.declared.Shape.{Shape}
use Rattle.command_arguments.specs.declared.Action.{Action}
use Rattle.command_arguments.specs.declared.Action.TheVariants.{Compile, CompileJob, CompileJoined, Trace}
use Rattle.command_arguments.specs.declared.Action.TheVariants.{Collection, Help, Version, Viewing, Coding}
use Rattle.command_arguments.specs.declared.Action.TheVariants.{Stream}
use Rattle.command_arguments.specs.declared.Action.TheVariants.{WithTail, Recordings, Verify}
use Rattle.command_arguments.specs.declared.OnStream.{OnStream}
use Rattle.command_arguments.specs.declared.OnStream.TheVariants.{Pack, Unpack, Encode, Decode, Reach}
use Rattle.command_arguments.specs.declared.Form.{Form}
use Rattle.command_arguments.specs.declared.Form.TheVariants.{Words, Stream as AsStream}
use Rattle.command_arguments.specs.declared.Status.{Status}
use Rattle.command_arguments.specs.declared.Status.TheVariants.{Done, Failed, Misused, NoRecording}

-- the fewest and the most arguments, and the places of the first number, of the record, of the file read and of the
-- file written
abbrev pub shaped : ℕ → ℕ → ℕ → ℕ → ℕ → ℕ → Shape
shaped fewest most number under read written =
    record { fewest = fewest; most = most; number = number; under = under; read = read; written = written }

-- where the name of the file written stands: after the five numbers, and after the word `weights` and so many weights,
-- of which there are at most 16
abbrev pub written_after : ℕ → ℕ
written_after w = if eqb w 0 then 7 else 8 + min w 16

-- what an action on bit streams takes
abbrev pub stream_shape : OnStream → Shape
stream_shape Pack = shaped 5 5 2 0 3 4
stream_shape Unpack = shaped 6 6 2 0 4 5
stream_shape Encode = shaped 5 5 0 2 3 4
stream_shape Decode = shaped 6 6 3 2 4 5
stream_shape Reach = shaped 5 5 3 2 0 0

-- what an action that verifies takes
abbrev pub verify_shape : Form → Shape
verify_shape Words = shaped 4 4 0 2 3 0
verify_shape AsStream = shaped 5 5 3 2 4 0

-- what an action takes; argument 0 is the program's name, argument 1 the action's
abbrev pub shape_of : Action → Shape
shape_of (Compile w) = shaped 7 25 2 0 0 (written_after w)
shape_of CompileJob = shaped 3 4 0 0 2 3
shape_of CompileJoined = shaped 3 4 0 0 2 3
shape_of Trace = shaped 7 24 2 0 0 0
shape_of Collection = shaped 3 3 0 0 2 0
shape_of Help = shaped 2 3 0 0 0 0
shape_of Version = shaped 2 2 0 0 0 0
shape_of (Viewing v) = shaped 3 3 0 2 0 0
shape_of WithTail = shaped 5 5 3 2 0 4
shape_of (Coding w) = shaped 5 5 0 2 3 4
shape_of (Stream s) = stream_shape s
shape_of (Recordings r) = shaped 5 5 2 0 3 4
shape_of (Verify f) = verify_shape f

-- a count of arguments is from the fewest to the most
abbrev pub fits : ℕ → ℕ → ℕ → Bool
fits fewest most count = leb fewest count && leb count most

-- the exit status
abbrev pub status_of : Status → ℕ
status_of Done = 0
status_of Failed = 1
status_of Misused = 2
status_of NoRecording = 3
