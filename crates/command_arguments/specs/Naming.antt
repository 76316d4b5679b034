-- Which action a word names, if one does.
-- In order: asked_action, verify_action, recordings_action, stream_action, record_action, action_of.
-- Assumes nothing.
use Rattle.std.specs.Prelude.{if◌then◌else◌, List, ℕ, Option, Some, None}
use Rattle.text.specs.Texts.{bytes}
use Rattle.text.specs.Words.{same}
use Rattle.command_arguments.specs.declared.Action.{Action}
use Rattle.command_arguments.specs.declared.Action.TheVariants.{Compile, CompileJob, CompileJoined, Trace}
use Rattle.command_arguments.specs.declared.Action.TheVariants.{Collection, Help, Version, Viewing, Coding}
use Rattle.command_arguments.specs.declared.Action.TheVariants.{Stream}
use Rattle.command_arguments.specs.declared.Action.TheVariants.{WithTail, Recordings, Verify}
use Rattle.command_arguments.specs.declared.View.TheVariants.{Check, Show, Draw}
use Rattle.command_arguments.specs.declared.Way.TheVariants.{Encode, Decode}
use Rattle.command_arguments.specs.declared.OnStream.TheVariants.{Pack, Unpack, Reach}
use Rattle.command_arguments.specs.declared.OnStream.TheVariants.{Encode as EncodeStream, Decode as DecodeStream}
use Rattle.command_arguments.specs.declared.OnRecordings.TheVariants.{Weave, Unweave}
use Rattle.command_arguments.specs.declared.Form.TheVariants.{Words, Stream as AsStream}

-- the action that asks about the command itself
unfoldable pub asked_action : List ℕ → Option Action
asked_action w =
    if same w (bytes "help") then Some Help else
    if same w (bytes "--help") then Some Help else
    if same w (bytes "-h") then Some Help else
    if same w (bytes "--version") then Some Version else None

-- the action that tells whether words are a recording
unfoldable pub verify_action : List ℕ → Option Action
verify_action w =
    if same w (bytes "verify") then Some (Verify Words) else
    if same w (bytes "verify-stream") then Some (Verify AsStream) else asked_action w

-- the action on several recordings at once
unfoldable pub recordings_action : List ℕ → Option Action
recordings_action w =
    if same w (bytes "weave") then Some (Recordings Weave) else
    if same w (bytes "unweave") then Some (Recordings Unweave) else verify_action w

-- the action on bit streams
unfoldable pub stream_action : List ℕ → Option Action
stream_action w =
    if same w (bytes "pack") then Some (Stream Pack) else
    if same w (bytes "unpack") then Some (Stream Unpack) else
    if same w (bytes "encode-stream") then Some (Stream EncodeStream) else
    if same w (bytes "decode-stream") then Some (Stream DecodeStream) else
    if same w (bytes "reach") then Some (Stream Reach) else recordings_action w

-- the action on one record, or on one and what is recorded under it
unfoldable pub record_action : List ℕ → Option Action
record_action w =
    if same w (bytes "check") then Some (Viewing Check) else
    if same w (bytes "show") then Some (Viewing Show) else
    if same w (bytes "draw") then Some (Viewing Draw) else
    if same w (bytes "with-tail") then Some WithTail else
    if same w (bytes "encode") then Some (Coding Encode) else
    if same w (bytes "decode") then Some (Coding Decode) else stream_action w

-- the action that a word names
unfoldable pub action_of : List ℕ → Option Action
action_of w =
    if same w (bytes "compile") then Some (Compile 0) else
    if same w (bytes "compile-job") then Some CompileJob else
    if same w (bytes "trace") then Some Trace else
    if same w (bytes "set") then Some Collection else
    if same w (bytes "compile-joined") then Some CompileJoined else record_action w
