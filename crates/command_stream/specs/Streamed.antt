-- What lets an action on bit streams end well, or with status 3: a result for some of what it can be given.
-- In order: Packed, Unpacked; EncodedStream, DecodedStream, SpoiledStream; Reached.
-- Assumes nothing.
use Rattle.std.specs.Prelude.{Ok}
use Rattle.std.specs.Prelude.{◌≡◌, List, ℕ, ◌≤◌}
use Rattle.answer.specs.Outcomes.{answer_of}
use Rattle.stream_pack.specs.Streams.{pack_into, unpack_into}
use Rattle.stream.specs.Recorded.{encode_stream, decode_stream}
use Rattle.codec_verify.specs.Verify.{verify_stream}
use Rattle.stream_damage.specs.BitReach.{reach_under}
use Rattle.command_outputs.specs.Results.{Gives}
use Rattle.command_verify.specs.Verifying.{Fewer}
use Rattle.command_stream.specs.Reaching.{bits_from}

-- some words of q bits are packed
pub record Packed : Type 0 where
  pub q : ℕ
  pub room : ℕ
  pub words : List ℕ
  pub gives : Gives (pack_into q room words)

-- so many words of q bits are unpacked from some stream
pub record Unpacked : Type 0 where
  pub q : ℕ
  pub count : ℕ
  pub room : ℕ
  pub stream : List ℕ
  pub gives : Gives (unpack_into q count room stream)

-- some blocks are encoded to a stream under some record
pub record EncodedStream : Type 0 where
  pub under : List ℕ
  pub room : ℕ
  pub blocks : List ℕ
  pub gives : Gives (encode_stream under room blocks)

-- so many words of some stream are decoded under some record, and are a recording
pub record DecodedStream : Type 0 where
  pub under : List ℕ
  pub count : ℕ
  pub room : ℕ
  pub stream : List ℕ
  pub gives : Gives (decode_stream under count room stream)
  pub whole : answer_of (verify_stream under count stream) ≡ Ok count

-- so many words of some stream are decoded under some record, and are no recording: fewer of them come back
pub record SpoiledStream : Type 0 where
  pub under : List ℕ
  pub count : ℕ
  pub room : ℕ
  pub stream : List ℕ
  pub gives : Gives (decode_stream under count room stream)
  pub short : Fewer (answer_of (verify_stream under count stream)) count

-- the reach of damage from a first bit to a last one, which is not below it, is known under some record
pub record Reached : Type 0 where
  pub under : List ℕ
  pub first : ℕ
  pub last : ℕ
  pub order : first ≤ last
  pub gives : Gives (reach_under under (bits_from first last))
