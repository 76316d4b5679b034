-- Encoding to a stream, check by check.
-- In order: streamed→, stream-encodes, what a finished stream says; stream-7 to stream-last, under a table by value.
-- Assumes nothing.
use Rattle.std.proofs.Common.{◌≡◌, ◌+◌, ◌^◌, ◌≤◌, ◌<◌}
use Rattle.laws.proofs.All.{true, false, List, ℕ, lt-leb, le-leb, leb, leb→le, le_refl}
use Rattle.laws.proofs.All.{length}
use Rattle.answer.specs.declared.Refusal.TheVariants.{Field, ShortOutput, Stream}
use Rattle.answer.specs.Outcomes.{done, refused, unless}
use Rattle.answer.specs.FirstBad.{all_below}
use Rattle.answer.proofs.FirstBad.{all_below→}
use Rattle.answer.proofs.Outcomes.{unless→}
use Rattle.table.specs.declared.Table.{Table}
use Rattle.table.specs.Rows.{Code}
use Rattle.table.specs.Paths.{Blocks, recording}
use Rattle.table.specs.Value.{code_in, ready}
use Rattle.record_check.specs.Parse.{parse}
use Rattle.codec.specs.Answers.{encode_under}
use Rattle.codec.proofs.Answers.{→encoded}
use Rattle.stream_pack.specs.Streams.{limit, stream_size, packed}
use Rattle.stream.specs.Recorded.{streamed, encode_stream, streamed_with}

pub streamed→ : (c : Code) (room : ℕ) (ds xs : List ℕ) → streamed c room ds ≡ done xs
    → (length ds + c.window.lookahead ≤ limit) × Blocks c ds × (packed c.q (recording c ds) ≡ xs)
unfolding streamed
streamed→ c room ds xs e =
    let n = length ds + c.window.lookahead in
    let rest = all_below (2 ^ c.p) ds (packed c.q (recording c ds)) in
    let (l, e') = unless→ Stream (leb n limit) (unless ShortOutput (leb (stream_size c.q n) room) rest) xs e in
    let (_, e'') = unless→ ShortOutput (leb (stream_size c.q n) room) rest xs e' in
    let (b, q) = all_below→ (2 ^ c.p) ds (packed c.q (recording c ds)) xs e'' in
    (leb→le n limit l, b, q)

-- a recorded stream is the words of the recording, packed
pub stream-encodes : (rec : List ℕ) (c : Code) → parse rec ≡ done c → (room : ℕ) (ds xs : List ℕ)
    → encode_stream rec room ds ≡ done xs → (R : List ℕ)
    × (encode_under rec (length ds + c.window.lookahead) ds ≡ done R) × (packed c.q R ≡ xs)
unfolding encode_stream encode_under
stream-encodes rec c read room ds xs e =
    let n = length ds + c.window.lookahead in
    let (_, b, q) = streamed→ c room ds xs (rw read at e) in
    (recording c ds, rw read (→encoded c n ds b (le_refl n)), q)

module _ (t : Table) (room : ℕ) (ds : List ℕ) where
  pub stream-7 : ready t ≡ false → streamed_with t room ds ≡ refused Field
  unfolding streamed_with
  stream-7 e = rw e

  module _ (r : ready t ≡ true) (n : ℕ) (q : n ≡ length ds + t.lookahead) where
    pub stream-15 : limit < n → streamed_with t room ds ≡ refused Stream
    unfolding streamed_with streamed
    stream-15 h = rw (r, ← q, lt-leb n limit h)

    module _ (h : n ≤ limit) where
      pub stream-13 : room < stream_size t.q n → streamed_with t room ds ≡ refused ShortOutput
      unfolding streamed_with streamed
      stream-13 l = rw (r, ← q, le-leb n limit h, lt-leb (stream_size t.q n) room l)

      pub stream-last : stream_size t.q n ≤ room
          → streamed_with t room ds ≡ all_below (2 ^ t.p) ds (packed t.q (recording (code_in t) ds))
      unfolding streamed_with streamed
      stream-last l = rw (r, ← q, le-leb n limit h, le-leb (stream_size t.q n) room l)
