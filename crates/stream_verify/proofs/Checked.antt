-- Verifying a stream under a table by value, check by check, and under a record that was loaded.
-- In order: stream-7 to stream-done; streamed, what the count asks for; stream-read.
-- Assumes nothing.
use Rattle.std.proofs.Common.{◌≡◌, ◌*◌, ◌≤◌, ◌<◌, Ok}
use Rattle.laws.proofs.All.{sym, ap, ◌∙◌, true, false, List, ℕ, lt-leb, le-leb}
use Rattle.laws.proofs.All.{T, arith, length}
use Rattle.answer.specs.declared.Refusal.TheVariants.{Field, TooFewWords, Stream}
use Rattle.answer.specs.Outcomes.{Outcome, done, refused, onward, answer_of}
use Rattle.table.specs.declared.Table.{Table}
use Rattle.table.specs.Rows.{Code}
use Rattle.table.specs.Value.{code_in, ready}
use Rattle.table.specs.Edges.{lent}
use Rattle.table.proofs.ReadyTables.{ready-formed}
use Rattle.codec.proofs.Loaded.{under-good}
use Rattle.stream_pack.specs.Streams.{limit, unpacked, good_stream}
use Rattle.stream_pack.proofs.Streams.{good-stream→}
use Rattle.codec_verify.specs.declared.Sizes.{Sizes}
use Rattle.codec_verify.specs.Fronts.{same_front}
use Rattle.codec_verify.specs.Verify.{rebuilt, verified_stream}
use Rattle.codec_verify.specs.Counting.{followed, agreed, sizes_of, come_back}
use Rattle.stream_verify.specs.With.{verified_stream_with}

module _ (t : Table) (count : ℕ) (xs : List ℕ) where
  abbrev U : List ℕ
  U = unpacked t.q count xs

  pub stream-7 : ready t ≡ false → verified_stream_with t count xs ≡ refused Field
  unfolding verified_stream_with
  stream-7 e = rw e

  module _ (r : ready t ≡ true) where
    pub stream-15 : good_stream t.q count xs ≡ false → verified_stream_with t count xs ≡ refused Stream
    unfolding verified_stream_with verified_stream
    stream-15 e = rw (r, e)

    module _ (g : good_stream t.q count xs ≡ true) where
      pub stream-12 : count < t.lookahead → verified_stream_with t count xs ≡ refused TooFewWords
      unfolding verified_stream_with verified_stream
      stream-12 h = rw (r, g, lt-leb t.lookahead count h)

      last : t.lookahead ≤ count → verified_stream_with t count xs ≡ done (same_front (rebuilt (code_in t) U) U)
      unfolding verified_stream_with verified_stream
      last h = rw (r, g, le-leb t.lookahead count h)

      pub stream-done : t.lookahead ≤ count → (z : Sizes) (v : ℕ) → z ≡ sizes_of t
          → v ≡ come_back (lent t) z (unpacked z.q count xs)
          → Ok v ≡ answer_of (verified_stream_with t count xs)
      unfolding followed agreed
      stream-done h z v f q = ap Ok (rw f at q) ∙ sym (ap answer_of (last h))

-- a good stream can be counted in, under a table that is ready
pub streamed : (t : Table) → T (ready t) → (count : ℕ) (xs : List ℕ) → T (good_stream t.q count xs)
    → t.lookahead ≤ count → (k : Sizes) → k ≡ sizes_of t
    → (k.q ≤ 8) × (count ≤ limit) × (count * k.q ≤ 8 * length xs) × (k.memory ≤ 15) × (k.lookahead ≤ 15)
    × (k.lookahead ≤ count)
streamed t y count xs g h k e =
    let f = (ready-formed t y).range in
    let s = good-stream→ t.q count xs g in
    let m : t.memory ≤ 15 = omega (arith, f.m) in
    let a : t.lookahead ≤ 15 = omega (arith, f.a) in
    rw e (f.q₂, s.few, s.holds, m, a, h)

-- under a record that was loaded
pub stream-read : (o : Outcome Code) (t : Table) → done (code_in t) ≡ o → T (ready t) → (count : ℕ) (xs : List ℕ)
    → verified_stream_with t count xs ≡ onward o (λ c. verified_stream c count xs)
unfolding verified_stream_with
stream-read o t e k count xs = under-good o t e k (λ c. verified_stream c count xs)
