-- Decoding from a stream under a table by value, check by check.
-- In order: unstream-7 to unstream-done; length-unstreamed, unstreamed-in, with the number of data that the code has
-- computed.
-- Assumes nothing.
use Rattle.std.proofs.Common.{◌≡◌, ◌++◌, ◌-◌, ◌^◌, ◌≤◌, ◌<◌}
use Rattle.laws.proofs.All.{sym, ap, ◌∙◌, true, false, List, map, ℕ, lt-leb, le-leb}
use Rattle.laws.proofs.All.{length, range}
use Rattle.answer.specs.declared.Refusal.TheVariants.{Field, TooFewWords, ShortOutput, Stream}
use Rattle.answer.specs.Outcomes.{done, refused}
use Rattle.table.specs.declared.Table.{Table}
use Rattle.table.specs.Value.{code_in, ready}
use Rattle.table.specs.Edges.{arrays, rows_of}
use Rattle.codec_steps.specs.Reading.{block, decode}
use Rattle.codec_steps.specs.BlockParts.{under}
use Rattle.codec.proofs.Decoded.{length-decode, decoded-in}
use Rattle.stream_pack.specs.Streams.{unpacked, good_stream}
use Rattle.stream_pack.proofs.Streams.{length-unpacked}
use Rattle.stream.specs.Recorded.{unstreamed, unstreamed_with}

module _ (t : Table) (count room : ℕ) (xs : List ℕ) where
  pub unstream-7 : ready t ≡ false → unstreamed_with t count room xs ≡ refused Field
  unfolding unstreamed_with
  unstream-7 e = rw e

  module _ (r : ready t ≡ true) where
    pub unstream-15 : good_stream t.q count xs ≡ false → unstreamed_with t count room xs ≡ refused Stream
    unfolding unstreamed_with unstreamed
    unstream-15 e = rw (r, e)

    module _ (g : good_stream t.q count xs ≡ true) where
      pub unstream-12 : count < t.lookahead → unstreamed_with t count room xs ≡ refused TooFewWords
      unfolding unstreamed_with unstreamed
      unstream-12 h = rw (r, g, lt-leb t.lookahead count h)

      module _ (h : t.lookahead ≤ count) where
        pub unstream-13 : room < count - t.lookahead → unstreamed_with t count room xs ≡ refused ShortOutput
        unfolding unstreamed_with unstreamed
        unstream-13 l = rw (r, g, le-leb t.lookahead count h, lt-leb (count - t.lookahead) room l)

        pub unstream-done : count - t.lookahead ≤ room
            → unstreamed_with t count room xs ≡ done (decode (code_in t) (unpacked t.q count xs))
        unfolding unstreamed_with unstreamed
        unstream-done l = rw (r, g, le-leb t.lookahead count h, le-leb (count - t.lookahead) room l)

-- ---- the blocks
module _ (t : Table) (count : ℕ) (xs : List ℕ) where
  pub length-unstreamed : count - t.lookahead ≡ length (decode (code_in t) (unpacked t.q count xs))
  length-unstreamed =
      ap (λ n. n - t.lookahead) (sym (length-unpacked t.q count xs))
      ∙ length-decode (code_in t) (unpacked t.q count xs)

  pub unstreamed-in : (n : ℕ) (out : List ℕ) → n ≡ 2 ^ t.p
      → map (block (under (rows_of (arrays t.states n t.word t.next)) t.memory t.lookahead)
      (unpacked t.q count xs)) (range (count - t.lookahead)) ++ out
      ≡ decode (code_in t) (unpacked t.q count xs) ++ out
  unstreamed-in n out e =
      let U = unpacked t.q count xs in
      let f = block (under (rows_of (arrays t.states n t.word t.next)) t.memory t.lookahead) U in
      ap (λ k. map f (range (k - t.lookahead)) ++ out) (sym (length-unpacked t.q count xs))
      ∙ decoded-in t n U out e
