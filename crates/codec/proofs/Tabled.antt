-- Encoding and decoding under a table by value, check by check.
-- In order: encode-7, encode-13, encode-last; decode-7, decode-ready; under a code decode-12, decode-13, decode-last,
-- decode-within.
-- Assumes nothing.
use Rattle.std.proofs.Common.{◌≡◌, ◌+◌, ◌-◌, ◌^◌, ◌≤◌, ◌<◌}
use Rattle.laws.proofs.All.{true, false, List, ℕ, lt-leb, le-leb, leb, leb→le}
use Rattle.laws.proofs.All.{length}
use Rattle.answer.specs.declared.Refusal.TheVariants.{Field, TooFewWords, ShortOutput}
use Rattle.answer.specs.Outcomes.{Outcome, done, refused, unless}
use Rattle.answer.proofs.Outcomes.{unless→}
use Rattle.answer.specs.FirstBad.{all_below}
use Rattle.table.specs.declared.Table.{Table}
use Rattle.table.specs.Rows.{Code}
use Rattle.table.specs.Paths.{recording}
use Rattle.table.specs.Value.{code_in, ready}
use Rattle.codec_steps.specs.Reading.{decode}
use Rattle.codec.specs.Answers.{encoded, decoded}
use Rattle.codec.specs.With.{encoded_with, decoded_with}

-- ---- encoding
module _ (t : Table) (room : ℕ) (ds : List ℕ) where
  pub encode-7 : ready t ≡ false → encoded_with t room ds ≡ refused Field
  unfolding encoded_with
  encode-7 e = rw e

  module _ (r : ready t ≡ true) where
    pub encode-13 : room < length ds + t.lookahead → encoded_with t room ds ≡ refused ShortOutput
    unfolding encoded_with encoded
    encode-13 h = rw (r, lt-leb (length ds + t.lookahead) room h)

    module _ (h : length ds + t.lookahead ≤ room) where
      pub encode-last : encoded_with t room ds ≡ all_below (2 ^ t.p) ds (recording (code_in t) ds)
      unfolding encoded_with encoded
      encode-last = rw (r, le-leb (length ds + t.lookahead) room h)

-- ---- decoding
module _ (t : Table) (room : ℕ) (ws : List ℕ) where
  pub decode-7 : ready t ≡ false → decoded_with t room ws ≡ refused Field
  unfolding decoded_with
  decode-7 e = rw e

  pub decode-ready : ready t ≡ true → decoded_with t room ws ≡ decoded (code_in t) room ws
  unfolding decoded_with
  decode-ready e = rw e

module _ (c : Code) (room : ℕ) (ws : List ℕ) where
  abbrev last-check : Outcome (List ℕ)
  last-check = all_below (2 ^ c.q) ws (decode c ws)

  pub decode-12 : length ws < c.window.lookahead → decoded c room ws ≡ refused TooFewWords
  unfolding decoded
  decode-12 h = rw (lt-leb c.window.lookahead (length ws) h)

  module _ (h : c.window.lookahead ≤ length ws) where
    pub decode-13 : room < length ws - c.window.lookahead → decoded c room ws ≡ refused ShortOutput
    unfolding decoded
    decode-13 l = rw (le-leb c.window.lookahead (length ws) h, lt-leb (length ws - c.window.lookahead) room l)

    module _ (l : length ws - c.window.lookahead ≤ room) where
      pub decode-last : decoded c room ws ≡ last-check
      unfolding decoded
      decode-last = rw (le-leb c.window.lookahead (length ws) h, le-leb (length ws - c.window.lookahead) room l)

  -- what is decoded has words enough and room
  pub decode-within : (out : List ℕ) → decoded c room ws ≡ done out
      → (c.window.lookahead ≤ length ws) × (length ws - c.window.lookahead ≤ room)
  unfolding decoded
  decode-within out e =
      let (h, f) = unless→ TooFewWords (leb c.window.lookahead (length ws))
      (unless ShortOutput (leb (length ws - c.window.lookahead) room) last-check) out e in
      let (l, _) = unless→ ShortOutput (leb (length ws - c.window.lookahead) room) last-check out f in
      (leb→le c.window.lookahead (length ws) h, leb→le (length ws - c.window.lookahead) room l)
