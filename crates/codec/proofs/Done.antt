-- When calls under a record are done, that a loaded table answers as its record does, and that for an accepted record
-- the calls that do not look at 9 and 10 answer as those that do.
-- In order: encodes, decodes, decoded-blocks; loaded; fields-too, checked.
-- Assumes nothing.
use Rattle.std.proofs.Common.{◌≡◌, ◌+◌, ◌-◌, ◌^◌, ◌≤◌, ◌<◌}
use Rattle.laws.proofs.All.{sym, ap, ◌∙◌, List, [], ℕ, arith, T, length, get_or, Below}
use Rattle.laws.proofs.All.{map-range-at}
use Rattle.answer.specs.declared.Refusal.TheVariants.{Field, Disobeys, WindowFails}
use Rattle.answer.specs.Outcomes.{done, unless}
use Rattle.answer.proofs.Outcomes.{unless-true, unless→, onward→}
use Rattle.table.specs.declared.Table.{Table}
use Rattle.table.specs.Rows.{Code}
use Rattle.table.specs.Paths.{Blocks, recording}
use Rattle.table.specs.Value.{code_in, ready}
use Rattle.table.proofs.Paths.{length-recording}
use Rattle.window.specs.Works.{works}
use Rattle.record_obeys.specs.Obeys.{obeys}
use Rattle.record.specs.Checks.{fields_checked}
use Rattle.record_check.specs.Parse.{judged, parse, checked_only}
use Rattle.record_check.proofs.Parse.{parse-formed}
use Rattle.codec_steps.specs.Reading.{block, decode}
use Rattle.codec.specs.Answers.{encoded, decoded, encode_under, decode_under, encode_checked, decode_checked}
use Rattle.codec.specs.With.{encoded_with, decoded_with}
use Rattle.codec.proofs.Answers.{→encoded, →decoded, decoded→}
use Rattle.codec.proofs.Decoded.{length-decode}

module _ (xs : List ℕ) where
  -- good blocks and room give the recording: "N blocks give N + a words"
  pub encodes : (c : Code) → parse xs ≡ done c → (room : ℕ) (ds : List ℕ) → Blocks c ds
      → length ds + c.window.lookahead ≤ room
      → (encode_under xs room ds ≡ done (recording c ds))
      × (length (recording c ds) ≡ length ds + c.window.lookahead)
  unfolding encode_under
  encodes c p room ds b h = (rw p (→encoded c room ds b h), length-recording c ds)

  -- a words or more, all good, and room give the blocks: "From W words come W − a blocks"
  pub decodes : (c : Code) → parse xs ≡ done c → (room : ℕ) (ws : List ℕ) → Below (2 ^ c.q) ws
      → c.window.lookahead ≤ length ws → length ws - c.window.lookahead ≤ room
      → (decode_under xs room ws ≡ done (decode c ws))
      × (length (decode c ws) ≡ length ws - c.window.lookahead)
  unfolding decode_under
  decodes c p room ws b l h = (rw p (→decoded c room ws l h b), sym (length-decode c ws))

  -- each block of a decoding is read from its window, which lies in the words
  pub decoded-blocks : (c : Code) → parse xs ≡ done c → (room : ℕ) (ws out : List ℕ)
      → decode_under xs room ws ≡ done out → (j v : ℕ) → j < length out
      → (j + c.window.lookahead < length ws) × (get_or out j v ≡ block c ws j)
  unfolding decode_under
  decoded-blocks c p room ws out e j v h =
      let q : decode c ws ≡ out = decoded→ c room ws out (rw p at e) in
      let n = length ws - c.window.lookahead in
      let l : n ≡ length out = length-decode c ws ∙ ap length q in
      let k : j < n = omega arith in
      (omega arith, ap (λ o. get_or o j v) (sym q) ∙ map-range-at (block c ws) n j v k)

  -- a table by value whose code the record holds answers as the record does
  pub loaded : (t : Table) → parse xs ≡ done (code_in t) → (room : ℕ) (ys : List ℕ)
      → (encoded_with t room ys ≡ encode_under xs room ys) × (decoded_with t room ys ≡ decode_under xs room ys)
  unfolding ready encoded_with decoded_with encode_under decode_under
  loaded t p room ys =
      let k : T (ready t) = parse-formed xs (code_in t) p in (
        rw p (unless-true Field (ready t) (encoded (code_in t) room ys) k),
        rw p (unless-true Field (ready t) (decoded (code_in t) room ys) k),
      )

  -- the code of an accepted record is the one that its fields name
  fields-too : (c : Code) → parse xs ≡ done c → fields_checked xs ≡ parse xs
  unfolding parse
  fields-too c p =
      let (d, e, j) = onward→ (fields_checked xs) judged c p in
      let (_, w) = unless→ Disobeys (obeys d) (unless WindowFails (works d.table d.window) (done d)) c j in
      let (_, f) = unless→ WindowFails (works d.table d.window) (done d) c w in
      e ∙ f ∙ sym p

  -- for an accepted record the calls that do not look at 9 and 10 answer as those that do
  pub checked : checked_only xs ≡ done [] → (room : ℕ) (ys : List ℕ)
      → (encode_checked xs room ys ≡ encode_under xs room ys) × (decode_checked xs room ys ≡ decode_under xs room ys)
  unfolding checked_only encode_checked decode_checked encode_under decode_under
  checked e room ys =
      let (c, p, _) = onward→ (parse xs) (λ c. done []) [] e in
      let f = fields-too c p in
      (rw f, rw f)
