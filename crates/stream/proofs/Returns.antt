-- Decoding a recorded stream returns its data.
-- In order: stream-returns.
-- Assumes nothing.
use Rattle.std.proofs.Common.{◌≡◌, ◌+◌, ◌≤◌}
use Rattle.laws.proofs.All.{sym, ap, subst, ◌∙◌, List, ℕ, length, le_refl, T, Below}
use Rattle.answer.specs.Outcomes.{done}
use Rattle.table.specs.Rows.{Code}
use Rattle.table.specs.Paths.{recording}
use Rattle.table.proofs.Paths.{length-recording}
use Rattle.record_check.specs.Parse.{parse}
use Rattle.codec.specs.Answers.{decoded}
use Rattle.codec.proofs.Answers.{→encoded, words-below, returns}
use Rattle.codec.proofs.Promises.{facts}
use Rattle.stream_pack.specs.Streams.{unpacked, good_stream}
use Rattle.stream_pack.proofs.Streams.{unpacked-packed}
use Rattle.stream.specs.Recorded.{streamed, encode_stream, decode_stream}
use Rattle.stream.proofs.Written.{streamed→}
use Rattle.stream.proofs.Decoded.{unstreamed-decoded}

pub stream-returns : (rec : List ℕ) → Below 256 rec → (c : Code) → parse rec ≡ done c → (room room' : ℕ)
    → (ds xs : List ℕ) → length ds ≤ room' → encode_stream rec room ds ≡ done xs
    → decode_stream rec (length ds + c.window.lookahead) room' xs ≡ done ds
unfolding encode_stream decode_stream
stream-returns rec bytes c p room room' ds xs h e =
    let (f, w) = facts rec bytes c p in
    let s : streamed c room ds ≡ done xs = rw p at e in
    let (l, b, q) = streamed→ c room ds xs s in
    let n = length ds + c.window.lookahead in
    let R = recording c ds in
    let long : length R ≡ n = length-recording c ds in
    let (u, g) = unpacked-packed c.q R (words-below c f w ds b) (rw long l) in
    let good : T (good_stream c.q n xs) = subst (λ x. T (good_stream c.q n x)) q (rw long at g) in
    let words : unpacked c.q n xs ≡ R = ap (unpacked c.q n) (sym q) ∙ (rw long at u) in
    rw p (unstreamed-decoded c n room' xs good ∙ ap (decoded c room') words
    ∙ returns c f w n room' ds R h (→encoded c n ds b (le_refl n)))
