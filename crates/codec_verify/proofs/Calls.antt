-- What verifying words and streams answers, exactly, with the documents' numbers written out: when it is done, and when
-- each of its refusals comes.
-- In order: verified-exact, verify-calls; streamed-exact, verify-stream-calls.
-- Assumes nothing.
use Rattle.std.proofs.Common.{◌≡◌, ◌↔◌, ◌⊎◌, ◌+◌, ◌*◌, ◌-◌, ◌/◌, ◌^◌, ◌≤◌, ◌<◌}
use Rattle.laws.proofs.All.{ap, List, ℕ, arith, leb, length, take}
use Rattle.laws.proofs.All.{get_or, Below}
use Rattle.answer.specs.declared.Refusal.{Refusal}
use Rattle.answer.specs.declared.Refusal.TheVariants.{BadByte, TooFewWords, Stream}
use Rattle.answer.specs.Refusals.{number_of}
use Rattle.answer.specs.Outcomes.{Outcome, done, refused, unless, onward}
use Rattle.answer.specs.FirstBad.{all_below}
use Rattle.answer.proofs.Due.{told-le, done-past, refused-past, refused-here, never-past, done-exact, never_done}
use Rattle.answer.proofs.Due.{below-exact, bad-exact, never-bad}
use Rattle.bits.specs.Fields.{bits_of, field}
use Rattle.table.specs.Rows.{Code}
use Rattle.record_check.specs.Parse.{parse}
use Rattle.record_check.proofs.Reasons.{record-refused}
use Rattle.stream_pack.specs.Streams.{unpacked, good_stream}
use Rattle.stream_pack.proofs.Calls.{told-stream}
use Rattle.codec_verify.specs.Fronts.{same_front}
use Rattle.codec_verify.specs.Verify.{rebuilt, verified, verify_under, verified_stream, verify_stream}

-- ---- words
module _ (c : Code) (L : List ℕ) where
  abbrev a : ℕ
  a = c.window.lookahead

  abbrev front : List ℕ
  front = same_front (rebuilt c L) L

  abbrev words : Outcome (List ℕ)
  words = all_below (2 ^ c.q) L front

  verified-exact : let o = verified c L in
      ((F : List ℕ) → (o ≡ done F) ↔ ((a ≤ length L) × Below (2 ^ c.q) L × (front ≡ F)))
      × ((o ≡ refused TooFewWords) ↔ (length L < a))
      × ((k : ℕ) → (o ≡ refused (BadByte k)) ↔ ((a ≤ length L) × (k < length L) × Below (2 ^ c.q) (take k L)
      × (2 ^ c.q ≤ get_or L k 0)))
  unfolding verified
  verified-exact = (
    λ F. let k = done-past TooFewWords (leb a (length L)) words (told-le a (length L)) F
        (below-exact (2 ^ c.q) L front F) in
        (λ e. let (h, (b, f)) = k.0 e in (h, b, f), λ (h, b, f). k.1 (h, (b, f))),
    refused-here TooFewWords (leb a (length L)) words (told-le a (length L))
        (never-bad (2 ^ c.q) L front TooFewWords (λ e. omega arith)),
    λ i. let k = refused-past TooFewWords (leb a (length L)) words (told-le a (length L)) (BadByte i)
        (λ e. omega arith) (bad-exact (2 ^ c.q) L front i) in
        (λ e. let (h, (x, y, z)) = k.0 e in (h, x, y, z), λ (h, x, y, z). k.1 (h, (x, y, z))),
  )

pub verify-calls : (rec L : List ℕ) → let o = verify_under rec L in
    ((c : Code) → parse rec ≡ done c → let a = c.window.lookahead in
    ((F : List ℕ) → (o ≡ done F) ↔ ((a ≤ length L) × Below (2 ^ c.q) L × (same_front (rebuilt c L) L ≡ F)))
    × ((o ≡ refused TooFewWords) ↔ (length L < a))
    × ((k : ℕ) → (o ≡ refused (BadByte k)) ↔ ((a ≤ length L) × (k < length L) × Below (2 ^ c.q) (take k L)
    × (2 ^ c.q ≤ get_or L k 0))))
    × ((r : Refusal) → parse rec ≡ refused r → (o ≡ refused r) × (7 ≤ number_of r) × (number_of r ≤ 10))
unfolding verify_under
verify-calls rec L = (
  λ c p. rw p (verified-exact c L),
  λ r p. let (a, b) = record-refused rec r p in (ap (λ o. onward o (λ c. verified c L)) p, a, b),
)

-- ---- streams
module _ (c : Code) (count : ℕ) (xs : List ℕ) where
  abbrev ahead : ℕ
  ahead = c.window.lookahead

  abbrev size : ℕ
  size = (count * c.q + 7) / 8

  abbrev fill : ℕ
  fill = field (bits_of xs) (count * c.q) (8 * size - count * c.q)

  abbrev result : List ℕ
  result = let U = unpacked c.q count xs in same_front (rebuilt c U) U

  abbrev enough : Outcome (List ℕ)
  enough = unless TooFewWords (leb ahead count) (done result)

  streamed-exact : let o = verified_stream c count xs in
      ((F : List ℕ) → (o ≡ done F)
      ↔ ((count ≤ 1000000) × (length xs ≡ size) × (fill ≡ 0) × (ahead ≤ count) × (result ≡ F)))
      × ((o ≡ refused Stream) ↔ ((1000000 < count) ⊎ ((length xs ≡ size → ⊥) ⊎ (fill ≡ 0 → ⊥))))
      × ((o ≡ refused TooFewWords) ↔ ((count ≤ 1000000) × (length xs ≡ size) × (fill ≡ 0) × (count < ahead)))
  unfolding verified_stream
  streamed-exact =
      let g = told-stream c.q count xs in (
        λ F. let k = done-past Stream (good_stream c.q count xs) enough g F
            (done-past TooFewWords (leb ahead count) (done result) (told-le ahead count) F (done-exact result F)) in (
              λ e. let ((x, (y, z)), (u, v)) = k.0 e in (x, y, z, u, v),
              λ (x, y, z, u, v). k.1 ((x, (y, z)), (u, v)),
            ),
        refused-here Stream (good_stream c.q count xs) enough g
            (never-past TooFewWords (leb ahead count) (done result) Stream (λ e. omega arith)
            (never_done result Stream)),
        let k = refused-past Stream (good_stream c.q count xs) enough g TooFewWords (λ e. omega arith)
            (refused-here TooFewWords (leb ahead count) (done result) (told-le ahead count)
            (never_done result TooFewWords)) in
            (λ e. let ((x, (y, z)), u) = k.0 e in (x, y, z, u), λ (x, y, z, u). k.1 ((x, (y, z)), u)),
      )

pub verify-stream-calls : (rec : List ℕ) (count : ℕ) (xs : List ℕ) → let o = verify_stream rec count xs in
    ((c : Code) → parse rec ≡ done c → let size = (count * c.q + 7) / 8 in
    let fill = field (bits_of xs) (count * c.q) (8 * size - count * c.q) in let U = unpacked c.q count xs in
    ((F : List ℕ) → (o ≡ done F) ↔ ((count ≤ 1000000) × (length xs ≡ size) × (fill ≡ 0)
    × (c.window.lookahead ≤ count) × (same_front (rebuilt c U) U ≡ F)))
    × ((o ≡ refused Stream) ↔ ((1000000 < count) ⊎ ((length xs ≡ size → ⊥) ⊎ (fill ≡ 0 → ⊥))))
    × ((o ≡ refused TooFewWords)
    ↔ ((count ≤ 1000000) × (length xs ≡ size) × (fill ≡ 0) × (count < c.window.lookahead))))
    × ((r : Refusal) → parse rec ≡ refused r → (o ≡ refused r) × (7 ≤ number_of r) × (number_of r ≤ 10))
unfolding verify_stream
verify-stream-calls rec count xs = (
  λ c p. rw p (streamed-exact c count xs),
  λ r p. let (a, b) = record-refused rec r p in (ap (λ o. onward o (λ c. verified_stream c count xs)) p, a, b),
)
