-- What encoding to a stream and decoding from one answer, exactly, with the documents' numbers written out; demand 3 of
-- streams, and recorded streams recognised.
-- In order: streamed-exact, stream-calls; unstreamed-exact, unstream-calls; stream-clear; stream-recognised.
-- Assumes nothing.
use Rattle.std.proofs.Common.{◌≡◌, ◌↔◌, ◌⊎◌, ◌+◌, ◌*◌, ◌-◌, ◌/◌, ◌^◌, ◌≤◌, ◌<◌}
use Rattle.laws.proofs.All.{sym, ap, subst, ◌∙◌, List, ℕ, arith}
use Rattle.laws.proofs.All.{refl, leb, length, take, get_or, mul-le-mul, le_refl, Below}
use Rattle.answer.specs.declared.Refusal.{Refusal}
use Rattle.answer.specs.declared.Refusal.TheVariants.{BadByte, TooFewWords, ShortOutput, Stream}
use Rattle.answer.specs.Refusals.{number_of}
use Rattle.answer.specs.Outcomes.{Outcome, done, refused, unless, onward}
use Rattle.answer.specs.FirstBad.{all_below}
use Rattle.answer.proofs.Due.{Told, told-le, done-past, refused-past, refused-here, never-past, done-exact, never_done}
use Rattle.answer.proofs.Due.{below-exact, bad-exact, never-bad}
use Rattle.bits.specs.Fields.{bits_of, field}
use Rattle.table.specs.Rows.{Code}
use Rattle.table.specs.Paths.{Blocks, recording}
use Rattle.table.proofs.Paths.{length-recording}
use Rattle.record_check.specs.Parse.{parse}
use Rattle.record_check.proofs.Reasons.{record-refused}
use Rattle.codec_steps.specs.Reading.{mark_ahead, decode}
use Rattle.codec.specs.Damage.{StandsClear, Recording}
use Rattle.codec.proofs.Decoded.{length-decode}
use Rattle.codec.proofs.Promises.{facts, demand-3}
use Rattle.stream_pack.specs.Streams.{limit, stream_size, packed, unpacked, good_stream}
use Rattle.stream_pack.proofs.Streams.{length-unpacked, below-unpacked}
use Rattle.stream_pack.proofs.Calls.{told-stream, stream-numbers}
use Rattle.stream.specs.Recorded.{streamed, unstreamed, encode_stream, decode_stream}
use Rattle.stream.proofs.Decoded.{stream-decodes}
use Rattle.stream.proofs.Returns.{stream-returns}

-- ---- encoding
module _ (c : Code) (room : ℕ) (ds : List ℕ) where
  abbrev n : ℕ
  n = length ds + c.window.lookahead

  abbrev size : ℕ
  size = (n * c.q + 7) / 8

  abbrev result : List ℕ
  result = packed c.q (recording c ds)

  abbrev words : Outcome (List ℕ)
  words = all_below (2 ^ c.p) ds result

  abbrev fits : Outcome (List ℕ)
  fits = unless ShortOutput (leb (stream_size c.q n) room) words

  streamed-exact : let o = streamed c room ds in
      ((xs : List ℕ) → (o ≡ done xs)
      ↔ ((n ≤ 1000000) × (size ≤ room) × Below (2 ^ c.p) ds × (result ≡ xs)))
      × ((o ≡ refused Stream) ↔ (1000000 < n))
      × ((o ≡ refused ShortOutput) ↔ ((n ≤ 1000000) × (room < size)))
      × ((k : ℕ) → (o ≡ refused (BadByte k)) ↔ ((n ≤ 1000000) × (size ≤ room) × (k < length ds)
      × Below (2 ^ c.p) (take k ds) × (2 ^ c.p ≤ get_or ds k 0)))
  unfolding streamed
  streamed-exact = (
    λ xs. let k = done-past Stream (leb n limit) fits l xs (done-past ShortOutput (leb size room) words s xs
        (below-exact (2 ^ c.p) ds result xs)) in
        (λ e. let (a, (b, (f, g))) = k.0 e in (a, b, f, g), λ (a, b, f, g). k.1 (a, (b, (f, g)))),
    refused-here Stream (leb n limit) fits l
        (never-past ShortOutput (leb size room) words Stream (λ e. omega arith)
        (never-bad (2 ^ c.p) ds result Stream (λ e. omega arith))),
    refused-past Stream (leb n limit) fits l ShortOutput (λ e. omega arith)
        (refused-here ShortOutput (leb size room) words s
        (never-bad (2 ^ c.p) ds result ShortOutput (λ e. omega arith))),
    λ i. let k = refused-past Stream (leb n limit) fits l (BadByte i) (λ e. omega arith)
        (refused-past ShortOutput (leb size room) words s (BadByte i) (λ e. omega arith)
        (bad-exact (2 ^ c.p) ds result i)) in (
          λ e. let (a, (b, (f, g, h))) = k.0 e in (a, b, f, g, h),
          λ (a, b, f, g, h). k.1 (a, (b, (f, g, h))),
        ),
  )
    where
      l : Told (leb n limit) (n ≤ limit) (limit < n)
      l = told-le n limit

      s : Told (leb size room) (size ≤ room) (room < size)
      s = told-le size room

pub stream-calls : (rec : List ℕ) (room : ℕ) (ds : List ℕ) → let o = encode_stream rec room ds in
    ((c : Code) → parse rec ≡ done c → let n = length ds + c.window.lookahead in let size = (n * c.q + 7) / 8 in
    ((xs : List ℕ) → (o ≡ done xs)
    ↔ ((n ≤ 1000000) × (size ≤ room) × Below (2 ^ c.p) ds × (packed c.q (recording c ds) ≡ xs)))
    × ((o ≡ refused Stream) ↔ (1000000 < n))
    × ((o ≡ refused ShortOutput) ↔ ((n ≤ 1000000) × (room < size)))
    × ((k : ℕ) → (o ≡ refused (BadByte k)) ↔ ((n ≤ 1000000) × (size ≤ room) × (k < length ds)
    × Below (2 ^ c.p) (take k ds) × (2 ^ c.p ≤ get_or ds k 0))))
    × ((r : Refusal) → parse rec ≡ refused r → (o ≡ refused r) × (7 ≤ number_of r) × (number_of r ≤ 10))
unfolding encode_stream
stream-calls rec room ds = (
  λ c p. rw p (streamed-exact c room ds),
  λ r p. let (a, b) = record-refused rec r p in (ap (λ o. onward o (λ c. streamed c room ds)) p, a, b),
)

-- ---- decoding
module _ (c : Code) (count room : ℕ) (xs : List ℕ) where
  abbrev a : ℕ
  a = c.window.lookahead

  abbrev whole : ℕ
  whole = (count * c.q + 7) / 8

  abbrev fill : ℕ
  fill = field (bits_of xs) (count * c.q) (8 * whole - count * c.q)

  abbrev blocks : List ℕ
  blocks = decode c (unpacked c.q count xs)

  abbrev ends : Outcome (List ℕ)
  ends = unless ShortOutput (leb (count - a) room) (done blocks)

  abbrev enough : Outcome (List ℕ)
  enough = unless TooFewWords (leb a count) ends

  unstreamed-exact : let o = unstreamed c count room xs in
      ((out : List ℕ) → (o ≡ done out) ↔ ((count ≤ 1000000) × (length xs ≡ whole) × (fill ≡ 0) × (a ≤ count)
      × (count - a ≤ room) × (blocks ≡ out)))
      × ((o ≡ refused Stream) ↔ ((1000000 < count) ⊎ ((length xs ≡ whole → ⊥) ⊎ (fill ≡ 0 → ⊥))))
      × ((o ≡ refused TooFewWords) ↔ ((count ≤ 1000000) × (length xs ≡ whole) × (fill ≡ 0) × (count < a)))
      × ((o ≡ refused ShortOutput)
      ↔ ((count ≤ 1000000) × (length xs ≡ whole) × (fill ≡ 0) × (a ≤ count) × (room < count - a)))
  unfolding unstreamed
  unstreamed-exact = (
    λ out. let k = done-past Stream (good_stream c.q count xs) enough g out
        (done-past TooFewWords (leb a count) ends (told-le a count) out
        (done-past ShortOutput (leb (count - a) room) (done blocks) (told-le (count - a) room) out
        (done-exact blocks out))) in (
          λ e. let ((x, (y, z)), (u, (v, w))) = k.0 e in (x, y, z, u, v, w),
          λ (x, y, z, u, v, w). k.1 ((x, (y, z)), (u, (v, w))),
        ),
    refused-here Stream (good_stream c.q count xs) enough g
        (never-past TooFewWords (leb a count) ends Stream (λ e. omega arith)
        (never-past ShortOutput (leb (count - a) room) (done blocks) Stream (λ e. omega arith)
        (never_done blocks Stream))),
    let k = refused-past Stream (good_stream c.q count xs) enough g TooFewWords (λ e. omega arith)
        (refused-here TooFewWords (leb a count) ends (told-le a count)
        (never-past ShortOutput (leb (count - a) room) (done blocks) TooFewWords (λ e. omega arith)
        (never_done blocks TooFewWords))) in
        (λ e. let ((x, (y, z)), u) = k.0 e in (x, y, z, u), λ (x, y, z, u). k.1 ((x, (y, z)), u)),
    let k = refused-past Stream (good_stream c.q count xs) enough g ShortOutput (λ e. omega arith)
        (refused-past TooFewWords (leb a count) ends (told-le a count) ShortOutput (λ e. omega arith)
        (refused-here ShortOutput (leb (count - a) room) (done blocks) (told-le (count - a) room)
        (never_done blocks ShortOutput))) in (
          λ e. let ((x, (y, z)), (u, v)) = k.0 e in (x, y, z, u, v),
          λ (x, y, z, u, v). k.1 ((x, (y, z)), (u, v)),
        ),
  )
    where
      g : Told (good_stream c.q count xs) ((count ≤ 1000000) × ((length xs ≡ whole) × (fill ≡ 0)))
          ((1000000 < count) ⊎ ((length xs ≡ whole → ⊥) ⊎ (fill ≡ 0 → ⊥)))
      g = told-stream c.q count xs

pub unstream-calls : (rec : List ℕ) (count room : ℕ) (xs : List ℕ) → let o = decode_stream rec count room xs in
    ((c : Code) → parse rec ≡ done c → let q = c.q in let a = c.window.lookahead in
    let size = (count * q + 7) / 8 in let fill = field (bits_of xs) (count * q) (8 * size - count * q) in
    ((out : List ℕ) → (o ≡ done out) ↔ ((count ≤ 1000000) × (length xs ≡ size) × (fill ≡ 0) × (a ≤ count)
    × (count - a ≤ room) × (decode c (unpacked q count xs) ≡ out)))
    × ((o ≡ refused Stream) ↔ ((1000000 < count) ⊎ ((length xs ≡ size → ⊥) ⊎ (fill ≡ 0 → ⊥))))
    × ((o ≡ refused TooFewWords) ↔ ((count ≤ 1000000) × (length xs ≡ size) × (fill ≡ 0) × (count < a)))
    × ((o ≡ refused ShortOutput)
    ↔ ((count ≤ 1000000) × (length xs ≡ size) × (fill ≡ 0) × (a ≤ count) × (room < count - a))))
    × ((r : Refusal) → parse rec ≡ refused r → (o ≡ refused r) × (7 ≤ number_of r) × (number_of r ≤ 10))
unfolding decode_stream
unstream-calls rec count room xs = (
  λ c p. rw p (unstreamed-exact c count room xs),
  λ r p. let (x, y) = record-refused rec r p in (ap (λ o. onward o (λ c. unstreamed c count room xs)) p, x, y),
)

-- ---- under an accepted record
module _ (rec : List ℕ) (bytes : Below 256 rec) (c : Code) (read : parse rec ≡ done c) where
  -- demand 3: any stream of any number of words, in place of the one that was written
  pub stream-clear : (ds xs : List ℕ) (count room : ℕ) → Blocks c ds → let q = c.q in
      let a = c.window.lookahead in let size = (count * q + 7) / 8 in count ≤ 1000000 → length xs ≡ size
      → field (bits_of xs) (count * q) (8 * size - count * q) ≡ 0 → a ≤ count → count - a ≤ room
      → (out : List ℕ) × (decode_stream rec count room xs ≡ done out)
      × ((i j : ℕ) → i < length ds → StandsClear c (recording c ds) (unpacked q count xs) i j
      → get_or out j mark_ahead ≡ get_or ds i 0)
  stream-clear ds xs count room b few sized filled l h =
      let U = unpacked c.q count xs in
      let n : length U ≡ count = length-unpacked c.q count xs in
      let (out, e, r) = demand-3 rec bytes c read ds U room b (below-unpacked c.q count xs) (omega arith)
      (omega arith) in
      (out, stream-decodes rec c read count room xs ((stream-numbers c.q count xs).1 (few, sized, filled)) ∙ e, r)

  -- a stream is that of a recording exactly when decoding it is done and encoding what it gives rebuilds it
  pub stream-recognised : (count room : ℕ) (xs : List ℕ) → count ≤ room
      → ((count ≤ 1000000) × ((R : List ℕ) × Recording c R × (length R ≡ count) × (packed c.q R ≡ xs)))
      ↔ ((ds : List ℕ) × (decode_stream rec count room xs ≡ done ds) × (encode_stream rec room ds ≡ done xs))
  stream-recognised count room xs h = (there, back)
    where
      there : (count ≤ 1000000) × ((R : List ℕ) × Recording c R × (length R ≡ count) × (packed c.q R ≡ xs))
          → (ds : List ℕ) × (decode_stream rec count room xs ≡ done ds) × (encode_stream rec room ds ≡ done xs)
      there (few, (R, (ds, b, e), n, p)) =
          let m : length ds + c.window.lookahead ≡ count = sym (length-recording c ds) ∙ ap length e ∙ n in
          let (F, _) = facts rec bytes c read in
          let eight : count * c.q ≤ count * 8 = mul-le-mul (le_refl count) F.range.q₂ in
          let fits : (count * c.q + 7) / 8 ≤ room = less (count * c.q) count room eight h in
          let k = (((stream-calls rec room ds).0 c read).0 xs).1 (
            subst (λ x. x ≤ 1000000) (sym m) few,
            subst (λ x. (x * c.q + 7) / 8 ≤ room) (sym m) fits,
            b,
            ap (packed c.q) e ∙ p,
          ) in
          let d = stream-returns rec bytes c read room room ds xs (omega arith) k in
          (ds, subst (λ x. decode_stream rec x room xs ≡ done ds) m d, k)
        where
          less : (x k room : ℕ) → x ≤ k * 8 → k ≤ room → (x + 7) / 8 ≤ room
          less x k room u v = omega arith

      back : (ds : List ℕ) × (decode_stream rec count room xs ≡ done ds) × (encode_stream rec room ds ≡ done xs)
          → (count ≤ 1000000) × ((R : List ℕ) × Recording c R × (length R ≡ count) × (packed c.q R ≡ xs))
      back (ds, d, k) =
          let (few, _, _, l, _, e) = (((unstream-calls rec count room xs).0 c read).0 ds).0 d in
          let (_, _, b, p) = (((stream-calls rec room ds).0 c read).0 xs).0 k in
          let U = unpacked c.q count xs in
          let n : length U ≡ count = length-unpacked c.q count xs in
          let m : length U - c.window.lookahead ≡ length (decode c U) = length-decode c U in
          let o : length (decode c U) ≡ length ds = ap length e in
          let long : length (recording c ds) ≡ count = length-recording c ds ∙ omega arith in
          (few, (recording c ds, (ds, b, refl), long, p))
