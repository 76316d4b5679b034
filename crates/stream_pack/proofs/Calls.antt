-- What packing and unpacking answer, exactly, with the documents' numbers written out: when each is done, and when each
-- of its refusals comes.
-- In order: told-width, told-stream, stream-numbers, the checks of 1 and 15; pack-calls; unpack-calls; pack-returns,
-- unpack-returns.
-- Assumes nothing.
use Rattle.std.proofs.Common.{◌≡◌, ◌↔◌, ◌⊎◌, ◌&&◌, ◌+◌, ◌*◌, ◌-◌, ◌/◌, ◌^◌, ◌≤◌, ◌<◌}
use Rattle.laws.proofs.All.{sym, ap, subst, ◌∙◌, List, ℕ}
use Rattle.laws.proofs.All.{arith, T, leb, eqb, length, take, get_or, Below}
use Rattle.answer.specs.declared.Refusal.TheVariants.{Parameters, BadByte, ShortOutput, Stream}
use Rattle.answer.specs.Outcomes.{Outcome, done, refused, unless}
use Rattle.answer.specs.FirstBad.{all_below}
use Rattle.answer.proofs.Due.{Told, told-le, told-eq, told_and, done-past, refused-past, refused-here, never-past}
use Rattle.answer.proofs.Due.{done-exact, never_done, below-exact, bad-exact, never-bad}
use Rattle.bits.specs.Fields.{bits_of, field}
use Rattle.stream_pack.specs.Streams.{limit, stream_size, stream_fill, packed, unpacked, good_stream, good_width}
use Rattle.stream_pack.specs.Streams.{pack_into, unpack_into}
use Rattle.stream_pack.proofs.Streams.{length-unpacked, below-unpacked, unpacked-packed, packed-unpacked}

-- ---- the checks of 1 and 15
told-width : (q : ℕ) → Told (good_width q) ((1 ≤ q) × (q ≤ 8)) ((q < 1) ⊎ (8 < q))
told-width q = told_and (leb 1 q) (leb q 8) (told-le 1 q) (told-le q 8)

-- "a word count over the limit, a byte length other than count × q / 8 rounded up, or a fill that is not 0"
pub told-stream : (q count : ℕ) (xs : List ℕ) → let size = (count * q + 7) / 8 in
    let fill = field (bits_of xs) (count * q) (8 * size - count * q) in Told (good_stream q count xs)
    ((count ≤ 1000000) × ((length xs ≡ size) × (fill ≡ 0)))
    ((1000000 < count) ⊎ ((length xs ≡ size → ⊥) ⊎ (fill ≡ 0 → ⊥)))
unfolding good_stream
told-stream q count xs =
    let fill = field (bits_of xs) (count * q) (stream_fill q count) in
    told_and (leb count limit) (eqb (length xs) (stream_size q count) && eqb fill 0) (told-le count limit)
    (told_and (eqb (length xs) (stream_size q count)) (eqb fill 0)
    (told-eq (length xs) (stream_size q count)) (told-eq fill 0))

pub stream-numbers : (q count : ℕ) (xs : List ℕ) → let size = (count * q + 7) / 8 in
    T (good_stream q count xs)
    ↔ ((count ≤ 1000000) × (length xs ≡ size) × (field (bits_of xs) (count * q) (8 * size - count * q) ≡ 0))
stream-numbers q count xs =
    let k = (told-stream q count xs).passes in
    (λ t. let (a, (b, d)) = k.0 t in (a, b, d), λ (a, b, d). k.1 (a, (b, d)))

-- ---- packing
module _ (q room : ℕ) (ws : List ℕ) where
  abbrev n : ℕ
  n = length ws

  abbrev words : Outcome (List ℕ)
  words = all_below (2 ^ q) ws (packed q ws)

  abbrev fits : Outcome (List ℕ)
  fits = unless ShortOutput (leb (stream_size q n) room) words

  abbrev few : Outcome (List ℕ)
  few = unless Stream (leb n limit) fits

  pub pack-calls : let o = pack_into q room ws in
      ((xs : List ℕ) → (o ≡ done xs) ↔ ((1 ≤ q) × (q ≤ 8) × (n ≤ 1000000) × ((n * q + 7) / 8 ≤ room)
      × Below (2 ^ q) ws × (packed q ws ≡ xs)))
      × ((o ≡ refused Parameters) ↔ ((q < 1) ⊎ (8 < q)))
      × ((o ≡ refused Stream) ↔ ((1 ≤ q) × (q ≤ 8) × (1000000 < n)))
      × ((o ≡ refused ShortOutput) ↔ ((1 ≤ q) × (q ≤ 8) × (n ≤ 1000000) × (room < (n * q + 7) / 8)))
      × ((k : ℕ) → (o ≡ refused (BadByte k)) ↔ ((1 ≤ q) × (q ≤ 8) × (n ≤ 1000000) × ((n * q + 7) / 8 ≤ room)
      × (k < n) × Below (2 ^ q) (take k ws) × (2 ^ q ≤ get_or ws k 0)))
  unfolding pack_into
  pack-calls = (
    λ xs. let k = done-past Parameters (good_width q) few w xs (done-past Stream (leb n limit) fits l xs
        (done-past ShortOutput (leb (stream_size q n) room) words s xs (below-exact (2 ^ q) ws (packed q ws) xs))) in (
          λ e. let ((a, b), (c, (d, (f, g)))) = k.0 e in (a, b, c, d, f, g),
          λ (a, b, c, d, f, g). k.1 ((a, b), (c, (d, (f, g)))),
        ),
    refused-here Parameters (good_width q) few w
        (never-past Stream (leb n limit) fits Parameters (λ e. omega arith)
        (never-past ShortOutput (leb (stream_size q n) room) words Parameters (λ e. omega arith)
        (never-bad (2 ^ q) ws (packed q ws) Parameters (λ e. omega arith)))),
    let k = refused-past Parameters (good_width q) few w Stream (λ e. omega arith)
        (refused-here Stream (leb n limit) fits l
        (never-past ShortOutput (leb (stream_size q n) room) words Stream (λ e. omega arith)
        (never-bad (2 ^ q) ws (packed q ws) Stream (λ e. omega arith)))) in
        (λ e. let ((a, b), c) = k.0 e in (a, b, c), λ (a, b, c). k.1 ((a, b), c)),
    let k = refused-past Parameters (good_width q) few w ShortOutput (λ e. omega arith)
        (refused-past Stream (leb n limit) fits l ShortOutput (λ e. omega arith)
        (refused-here ShortOutput (leb (stream_size q n) room) words s
        (never-bad (2 ^ q) ws (packed q ws) ShortOutput (λ e. omega arith)))) in
        (λ e. let ((a, b), (c, d)) = k.0 e in (a, b, c, d), λ (a, b, c, d). k.1 ((a, b), (c, d))),
    λ i. let k = refused-past Parameters (good_width q) few w (BadByte i) (λ e. omega arith)
        (refused-past Stream (leb n limit) fits l (BadByte i) (λ e. omega arith)
        (refused-past ShortOutput (leb (stream_size q n) room) words s (BadByte i) (λ e. omega arith)
        (bad-exact (2 ^ q) ws (packed q ws) i))) in (
          λ e. let ((a, b), (c, (d, (f, g, h)))) = k.0 e in (a, b, c, d, f, g, h),
          λ (a, b, c, d, f, g, h). k.1 ((a, b), (c, (d, (f, g, h)))),
        ),
  )
    where
      w : Told (good_width q) ((1 ≤ q) × (q ≤ 8)) ((q < 1) ⊎ (8 < q))
      w = told-width q

      l : Told (leb n limit) (n ≤ limit) (limit < n)
      l = told-le n limit

      s : Told (leb (stream_size q n) room) (stream_size q n ≤ room) (room < stream_size q n)
      s = told-le (stream_size q n) room

-- ---- unpacking
module _ (q count room : ℕ) (xs : List ℕ) where
  abbrev size : ℕ
  size = (count * q + 7) / 8

  abbrev fill : ℕ
  fill = field (bits_of xs) (count * q) (8 * size - count * q)

  abbrev ends : Outcome (List ℕ)
  ends = unless ShortOutput (leb count room) (done (unpacked q count xs))

  abbrev good : Outcome (List ℕ)
  good = unless Stream (good_stream q count xs) ends

  pub unpack-calls : let o = unpack_into q count room xs in
      ((ws : List ℕ) → (o ≡ done ws) ↔ ((1 ≤ q) × (q ≤ 8) × (count ≤ 1000000) × (length xs ≡ size) × (fill ≡ 0)
      × (count ≤ room) × (unpacked q count xs ≡ ws)))
      × ((o ≡ refused Parameters) ↔ ((q < 1) ⊎ (8 < q)))
      × ((o ≡ refused Stream)
      ↔ ((1 ≤ q) × (q ≤ 8) × ((1000000 < count) ⊎ ((length xs ≡ size → ⊥) ⊎ (fill ≡ 0 → ⊥)))))
      × ((o ≡ refused ShortOutput)
      ↔ ((1 ≤ q) × (q ≤ 8) × (count ≤ 1000000) × (length xs ≡ size) × (fill ≡ 0) × (room < count)))
  unfolding unpack_into
  unpack-calls = (
    λ ws. let k = done-past Parameters (good_width q) good w ws (done-past Stream (good_stream q count xs) ends g ws
        (done-past ShortOutput (leb count room) (done (unpacked q count xs)) r ws
        (done-exact (unpacked q count xs) ws))) in (
          λ e. let ((a, b), ((c, (d, f)), (h, i))) = k.0 e in (a, b, c, d, f, h, i),
          λ (a, b, c, d, f, h, i). k.1 ((a, b), ((c, (d, f)), (h, i))),
        ),
    refused-here Parameters (good_width q) good w
        (never-past Stream (good_stream q count xs) ends Parameters (λ e. omega arith)
        (never-past ShortOutput (leb count room) (done (unpacked q count xs)) Parameters (λ e. omega arith)
        (never_done (unpacked q count xs) Parameters))),
    let k = refused-past Parameters (good_width q) good w Stream (λ e. omega arith)
        (refused-here Stream (good_stream q count xs) ends g
        (never-past ShortOutput (leb count room) (done (unpacked q count xs)) Stream (λ e. omega arith)
        (never_done (unpacked q count xs) Stream))) in
        (λ e. let ((a, b), c) = k.0 e in (a, b, c), λ (a, b, c). k.1 ((a, b), c)),
    let k = refused-past Parameters (good_width q) good w ShortOutput (λ e. omega arith)
        (refused-past Stream (good_stream q count xs) ends g ShortOutput (λ e. omega arith)
        (refused-here ShortOutput (leb count room) (done (unpacked q count xs)) r
        (never_done (unpacked q count xs) ShortOutput))) in (
          λ e. let ((a, b), ((c, (d, f)), h)) = k.0 e in (a, b, c, d, f, h),
          λ (a, b, c, d, f, h). k.1 ((a, b), ((c, (d, f)), h)),
        ),
  )
    where
      w : Told (good_width q) ((1 ≤ q) × (q ≤ 8)) ((q < 1) ⊎ (8 < q))
      w = told-width q

      g : Told (good_stream q count xs) ((count ≤ 1000000) × ((length xs ≡ size) × (fill ≡ 0)))
          ((1000000 < count) ⊎ ((length xs ≡ size → ⊥) ⊎ (fill ≡ 0 → ⊥)))
      g = told-stream q count xs

      r : Told (leb count room) (count ≤ room) (room < count)
      r = told-le count room

-- ---- each gives back what the other wrote
pub pack-returns : (q room room' : ℕ) (ws xs : List ℕ) → pack_into q room ws ≡ done xs → length ws ≤ room'
    → unpack_into q (length ws) room' xs ≡ done ws
pack-returns q room room' ws xs e h =
    let (a, b, c, d, f, g) = ((pack-calls q room ws).0 xs).0 e in
    let (u, t) = unpacked-packed q ws f c in
    let (c', s, z) = (stream-numbers q (length ws) xs).0 (subst (λ l. T (good_stream q (length ws) l)) g t) in
    ((unpack-calls q (length ws) room' xs).0 ws).1 (a, b, c', s, z, h, ap (unpacked q (length ws)) (sym g) ∙ u)

pub unpack-returns : (q count room room' : ℕ) (xs ws : List ℕ) → Below 256 xs → unpack_into q count room xs ≡ done ws
    → length xs ≤ room' → pack_into q room' ws ≡ done xs
unpack-returns q count room room' xs ws bytes e h =
    let (a, b, c, s, z, _, g) = ((unpack-calls q count room xs).0 ws).0 e in
    let n : length ws ≡ count = ap length (sym g) ∙ length-unpacked q count xs in
    let t : T (good_stream q count xs) = (stream-numbers q count xs).1 (c, s, z) in
    ((pack-calls q room' ws).0 xs).1 (
      a,
      b,
      subst (λ k. k ≤ 1000000) (sym n) c,
      subst (λ k. (k * q + 7) / 8 ≤ room') (sym n) (subst (λ k. k ≤ room') s h),
      subst (Below (2 ^ q)) g (below-unpacked q count xs),
      ap (packed q) (sym g) ∙ packed-unpacked q count xs bytes t,
    )
