-- Words as a bit stream and back: packing and unpacking undo each other for every q, since words below 2^q are what
-- fits fields of q bits.
-- In order: packed-size, uniform-packed; few_bits, place_in, word_of, length-unpacked, below-unpacked, unpacked-at,
-- unpacked-map, unpacked-part; Good, good-stream→, →good-stream; unpacked-packed, packed-unpacked; good-streams.
-- Assumes nothing.
use Rattle.std.proofs.Common.{◌≡◌, ◌↔◌, ◌&&◌, ◌∷◌, ◌++◌, ◌+◌, ◌*◌, ◌/◌, ◌%◌, ◌^◌, ◌≤◌, ◌<◌}
use Rattle.laws.proofs.All.{sym, ap, ap₂, subst, ◌∙◌, List, [], map, ℕ}
use Rattle.laws.proofs.All.{mod-eq_of_lt, mul-le-mul, mul-le-mul_right, arith, T, leb, eqb, le→leb}
use Rattle.laws.proofs.All.{leb→le, eqb→eq, eqb_refl, length, take, drop, get_or, replicate, length-append, length-drop}
use Rattle.laws.proofs.All.{length-take-le, take_all, drop_at, drop-drop, ext_get_or, get_or-take, get_or-drop, pow_pos}
use Rattle.laws.proofs.All.{and→, →and, sum, sum-append, sum-replicate, below-append, range, is-map, Below}
use Rattle.bits.specs.Fields.{bits, value, write, read, uniform, bits_of, field}
use Rattle.bits.proofs.Fields.{length-bits, below-bits, value-bits, below-write, read-write, write_read, read_back}
use Rattle.bits.proofs.Fields.{read-append, fits-uniform, below-read, read_count, uniform-read, uniform-at}
use Rattle.bits.proofs.Places.{drop-bytes}
use Rattle.bits.proofs.Puts.{length-uniform, length-bits_of}
use Rattle.stream_pack.specs.Streams.{limit, stream_size, stream_fill, stream_widths, packed, unpacked, good_stream}
use Rattle.stream_pack.proofs.Sizes.{stream-holds, stream_bits}

-- ---- the bytes of words
module _ (q : ℕ) (ws : List ℕ) where
  pub packed-size : length (packed q ws) ≡ stream_size q (length ws)
  unfolding packed
  packed-size = read_count 8 (stream_size q (length ws)) (write (stream_widths q (length ws)) (ws ++ 0 ∷ []))

  -- the bits of the words, then the fill
  pub uniform-packed : bits_of (packed q ws) ≡ uniform q ws ++ bits (stream_fill q (length ws)) 0
  unfolding packed
  uniform-packed =
      let n = stream_size q (length ws) in
      let f = stream_fill q (length ws) in
      let l : length (uniform q ws ++ bits f 0) ≡ n * 8 =
      length-append (uniform q ws) (bits f 0) ∙ ap₂ ◌+◌ (length-uniform q ws) (length-bits f 0)
      ∙ omega (arith, stream-holds q (length ws)) in
      ap (λ l. bits_of (read (replicate n 8) l)) (stream_bits q ws)
      ∙ uniform-read 8 n (uniform q ws ++ bits f 0)
      (below-append 2 (uniform q ws) (bits f 0) (below-write (replicate (length ws) q) ws) (below-bits f 0)) l

-- ---- the words of bytes
-- fewer than 2^23 bits in all, and each word lies within them
pub few_bits : (q count : ℕ) → q ≤ 8 → count ≤ limit → count * q ≤ 8000000
few_bits q count h l = let k : count * q ≤ limit * 8 = mul-le-mul l h in omega arith

pub place_in : (q count i : ℕ) → i < count → i * q + q ≤ count * q
place_in q count i h = omega (arith, mul-le-mul_right {m = i + 1} {n = count} q (omega arith))

-- word i of q bits
abbrev pub word_of : ℕ → List ℕ → ℕ → ℕ
word_of q xs i = field (bits_of xs) (i * q) q

module _ (q count : ℕ) (xs : List ℕ) where
  pub length-unpacked : length (unpacked q count xs) ≡ count
  unfolding unpacked
  length-unpacked = read_count q count (bits_of xs)

  pub below-unpacked : Below (2 ^ q) (unpacked q count xs)
  unfolding unpacked
  below-unpacked = below-read q count (bits_of xs) (below-write (replicate (length xs) 8) xs)

  -- a word by its bit place
  pub unpacked-at : (i : ℕ) → i < count → get_or (unpacked q count xs) i 0 ≡ word_of q xs i
  unfolding unpacked
  unpacked-at i h = uniform-at q count (bits_of xs) i h

  -- each word by its number
  pub unpacked-map : unpacked q count xs ≡ map (word_of q xs) (range count)
  unpacked-map = is-map 0 (word_of q xs) count (unpacked q count xs) length-unpacked unpacked-at

-- words from a place on that starts a byte are those of the bytes from there on
pub unpacked-part : (q base k count : ℕ) (xs : List ℕ) → base % 8 ≡ 0 → base + k ≤ count
    → unpacked q k (drop (base / 8 * q) xs) ≡ take k (drop base (unpacked q count xs))
unpacked-part q base k count xs e h =
    let m = base / 8 * q in
    let w : base / 8 * 8 ≡ base = omega arith in
    let U = unpacked q count xs in
    let l : length (take k (drop base U)) ≡ k =
    length-take-le k (drop base U) (rw (length-drop base U, length-unpacked q count xs) (omega arith)) in
    ext_get_or 0 (unpacked q k (drop m xs)) (take k (drop base U)) (length-unpacked q k (drop m xs) ∙ sym l)
    (λ i b. let b' : i < k = rw (length-unpacked q k (drop m xs)) at b in
    let p : m * 8 + i * q ≡ (base + i) * q = place (base / 8) i ∙ ap (λ n. (n + i) * q) w in
    unpacked-at q k (drop m xs) i b'
    ∙ ap (λ t. value (take q t)) (ap (drop (i * q)) (sym (drop-bytes m xs)) ∙ drop-drop (i * q) (m * 8) (bits_of xs)
    ∙ ap (λ n. drop n (bits_of xs)) p)
    ∙ sym (get_or-take k (drop base U) i 0 b' ∙ get_or-drop base U i 0
    ∙ unpacked-at q count xs (base + i) (omega arith)))
  where
    place : (d i : ℕ) → d * q * 8 + i * q ≡ (d * 8 + i) * q
    place d i = omega arith

-- ---- good streams
-- what the check of refusal 15 says
pub record Good (q count : ℕ) (xs : List ℕ) : Type 0 where
  pub few : count ≤ limit
  pub sized : length xs ≡ stream_size q count
  pub filled : field (bits_of xs) (count * q) (stream_fill q count) ≡ 0
  pub holds : count * q ≤ 8 * length xs

pub good-stream→ : (q count : ℕ) (xs : List ℕ) → T (good_stream q count xs) → Good q count xs
unfolding good_stream
good-stream→ q count xs t =
    let F = field (bits_of xs) (count * q) (stream_fill q count) in
    let (a, t') = and→ (leb count limit) (eqb (length xs) (stream_size q count) && eqb F 0) t in
    let (b, d) = and→ (eqb (length xs) (stream_size q count)) (eqb F 0) t' in
    let e = eqb→eq (length xs) (stream_size q count) b in
    record {
      few = leb→le count limit a;
      sized = e;
      filled = eqb→eq F 0 d;
      holds = rw e (stream-holds q count);
    }

pub →good-stream : (q count : ℕ) (xs : List ℕ) → count ≤ limit → length xs ≡ stream_size q count
    → field (bits_of xs) (count * q) (stream_fill q count) ≡ 0 → T (good_stream q count xs)
unfolding good_stream
→good-stream q count xs a b d =
    let F = field (bits_of xs) (count * q) (stream_fill q count) in
    →and (leb count limit) _ (le→leb count limit a)
    (→and (eqb (length xs) (stream_size q count)) (eqb F 0) (rw b (eqb_refl (stream_size q count))) (rw d tt))

-- ---- both ways
-- f bits 0 after n bits
zeros-behind : (B : List ℕ) (n f : ℕ) → length B ≡ n → field (B ++ bits f 0) n f ≡ 0
zeros-behind B n f e =
    ap (λ l. value (take f l)) (drop_at B (bits f 0) n e)
    ∙ ap value (take_all f (bits f 0) (rw (length-bits f 0) (omega arith)))
    ∙ value-bits f 0 ∙ mod-eq_of_lt (pow_pos f)

pub unpacked-packed : (q : ℕ) (ws : List ℕ) → Below (2 ^ q) ws → length ws ≤ limit
    → (unpacked q (length ws) (packed q ws) ≡ ws) × T (good_stream q (length ws) (packed q ws))
unfolding unpacked
unpacked-packed q ws b h =
    let n = length ws in
    let f = stream_fill q n in (
      ap (read (replicate n q)) (uniform-packed q ws) ∙ read-write (replicate n q) ws (bits f 0) (fits-uniform q ws b),
      →good-stream q n (packed q ws) h (packed-size q ws)
          (ap (λ l. field l (n * q) f) (uniform-packed q ws)
          ∙ zeros-behind (uniform q ws) (n * q) f (length-uniform q ws)),
    )

pub packed-unpacked : (q count : ℕ) (xs : List ℕ) → Below 256 xs → T (good_stream q count xs)
    → packed q (unpacked q count xs) ≡ xs
unfolding packed unpacked
packed-unpacked q count xs b t =
    let g = good-stream→ q count xs t in
    let B = bits_of xs in
    let U = read (replicate count q) B in
    let f = stream_fill q count in
    let W = stream_widths q count in
    let fields : read W B ≡ U ++ 0 ∷ [] =
    read-append (replicate count q) (f ∷ []) B
    ∙ ap (λ v. U ++ v ∷ []) (ap (λ n. field B n f) (sum-replicate count q) ∙ g.filled) in
    let long : length B ≡ sum W =
    length-bits_of xs ∙ ap (λ n. n * 8) g.sized
    ∙ sym (sum-append (replicate count q) (f ∷ []) ∙ ap (λ n. n + (f + 0)) (sum-replicate count q)
    ∙ omega (arith, stream-holds q count)) in
    ap (λ n. read (replicate (stream_size q n) 8) (write (stream_widths q n) (U ++ 0 ∷ []))) (read_count q count B)
    ∙ ap (read (replicate (stream_size q count) 8))
    (ap (write W) (sym fields) ∙ write_read W B (below-write (replicate (length xs) 8) xs) long)
    ∙ ap (λ n. read (replicate n 8) B) (sym g.sized) ∙ read_back (replicate (length xs) 8) xs (fits-uniform 8 xs b)

-- a stream is good exactly when it is what packing makes of as many words, within the limit
pub good-streams : (q count : ℕ) (xs : List ℕ) → Below 256 xs → T (good_stream q count xs)
    ↔ ((count ≤ limit) × ((ws : List ℕ) × Below (2 ^ q) ws × (length ws ≡ count) × (packed q ws ≡ xs)))
good-streams q count xs b = (
  λ t. (
    (good-stream→ q count xs t).few,
    (unpacked q count xs, below-unpacked q count xs, length-unpacked q count xs, packed-unpacked q count xs b t),
  ),
  λ (few, (ws, w, e, p)). subst (λ l. T (good_stream q count l)) p
      (subst (λ n. T (good_stream q n (packed q ws))) e (unpacked-packed q ws w (rw e few)).1),
)
