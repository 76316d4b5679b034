-- A stream, packing and unpacking, check by check.
-- In order: width→, stream-long, stream-other, stream-fill; pack-1, pack-15, pack-13, pack-last; unpack-1,
-- unpack-15, unpack-13, unpack-done.
-- Assumes nothing.
use Rattle.std.proofs.Common.{◌≡◌, ◌-◌, ◌*◌, ◌^◌, ◌≤◌, ◌<◌}
use Rattle.laws.proofs.All.{sym, subst, true, false, List, ℕ}
use Rattle.laws.proofs.All.{lt-leb, le-leb, eq-eqb, ne_eqb, T, leb, eqb, leb→le, length, and→}
use Rattle.answer.specs.declared.Refusal.TheVariants.{Parameters, ShortOutput, Stream}
use Rattle.answer.specs.Outcomes.{done, refused}
use Rattle.answer.specs.FirstBad.{all_below}
use Rattle.bits.specs.Fields.{bits_of, field}
use Rattle.stream_pack.specs.Streams.{limit, stream_size, good_width, good_stream, packed, unpacked}
use Rattle.stream_pack.specs.Streams.{pack_into, unpack_into}

-- ---- refusals 1 and 15
pub width→ : (q : ℕ) → good_width q ≡ true → q ≤ 8
width→ q e = leb→le q 8 (and→ (leb 1 q) (leb q 8) (subst T (sym e) tt)).1

module _ (q count : ℕ) (xs : List ℕ) where
  pub stream-long : limit < count → good_stream q count xs ≡ false
  unfolding good_stream
  stream-long h = rw (lt-leb count limit h)

  module _ (h : count ≤ limit) where
    pub stream-other : (length xs ≡ stream_size q count → ⊥) → good_stream q count xs ≡ false
    unfolding good_stream
    stream-other n = rw (le-leb count limit h, ne_eqb (length xs) (stream_size q count) n)

    pub stream-fill : length xs ≡ stream_size q count
        → good_stream q count xs ≡ eqb (field (bits_of xs) (count * q) (8 * length xs - count * q)) 0
    unfolding good_stream
    stream-fill e = rw (le-leb count limit h, eq-eqb (length xs) (stream_size q count) e, e)

-- ---- packing
module _ (q room : ℕ) (ws : List ℕ) where
  pub pack-1 : good_width q ≡ false → pack_into q room ws ≡ refused Parameters
  unfolding pack_into
  pack-1 e = rw e

  module _ (r : good_width q ≡ true) where
    pub pack-15 : limit < length ws → pack_into q room ws ≡ refused Stream
    unfolding pack_into
    pack-15 h = rw (r, lt-leb (length ws) limit h)

    module _ (h : length ws ≤ limit) where
      pub pack-13 : room < stream_size q (length ws) → pack_into q room ws ≡ refused ShortOutput
      unfolding pack_into
      pack-13 l = rw (r, le-leb (length ws) limit h, lt-leb (stream_size q (length ws)) room l)

      pub pack-last : stream_size q (length ws) ≤ room → pack_into q room ws ≡ all_below (2 ^ q) ws (packed q ws)
      unfolding pack_into
      pack-last l = rw (r, le-leb (length ws) limit h, le-leb (stream_size q (length ws)) room l)

-- ---- unpacking
module _ (q count room : ℕ) (xs : List ℕ) where
  pub unpack-1 : good_width q ≡ false → unpack_into q count room xs ≡ refused Parameters
  unfolding unpack_into
  unpack-1 e = rw e

  module _ (r : good_width q ≡ true) where
    pub unpack-15 : good_stream q count xs ≡ false → unpack_into q count room xs ≡ refused Stream
    unfolding unpack_into
    unpack-15 e = rw (r, e)

    module _ (g : good_stream q count xs ≡ true) where
      pub unpack-13 : room < count → unpack_into q count room xs ≡ refused ShortOutput
      unfolding unpack_into
      unpack-13 h = rw (r, g, lt-leb count room h)

      pub unpack-done : count ≤ room → unpack_into q count room xs ≡ done (unpacked q count xs)
      unfolding unpack_into
      unpack-done h = rw (r, g, le-leb count room h)
