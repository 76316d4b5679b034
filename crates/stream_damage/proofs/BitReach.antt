-- The reach of damage in channel bits: bits f to l lie in words f / q to l / q, and those words reach so far.
-- In order: words_same, damage to bits as damage to words; good-same; bits-reach.
-- Assumes nothing.
use Rattle.std.proofs.Common.{◌≡◌, ◌⊎◌, ◌+◌, ◌*◌, ◌/◌, ◌≤◌, ◌<◌, ◌&&◌}
use Rattle.laws.proofs.All.{sym, ap, ap₂, subst, ◌∙◌, inl, inr, List, ℕ, suc}
use Rattle.laws.proofs.All.{arith, dec_lt, T, leb, eqb, length, get_or, Below, get_or-eq_default}
use Rattle.laws.proofs.All.{le-div_iff_mul-le, div-lt_iff_lt-mul}
use Rattle.answer.specs.Outcomes.{done}
use Rattle.bits.specs.Fields.{value, bits_of, field}
use Rattle.bits.proofs.Puts.{length-bits_of}
use Rattle.stream_pack.specs.Streams.{limit, stream_size, stream_fill, packed, unpacked, good_stream}
use Rattle.stream_pack.proofs.Streams.{length-unpacked, below-unpacked, unpacked-at, unpacked-packed}
use Rattle.table.specs.Rows.{Code}
use Rattle.table.specs.Paths.{Blocks, recording}
use Rattle.table.proofs.Paths.{length-recording}
use Rattle.record_check.specs.Parse.{parse}
use Rattle.codec_steps.specs.Reading.{mark_ahead}
use Rattle.codec.specs.Damage.{SameOutside}
use Rattle.codec.proofs.Answers.{words-below}
use Rattle.codec.proofs.Promises.{facts}
use Rattle.codec.proofs.Reach.{same-stretch, words-reach}
use Rattle.stream.specs.Recorded.{decode_stream}
use Rattle.stream.proofs.Decoded.{stream-decodes}
use Rattle.stream_damage.specs.declared.BitNo.{BitNo}
use Rattle.stream_damage.specs.declared.BlockNo.{BlockNo}
use Rattle.stream_damage.specs.BitReach.{first_block, last_block}

module _ (q count f l : ℕ) (xs ys : List ℕ) (s : SameOutside f l (bits_of xs) (bits_of ys)) where
  -- the fields before bit f and after bit l are the same
  same-field : (o w : ℕ) → (o + w ≤ f) ⊎ (l < o) → field (bits_of xs) o w ≡ field (bits_of ys) o w
  same-field o w h = ap value (same-stretch f l (bits_of xs) (bits_of ys) s o w h)

  same_word : (i : ℕ) → (i * q + q ≤ f) ⊎ (l < i * q) → get_or (unpacked q count xs) i 0
      ≡ get_or (unpacked q count ys) i 0
  same_word i h = elim (dec_lt i count) [
    | yes k ↦ unpacked-at q count xs i k ∙ same-field (i * q) q h ∙ sym (unpacked-at q count ys i k)
    | no k ↦ none xs (omega arith) ∙ sym (none ys (omega arith))
  ]
    where
      none : (zs : List ℕ) → count ≤ i → get_or (unpacked q count zs) i 0 ≡ 0
      none zs k = get_or-eq_default (unpacked q count zs) 0 (omega (arith, length-unpacked q count zs))

  -- bits f to l lie in words f / q to l / q
  words_same : 0 < q → SameOutside (f / q) (l / q) (unpacked q count xs) (unpacked q count ys)
  words_same h = record {
    long = length-unpacked q count xs ∙ sym (length-unpacked q count ys);
    before = λ i k. same_word i (inl (omega (arith, (le-div_iff_mul-le {k = q} {x = suc i} {y = f} h).0 k)));
    behind = λ i k. same_word i (inr ((div-lt_iff_lt-mul {k = q} {x = l} {y = i} h).0 k));
  }

  -- and leave the length and the fill
  good-same : l < count * q → good_stream q count xs ≡ good_stream q count ys
  unfolding good_stream
  good-same h =
      let e : length xs ≡ length ys = omega (arith, s.long, length-bits_of xs, length-bits_of ys) in
      ap₂ (λ n v. leb count limit && (eqb n (stream_size q count) && eqb v 0)) e
      (same-field (count * q) (stream_fill q count) (inr h))

module _ (rec : List ℕ) (bytes : Below 256 rec) (c : Code) (read : parse rec ≡ done c) where
  -- overwriting channel bits f to l: only blocks f / q − a to l / q + m can differ from the data written
  pub bits-reach : (ds xs : List ℕ) → Blocks c ds → Below 256 xs → let count = length ds + c.window.lookahead in
      count ≤ limit → (f l : BitNo) → f.0 ≤ l.0 → l.0 < count * c.q
      → SameOutside f.0 l.0 (bits_of xs) (bits_of (packed c.q (recording c ds)))
      → (room : ℕ) → length ds ≤ room → (out : List ℕ) × (decode_stream rec count room xs ≡ done out)
      × ((j : BlockNo) → j.0 < length ds → (j.0 < first_block c.q c.window.lookahead f.0)
      ⊎ (last_block c.q c.window.memory l.0 < j.0) → get_or out j.0 mark_ahead ≡ get_or ds j.0 0)
  bits-reach ds xs b x few f l _ in_words_lem s room h =
      let count = length ds + c.window.lookahead in
      let R = recording c ds in
      let ys = packed c.q R in
      let (F, w) = facts rec bytes c read in
      let long : length R ≡ count = length-recording c ds in
      let (back, good) = unpacked-packed c.q R (words-below c F w ds b) (omega (arith, long)) in
      let ok : T (good_stream c.q count xs) =
      subst T (sym (good-same c.q count f.0 l.0 xs ys s in_words_lem))
      (subst (λ n. T (good_stream c.q n ys)) long good) in
      let L = unpacked c.q count xs in
      let same : SameOutside (f.0 / c.q) (l.0 / c.q) L R =
      subst (λ M. SameOutside (f.0 / c.q) (l.0 / c.q) L M)
      (sym (ap (λ n. unpacked c.q n ys) long) ∙ back)
      (words_same c.q count f.0 l.0 xs ys s F.range.q₁) in
      let (out, e, r) = words-reach rec bytes c read ds L b (below-unpacked c.q count xs)
      (f.0 / c.q) (l.0 / c.q) room same h in
      (out, stream-decodes rec c read count room xs ok ∙ e, λ j k o. r j.0 k o)
