-- What the number of words that come back says of damage: where the first x words are those of a recording, at least
-- x − a come back. So if k of them come back and not all, the first word that was changed stands at k + a or before.
-- In order: take-spells; near; verify-near; verify-words, of a stream.
-- Assumes nothing.
use Rattle.std.proofs.Common.{◌≡◌, ◌∷◌, ◌++◌, ◌+◌, ◌-◌, ◌^◌, ◌≤◌, ◌<◌}
use Rattle.laws.proofs.All.{refl, sym, ap, subst, ◌∙◌, inl, inr, List, [], ℕ, zero, suc}
use Rattle.laws.proofs.All.{arith, dec_lt, T, T→true, leb, length, take, drop, take-take}
use Rattle.laws.proofs.All.{drop-take, get_or-take, ext_get_or, length-take-le, length-append, take-append-le, Below}
use Rattle.laws.proofs.All.{below-take}
use Rattle.answer.specs.declared.Refusal.TheVariants.{TooFewWords}
use Rattle.answer.specs.Outcomes.{done, unless}
use Rattle.answer.specs.FirstBad.{first_bad}
use Rattle.answer.proofs.FirstBad.{all_below-true}
use Rattle.table.specs.Rows.{Rows, at, Code}
use Rattle.table.specs.Paths.{spells, Blocks, closing, recording}
use Rattle.table.proofs.Paths.{length-spells, length-recording}
use Rattle.record_check.specs.Accepted.{Sound}
use Rattle.record_check.specs.Parse.{parse}
use Rattle.record_check.proofs.Acceptance.{sound}
use Rattle.codec_steps.specs.Reading.{decode}
use Rattle.codec.specs.Damage.{StandsClear}
use Rattle.codec.proofs.Damage.{recovered}
use Rattle.codec.proofs.Decoded.{length-decode}
use Rattle.codec.proofs.Promises.{facts}
use Rattle.stream_pack.specs.Streams.{unpacked, good_stream}
use Rattle.stream_pack.proofs.Streams.{length-unpacked, below-unpacked}
use Rattle.codec_verify.specs.Fronts.{same_front, before_bad}
use Rattle.codec_verify.specs.Verify.{rebuilt, verified, verify_under, verified_stream, verify_stream}
use Rattle.codec_verify.proofs.Fronts.{length_before, front-least, bad-least}
use Rattle.codec_verify.proofs.Verified.{verified→}

pub take-spells : (t : Rows) (n : ℕ) (ds : List ℕ) (s : ℕ) → take n (spells t s ds) ≡ spells t s (take n ds)
take-spells t zero ds s = refl
take-spells t (suc n) [] s = refl
take-spells t (suc n) (d ∷ ds) s = ap (λ l. (at t s d).word ∷ l) (take-spells t n ds (at t s d).next)

same-window : (X M : List ℕ) (k n w : ℕ) → n + w ≤ k → take k M ≡ take k X → take w (drop n M) ≡ take w (drop n X)
same-window X M k n w h e =
    sym (drop-take n w M)
    ∙ ap (drop n) (sym (take-take (n + w) k M h) ∙ ap (take (n + w)) e ∙ take-take (n + w) k X h)
    ∙ drop-take n w X

module _ (c : Code) (g : Sound c) (ds L : List ℕ) (b : Blocks c ds) (x : ℕ) (h : x ≤ length L)
    (l : x ≤ length (recording c ds)) (e : take x L ≡ take x (recording c ds)) where
  abbrev a : ℕ
  a = c.window.lookahead

  clear : (i : ℕ) → i < x - a → Dec (i < c.window.memory) → StandsClear c (recording c ds) L i i
  clear i k (yes m) = (
    omega arith,
    inr (
      m,
      refl,
      same-window (recording c ds) L x 0 (i + 1 + a) (omega arith) e,
    ),
  )
  clear i k (no m) = (
    omega arith,
    inl (
      omega arith,
      omega arith,
      same-window (recording c ds) L x (i - c.window.memory) (c.window.memory + 1 + a) (omega arith) e,
    ),
  )

  long : x - a ≤ length ds
  long = omega (arith, length-recording c ds)

  deep : x - a ≤ length (decode c L)
  deep = omega (arith, length-decode c L)

  -- the blocks in front come out as written
  same_blocks : take (x - a) (decode c L) ≡ take (x - a) ds
  same_blocks =
      ext_get_or 0 (take (x - a) (decode c L)) (take (x - a) ds)
      (length-take-le (x - a) (decode c L) deep ∙ sym (length-take-le (x - a) ds long))
      (λ i k. let k' : i < x - a = rw (length-take-le (x - a) (decode c L) deep) at k in
      get_or-take (x - a) (decode c L) i 0 k'
      ∙ recovered c g ds L b i i 0 (omega (arith, long)) (clear i k' (dec_lt i c.window.memory))
      ∙ sym (get_or-take (x - a) ds i 0 k'))

  abbrev whole : List ℕ
  whole = decode c L ++ closing c

  front-whole : take (x - a) whole ≡ take (x - a) ds
  front-whole = take-append-le (x - a) (decode c L) (closing c) deep ∙ same_blocks

  no-mark : x - a ≤ first_bad (2 ^ c.p) whole
  no-mark = bad-least (2 ^ c.p) (x - a) whole (omega (arith, deep, length-append (decode c L) (closing c)))
      (subst (Below (2 ^ c.p)) (sym front-whole) (below-take (2 ^ c.p) (x - a) ds b))

  rebuilt-front : take (x - a) (rebuilt c L) ≡ take (x - a) L
  rebuilt-front =
      take-spells c.table (x - a) (before_bad (2 ^ c.p) whole) 0
      ∙ ap (spells c.table 0) (take-take (x - a) (first_bad (2 ^ c.p) whole) whole no-mark ∙ front-whole
      ∙ sym (take-append-le (x - a) ds (closing c) long))
      ∙ sym (take-spells c.table (x - a) (ds ++ closing c) 0)
      ∙ sym (take-take (x - a) x (recording c ds) (omega arith)) ∙ ap (take (x - a)) (sym e)
      ∙ take-take (x - a) x L (omega arith)

  pub near : x - a ≤ length (same_front (rebuilt c L) L)
  near = front-least (x - a) (rebuilt c L) L
      (omega (
        arith,
        no-mark,
        length-spells c.table (before_bad (2 ^ c.p) whole) 0,
        length_before (2 ^ c.p) whole,
      )) (omega arith) rebuilt-front

-- ---- from bytes
module _ (xs : List ℕ) (bytes : Below 256 xs) (c : Code) (p : parse xs ≡ done c) where
  -- where the first x words are those of a recording, x − a or more come back
  pub verify-near : (ds L F : List ℕ) → Blocks c ds → verify_under xs L ≡ done F → (x : ℕ) → x ≤ length L
      → x ≤ length (recording c ds) → take x L ≡ take x (recording c ds) → x - c.window.lookahead ≤ length F
  unfolding verify_under
  verify-near ds L F b v x h l e =
      let (f, w) = facts xs bytes c p in
      let q : same_front (rebuilt c L) L ≡ F = (verified→ c L F (rw p at v)).2 in
      subst (λ G. x - c.window.lookahead ≤ length G) q (near c (sound c f w) ds L b x h l e)

  -- a good stream is verified as its words are
  pub verify-words : (count : ℕ) (ys : List ℕ) → T (good_stream c.q count ys)
      → verify_stream xs count ys ≡ verify_under xs (unpacked c.q count ys)
  unfolding verify_under verify_stream verified verified_stream
  verify-words count ys g =
      let W = unpacked c.q count ys in
      let R = same_front (rebuilt c W) W in
      rw (p, T→true (good_stream c.q count ys) g)
      (ap (λ n. unless TooFewWords (leb c.window.lookahead n) (done R)) (sym (length-unpacked c.q count ys))
      ∙ ap (unless TooFewWords (leb c.window.lookahead (length W)))
      (sym (all_below-true (2 ^ c.q) W R (below-unpacked c.q count ys))))
