-- What verifying says: of a recording every word comes back, and otherwise the number of words that do is the place of
-- the first that differs from what encoding the decoded blocks gives.
-- In order: rebuilt-recording, rebuilt-blocks; verified→, →verified; recording-exact; given-front, given-place,
-- given-mark; verify-exact, verify-answer, verify-front, verify-place, verify-mark, verifies.
-- Assumes nothing.
use Rattle.answer.specs.declared.Refusal.{Refusal}
use Rattle.std.proofs.Common.{Result, Ok, Err}
use Rattle.std.proofs.Common.{◌≡◌, ◌↔◌, ◌++◌, ◌+◌, ◌-◌, ◌^◌, ◌≤◌, ◌<◌}
use Rattle.laws.proofs.All.{refl, sym, ap, subst, ◌∙◌, List, ℕ, arith, leb}
use Rattle.laws.proofs.All.{leb→le, le-leb, length, length-append, length-replicate, get_or, take, take_all, Below, T}
use Rattle.laws.proofs.All.{length-take-le, Bool, true, false}
use Rattle.answer.specs.declared.Refusal.TheVariants.{TooFewWords}
use Rattle.answer.specs.Outcomes.{Outcome, done, refused, answer_of}
use Rattle.answer.specs.Answers.{answer_value}
use Rattle.answer.specs.FirstBad.{first_bad, all_below}
use Rattle.answer.proofs.FirstBad.{all_below-true, all_below→, bad-le}
use Rattle.answer.proofs.Outcomes.{unless→}
use Rattle.table.specs.Rows.{Code}
use Rattle.table.specs.Paths.{spells, Blocks, closing, recording}
use Rattle.table.proofs.Paths.{length-spells, closed-blocks, length-recording}
use Rattle.record_check.specs.Accepted.{Sound}
use Rattle.record_check.specs.Parse.{parse}
use Rattle.record_check.proofs.Acceptance.{sound}
use Rattle.codec_steps.specs.Reading.{decode}
use Rattle.codec.specs.Damage.{Recording}
use Rattle.codec.proofs.Decoded.{length-decode}
use Rattle.codec.proofs.RoundTrip.{recognised}
use Rattle.codec.proofs.Answers.{words-below}
use Rattle.codec.proofs.Promises.{facts}
use Rattle.codec_verify.specs.Fronts.{same_front, before_bad}
use Rattle.codec_verify.specs.Verify.{rebuilt, verified, verify_under}
use Rattle.codec_verify.proofs.Fronts.{front_self, front-left, front-right, front-differs, front-whole}
use Rattle.codec_verify.proofs.Fronts.{length_before, before-all, before-whole, below-front}
use Rattle.codec_verify.proofs.Fronts.{before-front}

module _ (c : Code) (L : List ℕ) where
  -- the decoded blocks, then the closing blocks
  abbrev whole : List ℕ
  whole = decode c L ++ closing c

  abbrev a : ℕ
  a = c.window.lookahead

  length_whole : length whole ≡ length L - a + a
  length_whole =
      length-append (decode c L) (closing c)
      ∙ rw (length-replicate a c.tail) (ap (λ k. k + a) (sym (length-decode c L)))

  length-rebuilt : length (rebuilt c L) ≡ length (before_bad (2 ^ c.p) whole)
  length-rebuilt = length-spells c.table (before_bad (2 ^ c.p) whole) 0

  -- where no block is a mark, the decoded blocks are encoded
  pub rebuilt-recording : c.tail < 2 ^ c.p → Blocks c (decode c L) → rebuilt c L ≡ recording c (decode c L)
  rebuilt-recording h b =
      ap (spells c.table 0) (before-all (2 ^ c.p) whole (closed-blocks c h (decode c L) b))

  -- where all words come back, no block is a mark
  pub rebuilt-blocks : a ≤ length L → length L ≤ length (rebuilt c L) → Blocks c (decode c L)
  rebuilt-blocks h l =
      below-front (2 ^ c.p) (decode c L) (closing c)
      (before-whole (2 ^ c.p) whole (omega (arith, length_whole, length-rebuilt)))

  -- ---- the call under a loaded code
  pub verified→ : (F : List ℕ) → verified c L ≡ done F
      → (a ≤ length L) × Below (2 ^ c.q) L × (same_front (rebuilt c L) L ≡ F)
  unfolding verified
  verified→ F e =
      let last = all_below (2 ^ c.q) L (same_front (rebuilt c L) L) in
      let (t, q) = unless→ TooFewWords (leb a (length L)) last F e in
      let (b, r) = all_below→ (2 ^ c.q) L (same_front (rebuilt c L) L) F q in
      (leb→le a (length L) t, b, r)

  pub →verified : a ≤ length L → Below (2 ^ c.q) L → verified c L ≡ done (same_front (rebuilt c L) L)
  unfolding verified
  →verified h b = rw (le-leb a (length L) h) (all_below-true (2 ^ c.q) L (same_front (rebuilt c L) L) b)

  -- ---- recordings, exactly
  pub recording-exact : Sound c → a ≤ length L → (same_front (rebuilt c L) L ≡ L) ↔ Recording c L
  recording-exact g h = (there, back)
    where
      there : same_front (rebuilt c L) L ≡ L → Recording c L
      there e =
          let k : length (same_front (rebuilt c L) L) ≡ length L = ap length e in
          let b = rebuilt-blocks h (omega (arith, (front-left (rebuilt c L) L).0)) in
          let q = rebuilt-recording g.tail b in
          let l : length (rebuilt c L) ≤ length L = omega (
            arith,
            length-rebuilt,
            length_whole,
            length_before (2 ^ c.p) whole,
            bad-le (2 ^ c.p) whole,
          ) in
          (decode c L, b, sym q ∙ front-whole (rebuilt c L) L l e)

      back : Recording c L → same_front (rebuilt c L) L ≡ L
      back r =
          let (_, b, e) = (recognised c g L).0 r in
          ap (λ R. same_front R L) (rebuilt-recording g.tail b ∙ e) ∙ front_self L

-- ---- the number of words that come back
module _ (c : Code) (h : c.tail < 2 ^ c.p) (L F : List ℕ) (e : verified c L ≡ done F) where
  abbrev k : ℕ
  k = length F

  front : same_front (rebuilt c L) L ≡ F
  front = (verified→ c L F e).2

  -- the words that come back are the front of the list
  pub given-front : (k ≤ length L) × (take k L ≡ F)
  given-front = subst (λ G. (length G ≤ length L) × (take (length G) L ≡ G)) front (front-right (rebuilt c L) L)

  -- and of what encoding gives, and after them the two differ
  rebuilt-front : (k ≤ length (rebuilt c L)) × (take k (rebuilt c L) ≡ F)
      × (k < length (rebuilt c L) → k < length L → get_or (rebuilt c L) k 0 ≡ get_or L k 0 → ⊥)
  rebuilt-front = subst (λ G. (length G ≤ length (rebuilt c L)) × (take (length G) (rebuilt c L) ≡ G)
      × (length G < length (rebuilt c L) → length G < length L → get_or (rebuilt c L) (length G) 0
      ≡ get_or L (length G) 0
      → ⊥)) front
      ((front-left (rebuilt c L) L).0, (front-left (rebuilt c L) L).1, front-differs (rebuilt c L) L)

  -- with no mark among the decoded blocks: the place of the first word that differs from their recording
  pub given-place : Blocks c (decode c L) → (take k L ≡ take k (recording c (decode c L)))
      × (k < length L → get_or L k 0 ≡ get_or (recording c (decode c L)) k 0 → ⊥)
  given-place b =
      let q = rebuilt-recording c L h b in
      let (_, f, d) = subst (λ R. (k ≤ length R) × (take k R ≡ F)
      × (k < length R → k < length L → get_or R k 0 ≡ get_or L k 0 → ⊥)) q rebuilt-front in
      let w = length-recording c (decode c L) in
      let n = length-decode c L in
      (given-front.1 ∙ sym f, (λ l x. d (omega (arith, (verified→ c L F e).0)) l (sym x)))

  -- with the first mark at block j: no word from j on comes back, and of the words before it those up to the first that
  -- differs from the words of the blocks before it
  pub given-mark : (j : ℕ) → j ≡ first_bad (2 ^ c.p) (decode c L) → j < length (decode c L)
      → let R = spells c.table 0 (take j (decode c L)) in
      (k ≤ j) × (take k L ≡ take k R) × (k < j → get_or L k 0 ≡ get_or R k 0 → ⊥)
  given-mark j z l =
      let R = spells c.table 0 (take j (decode c L)) in
      let q : rebuilt c L ≡ R = ap (spells c.table 0) (before-front (2 ^ c.p) (decode c L) (closing c) j z l) in
      let (s, f, d) = subst (λ R. (k ≤ length R) × (take k R ≡ F)
      × (k < length R → k < length L → get_or R k 0 ≡ get_or L k 0 → ⊥)) q rebuilt-front in
      let w : length R ≡ j =
      length-spells c.table (take j (decode c L)) 0 ∙ length-take-le j (decode c L) (omega arith) in
      let n = length-decode c L in
      (omega arith, given-front.1 ∙ sym f, (λ i x. d (omega arith) (omega (arith, n)) (sym x)))

-- ---- from bytes
abbrev is_done : Result ℕ Refusal → Bool
is_done (Ok n) = true
is_done (Err r) = false

module _ (xs : List ℕ) (bytes : Below 256 xs) (c : Code) (p : parse xs ≡ done c) (L : List ℕ) where
  good : Sound c
  good = let (f, w) = facts xs bytes c p in sound c f w

  under : verify_under xs L ≡ verified c L
  unfolding verify_under
  under = rw p

  -- all words come back exactly of a recording
  pub verify-exact : (verify_under xs L ≡ done L) ↔ Recording c L
  verify-exact = ((λ e. there (sym under ∙ e)), (λ r. under ∙ back r))
    where
      there : verified c L ≡ done L → Recording c L
      there e = let (l, _, f) = verified→ c L L e in (recording-exact c L good l).0 f

      back : Recording c L → verified c L ≡ done L
      back (ds, b, e) =
          let (f, w) = facts xs bytes c p in
          let (l, _, _) = (recognised c good L).0 (ds, b, e) in
          →verified c L l (subst (Below (2 ^ c.q)) e (words-below c f w ds b))
          ∙ ap done ((recording-exact c L good l).1 (ds, b, e))

  -- the same of the value that is answered
  pub verify-answer : (answer_of (verify_under xs L) ≡ Ok (length L)) ↔ Recording c L
  verify-answer = (there, (λ r. ap answer_of (verify-exact.1 r)))
    where
      go : (o : Outcome (List ℕ)) → verify_under xs L ≡ o → answer_of o ≡ Ok (length L) → verify_under xs L ≡ done L
      go (done F) e q =
          let (_, f) = given-front c good.tail L F (sym under ∙ e) in
          let z : length F ≡ length L = ap answer_value q in
          e ∙ ap done (sym f ∙ take_all (length F) L (omega arith))
      go (refused r) e q = absurd (subst T (sym (ap is_done q)) tt)

      there : answer_of (verify_under xs L) ≡ Ok (length L) → Recording c L
      there q = verify-exact.0 (go (verify_under xs L) refl q)

  module _ (F : List ℕ) (e : verify_under xs L ≡ done F) where
    pub verify-front : (length F ≤ length L) × (take (length F) L ≡ F)
    verify-front = given-front c good.tail L F (sym under ∙ e)

    pub verify-place : Blocks c (decode c L) → let R = recording c (decode c L) in let k = length F in
        (take k L ≡ take k R) × (k < length L → get_or L k 0 ≡ get_or R k 0 → ⊥)
    verify-place = given-place c good.tail L F (sym under ∙ e)

    pub verify-mark : (j : ℕ) → j ≡ first_bad (2 ^ c.p) (decode c L) → j < length (decode c L)
        → let R = spells c.table 0 (take j (decode c L)) in let k = length F in
        (k ≤ j) × (take k L ≡ take k R) × (k < j → get_or L k 0 ≡ get_or R k 0 → ⊥)
    verify-mark = given-mark c good.tail L F (sym under ∙ e)

  -- a words or more, all good, are answered
  pub verifies : c.window.lookahead ≤ length L → Below (2 ^ c.q) L
      → verify_under xs L ≡ done (same_front (rebuilt c L) L)
  verifies h b = under ∙ →verified c L h b
