-- At most all words come back; and how a run ends by how many do.
-- In order: done-of; verify-most, stream-most; end_refused, end_short, end_whole, ends_by, end-well, fails-failed;
-- after-done, after-failed, after-either, after_kept, ends-either, ends-both; blocks-read, blocks-bad.
-- Assumes nothing.
use Rattle.std.proofs.Common.{Result, Ok, Err}
use Rattle.std.proofs.Common.{◌≡◌, ◌⊎◌, ◌∷◌, ◌-◌, ◌≤◌, ◌<◌, if◌then◌else◌}
use Rattle.laws.proofs.All.{refl, sym, ap, subst, ◌∙◌, inl, inr, Bool, true, false, List, [], ℕ}
use Rattle.laws.proofs.All.{arith, T, leb, ltb, lt-ltb, le-ltb, ltb-true, ltb-false, length}
use denote.Enum.Declared.{tag_of}
use types.Run.{OneOf, miss}
use Rattle.answer.specs.declared.Refusal.{Refusal}
use Rattle.answer.specs.declared.Refusal.TheVariants.{TooFewWords, Stream}
use Rattle.answer.specs.Answers.{answer_value}
use Rattle.answer.specs.Outcomes.{Outcome, done, refused, unless, answer_of}
use Rattle.answer.proofs.Outcomes.{onward→, unless→, done_inj}
use Rattle.table.specs.Rows.{Code}
use Rattle.record_check.specs.Parse.{parse}
use Rattle.stream_pack.specs.Streams.{unpacked, good_stream}
use Rattle.stream_pack.proofs.Streams.{length-unpacked}
use Rattle.codec_verify.specs.Fronts.{same_front}
use Rattle.codec_verify.specs.Verify.{rebuilt, verified, verify_under, verified_stream, verify_stream}
use Rattle.codec_verify.proofs.Fronts.{front-right}
use Rattle.codec_verify.proofs.Verified.{verified→}
use Rattle.command_arguments.specs.declared.Status.{Status}
use Rattle.command_arguments.specs.declared.Status.TheVariants.{Done, Failed, Misused, NoRecording}
use Rattle.command_arguments.specs.contracts.Status.{the_type}
use Rattle.command_outputs.specs.Results.{Fails, EndsBy}
use Rattle.command_verify.specs.Verifying.{end_by, after_by, Fewer, blocks_under}

is_done : Result ℕ Refusal → Bool
is_done (Ok n) = true
is_done (Err r) = false

-- an answer with a value is that of a result of this length
pub done-of : (o : Outcome (List ℕ)) (k : ℕ) → answer_of o ≡ Ok k → (F : List ℕ) × (o ≡ done F) × (length F ≡ k)
unfolding is_done
done-of (done F) k e = (F, refl, ap answer_value e)
done-of (refused r) k e = absurd (subst T (sym (ap is_done e)) tt)

pub verify-most : (rec L : List ℕ) (k : ℕ) → answer_of (verify_under rec L) ≡ Ok k → k ≤ length L
unfolding verify_under
verify-most rec L k e =
    let (F, f, l) = done-of (verify_under rec L) k e in
    let (c, _, v) = onward→ (parse rec) (λ c. verified c L) F f in
    let (_, _, q) = verified→ c L F v in
    let h : length F ≤ length L = subst (λ G. length G ≤ length L) q (front-right (rebuilt c L) L).0 in
    omega arith

pub stream-most : (rec : List ℕ) (count : ℕ) (xs : List ℕ) (k : ℕ) → answer_of (verify_stream rec count xs) ≡ Ok k
    → k ≤ count
unfolding verify_stream verified_stream
stream-most rec count xs k e =
    let (F, f, l) = done-of (verify_stream rec count xs) k e in
    let (c, _, v) = onward→ (parse rec) (λ c. verified_stream c count xs) F f in
    let U = unpacked c.q count xs in
    let R = same_front (rebuilt c U) U in
    let (_, w) = unless→ Stream (good_stream c.q count xs)
    (unless TooFewWords (leb c.window.lookahead count) (done R)) F v in
    let (_, q) = unless→ TooFewWords (leb c.window.lookahead count) (done R) F w in
    let h : length F ≤ length U = subst (λ G. length G ≤ length U) (done_inj R F q) (front-right (rebuilt c U) U).0 in
    omega (arith, length-unpacked c.q count xs)

-- ---- how a run ends by the answer on n words
pub end_refused : (r : Result ℕ Refusal) (n : ℕ) (x : Refusal) → r ≡ Err x → Failed ≡ end_by r n
end_refused r n x e = sym (ap (λ r. end_by r n) e)

pub end_short : (r : Result ℕ Refusal) (n k : ℕ) → r ≡ Ok k → k < n → NoRecording ≡ end_by r n
end_short r n k e h = sym (ap (λ r. end_by r n) e ∙ simp (lt-ltb _ _ h))

pub end_whole : (r : Result ℕ Refusal) (n k : ℕ) → r ≡ Ok k → n ≤ k → Done ≡ end_by r n
end_whole r n k e h = sym (ap (λ r. end_by r n) e ∙ simp (le-ltb _ _ h))

-- it ends well only where all of them come back, and with status 3 only where fewer do
pub ends_by : (r : Result ℕ Refusal) (n : ℕ) → ((k : ℕ) → r ≡ Ok k → k ≤ n)
    → EndsBy (r ≡ Ok n) (Fewer r n) (end_by r n)
ends_by (Err x) n h = tt
ends_by (Ok k) n h = go (ltb k n) refl
  where
    go : (b : Bool) → ltb k n ≡ b → EndsBy (◌≡◌ {A = Result ℕ Refusal} (Ok k) (Ok n)) (Fewer (Ok k) n)
        (if b then NoRecording else Done)
    go true e = (k, refl, ltb-true k n e)
    go false e = let q : k ≡ n = omega (arith, h k refl, ltb-false k n e) in ap Ok q

-- a run that ended well by the answer of the call had all words back
pub end-well : (r a : Result ℕ Refusal) (n : ℕ) (s : Status) → r ≡ a → ((k : ℕ) → a ≡ Ok k → k ≤ n)
    → s ≡ end_by r n → s ≡ Done → a ≡ Ok n
end-well r a n s e h q w =
    subst (EndsBy (a ≡ Ok n) (Fewer a n)) (sym (ap (λ r. end_by r n) e) ∙ sym q ∙ w) (ends_by a n h)

pub fails-failed : (a : Result ℕ Refusal) → Fails a Failed
fails-failed (Ok n) = tt
fails-failed (Err r) = refl

-- ---- how a run ends that wrote before
-- all was written
pub after-done : (s e x : Status) → s ≡ Done → e ≡ x → e ≡ after_by s x
after-done s e x d q = q ∙ sym (ap (λ s. after_by s x) d)

-- not all was written
pub after-failed : (s x : Status) → OneOf (1 ∷ 2 ∷ 3 ∷ []) (tag_of the_type s) → Failed ≡ after_by s x
after-failed Done x h = absurd (miss (1 ∷ 2 ∷ 3 ∷ []) 0 tt h)
after-failed Failed x h = refl
after-failed Misused x h = refl
after-failed NoRecording x h = refl

-- it fails, or it ends as the words say
pub after-either : (s e x : Status) → e ≡ after_by s x → (e ≡ Failed) ⊎ (e ≡ x)
after-either Done e x q = inr q
after-either Failed e x q = inl q
after-either Misused e x q = inl q
after-either NoRecording e x q = inl q

-- a run that goes on after one that failed fails too
pub after_kept : (a : Result ℕ Refusal) (s e x : Status) → e ≡ after_by s x → Fails a s → Fails a e
after_kept (Ok n) s e x q h = tt
after_kept (Err r) s e x q h = q ∙ ap (λ s. after_by s x) h

pub ends-either : (W N : Type 0) (s x : Status) → (s ≡ Failed) ⊎ (s ≡ x) → EndsBy W N x → EndsBy W N s
ends-either W N s x (inl e) h = subst (EndsBy W N) (sym e) tt
ends-either W N s x (inr e) h = subst (EndsBy W N) (sym e) h

-- a run may end so where what two promises ask for holds
pub ends-both : {W' N' : Type 0} (P W N : Type 0) (s : Status) → (P → W → W') → (P → N → N') → EndsBy P P s
    → EndsBy W N s → EndsBy W' N' s
ends-both P W N Done f g p q = f p q
ends-both P W N Failed f g p q = tt
ends-both P W N Misused f g p q = tt
ends-both P W N NoRecording f g p q = g p q

-- ---- the blocks of n words, by what reading the record said
module _ (o : Outcome Code) (n : ℕ) where
  pub blocks-read : (c : Code) → done c ≡ o → n - c.window.lookahead ≡ blocks_under o n
  blocks-read c e = ap (λ o. blocks_under o n) e

  pub blocks-bad : (r : Refusal) → refused r ≡ o → 0 ≡ blocks_under o n
  blocks-bad r e = ap (λ o. blocks_under o n) e
