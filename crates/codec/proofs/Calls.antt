-- What encoding and decoding answer, exactly: "Encode: record, 13, 11. Decode: record, 12, 13, 11."
-- In order: in_row, in-row-4, in-row-2-2, in-row-5; Encodes, encoded-exact, encode-calls; Decodes, decoded-exact,
-- decode-calls; judged-late, fields-packed, fields-refused, checked-calls.
-- Assumes nothing.
use Rattle.std.proofs.Common.{◌≡◌, ◌↔◌, ◌+◌, ◌-◌, ◌^◌, ◌≤◌, ◌<◌}
use Rattle.laws.proofs.All.{refl, sym, ap, subst, ◌∙◌, List, ℕ, arith, leb, length}
use Rattle.laws.proofs.All.{get_or, take, Below}
use Rattle.answer.specs.declared.Refusal.{Refusal}
use Rattle.answer.specs.declared.Refusal.TheVariants.{Disobeys, WindowFails, BadByte, TooFewWords, ShortOutput}
use Rattle.answer.specs.Refusals.{number_of}
use Rattle.answer.specs.Outcomes.{Outcome, done, refused, unless, onward}
use Rattle.answer.specs.FirstBad.{all_below}
use Rattle.answer.proofs.Due.{told-le, done-past, refused-past, refused-here, never-past, below-exact, bad-exact}
use Rattle.answer.proofs.Due.{never-bad}
use Rattle.answer.proofs.RefusedOutcomes.{Refuses, refuses-done, refuses-unless}
use Rattle.table.specs.Rows.{Code}
use Rattle.table.specs.Paths.{recording}
use Rattle.table.specs.Formed.{Formed}
use Rattle.table.proofs.Formed.{→formed}
use Rattle.window.specs.Works.{works}
use Rattle.record_obeys.specs.Obeys.{obeys}
use Rattle.record.specs.Layout.{pack}
use Rattle.record.specs.Checks.{fields_checked}
use Rattle.record.proofs.RecordWrite.{fields-pack}
use Rattle.record_check.specs.Parse.{judged, parse}
use Rattle.codec_steps.specs.Reading.{decode}
use Rattle.codec.specs.Answers.{encoded, decoded, encode_under, decode_under, encode_checked, decode_checked}

-- ---- what is said check by check, in one row
in_row : {O A B C : Type 0} → O ↔ (A × (B × C)) → O ↔ (A × B × C)
in_row (f, g) = ((λ o. let (a, (b, c)) = f o in (a, b, c)), (λ (a, b, c). g (a, (b, c))))

in-row-4 : {O A B C D : Type 0} → O ↔ (A × (B × C × D)) → O ↔ (A × B × C × D)
in-row-4 (f, g) = ((λ o. let (a, (b, c, d)) = f o in (a, b, c, d)), (λ (a, b, c, d). g (a, (b, c, d))))

in-row-2-2 : {O A B C D : Type 0} → O ↔ (A × (B × (C × D))) → O ↔ (A × B × C × D)
in-row-2-2 (f, g) = ((λ o. let (a, (b, (c, d))) = f o in (a, b, c, d)), (λ (a, b, c, d). g (a, (b, (c, d)))))

in-row-5 : {O A B C D E : Type 0} → O ↔ (A × (B × (C × D × E))) → O ↔ (A × B × C × D × E)
in-row-5 (f, g) =
    ((λ o. let (a, (b, (c, d, e))) = f o in (a, b, c, d, e)), (λ (a, b, c, d, e). g (a, (b, (c, d, e)))))

-- ---- encoding
-- when an outcome is done, and when it is refused with 13 and 11, under a code
abbrev pub Encodes : Code → ℕ → List ℕ → Outcome (List ℕ) → Type 0
Encodes c room ds o =
    let n = length ds + c.window.lookahead in
    ((R : List ℕ) → (o ≡ done R) ↔ ((n ≤ room) × Below (2 ^ c.p) ds × (recording c ds ≡ R)))
    × ((o ≡ refused ShortOutput) ↔ (room < n))
    × ((k : ℕ) → (o ≡ refused (BadByte k))
    ↔ ((n ≤ room) × (k < length ds) × Below (2 ^ c.p) (take k ds) × (2 ^ c.p ≤ get_or ds k 0)))

encoded-exact : (c : Code) (room : ℕ) (ds : List ℕ) → Encodes c room ds (encoded c room ds)
unfolding encoded
encoded-exact c room ds =
    let n = length ds + c.window.lookahead in
    let b = 2 ^ c.p in
    let last = all_below b ds (recording c ds) in (
      (λ R. in_row (done-past ShortOutput (leb n room) last (told-le n room) R
          (below-exact b ds (recording c ds) R))),
      refused-here ShortOutput (leb n room) last (told-le n room)
          (never-bad b ds (recording c ds) ShortOutput (λ e. omega arith)),
      (λ k. in-row-4 (refused-past ShortOutput (leb n room) last (told-le n room) (BadByte k) (λ e. omega arith)
          (bad-exact b ds (recording c ds) k))),
    )

pub encode-calls : (rec : List ℕ) (room : ℕ) (ds : List ℕ)
    → ((c : Code) → parse rec ≡ done c → Encodes c room ds (encode_under rec room ds))
    × ((r : Refusal) → parse rec ≡ refused r → encode_under rec room ds ≡ refused r)
unfolding encode_under
encode-calls rec room ds = (
  (λ c p. subst (Encodes c room ds) (sym (ap (λ o. onward o (λ c. encoded c room ds)) p)) (encoded-exact c room ds)),
  (λ r p. ap (λ o. onward o (λ c. encoded c room ds)) p),
)

-- ---- decoding
abbrev pub Decodes : Code → ℕ → List ℕ → Outcome (List ℕ) → Type 0
Decodes c room L o =
    let a = c.window.lookahead in
    let W = length L in
    ((out : List ℕ) → (o ≡ done out) ↔ ((a ≤ W) × (W - a ≤ room) × Below (2 ^ c.q) L × (decode c L ≡ out)))
    × ((o ≡ refused TooFewWords) ↔ (W < a))
    × ((o ≡ refused ShortOutput) ↔ ((a ≤ W) × (room < W - a)))
    × ((k : ℕ) → (o ≡ refused (BadByte k))
    ↔ ((a ≤ W) × (W - a ≤ room) × (k < W) × Below (2 ^ c.q) (take k L) × (2 ^ c.q ≤ get_or L k 0)))

decoded-exact : (c : Code) (room : ℕ) (L : List ℕ) → Decodes c room L (decoded c room L)
unfolding decoded
decoded-exact c room L =
    let a = c.window.lookahead in
    let W = length L in
    let b = 2 ^ c.q in
    let last = all_below b L (decode c L) in
    let fits = unless ShortOutput (leb (W - a) room) last in (
      (λ out. in-row-2-2 (done-past TooFewWords (leb a W) fits (told-le a W) out
          (done-past ShortOutput (leb (W - a) room) last (told-le (W - a) room) out
          (below-exact b L (decode c L) out)))),
      refused-here TooFewWords (leb a W) fits (told-le a W)
          (never-past ShortOutput (leb (W - a) room) last TooFewWords (λ e. omega arith)
          (never-bad b L (decode c L) TooFewWords (λ e. omega arith))),
      refused-past TooFewWords (leb a W) fits (told-le a W) ShortOutput (λ e. omega arith)
          (refused-here ShortOutput (leb (W - a) room) last (told-le (W - a) room)
          (never-bad b L (decode c L) ShortOutput (λ e. omega arith))),
      (λ k. in-row-5 (refused-past TooFewWords (leb a W) fits (told-le a W) (BadByte k) (λ e. omega arith)
          (refused-past ShortOutput (leb (W - a) room) last (told-le (W - a) room) (BadByte k) (λ e. omega arith)
          (bad-exact b L (decode c L) k)))),
    )

pub decode-calls : (rec : List ℕ) (room : ℕ) (L : List ℕ)
    → ((c : Code) → parse rec ≡ done c → Decodes c room L (decode_under rec room L))
    × ((r : Refusal) → parse rec ≡ refused r → decode_under rec room L ≡ refused r)
unfolding decode_under
decode-calls rec room L = (
  (λ c p. subst (Decodes c room L) (sym (ap (λ o. onward o (λ c. decoded c room L)) p)) (decoded-exact c room L)),
  (λ r p. ap (λ o. onward o (λ c. decoded c room L)) p),
)

-- ---- under a record that is trusted: 9 and 10 are not looked at
abbrev late : Refusal → Type 0
late r = 9 ≤ number_of r

judged-late : (c : Code) → Refuses late (judged c)
judged-late c =
    refuses-unless late Disobeys (obeys c) _ (omega arith)
    (refuses-unless late WindowFails (works c.table c.window) _ (omega arith) (refuses-done late c))

fields-packed : (c : Code) (rec : List ℕ) → Formed c → pack c ≡ rec → fields_checked rec ≡ done c
fields-packed c rec f e = ap fields_checked (sym e) ∙ fields-pack c (→formed c f)

-- a refusal by 7 or 8 is that of the fields
fields-refused : (rec : List ℕ) (r : Refusal) → parse rec ≡ refused r → number_of r ≤ 8 → fields_checked rec ≡ refused r
unfolding parse
fields-refused rec r e h = go (fields_checked rec) e
  where
    go : (o : Outcome Code) → onward o judged ≡ refused r → o ≡ refused r
    go (done c) e = let n = judged-late c r e in absurd (omega arith)
    go (refused s) e = e

pub checked-calls : (rec : List ℕ) (room : ℕ) (ys : List ℕ)
    → ((c : Code) → Formed c → pack c ≡ rec
    → Encodes c room ys (encode_checked rec room ys) × Decodes c room ys (decode_checked rec room ys))
    × ((r : Refusal) → parse rec ≡ refused r → number_of r ≤ 8
    → (encode_checked rec room ys ≡ refused r) × (decode_checked rec room ys ≡ refused r))
unfolding encode_checked decode_checked
checked-calls rec room ys = (
  (λ c f e. let p = fields-packed c rec f e in (rw p (encoded-exact c room ys), rw p (decoded-exact c room ys))),
  (λ r e h. let p = fields-refused rec r e h in (rw p refl, rw p refl)),
)
