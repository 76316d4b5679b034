-- Refusals 7 and 8 of a record come exactly as the first check that its fields, by their places, do not meet says.
-- In order: facts, Front, told-head, Next, next-fact, Rest, told-rest, what the tests say; refused-at, record-fields.
-- Assumes nothing.
use Rattle.std.proofs.Common.{◌≡◌, ◌⊎◌, ◌↔◌, ◌&&◌, ◌∷◌, ◌+◌, ◌*◌, ◌^◌, ◌≤◌, ◌<◌}
use Rattle.laws.proofs.All.{refl, sym, subst, ◌∙◌, inl, inr, Bool, false, List, [], ℕ, zero}
use Rattle.laws.proofs.All.{suc, arith, T, leb, ltb, eqb, eqb→eq, ltb→lt, lt→ltb, length}
use Rattle.laws.proofs.All.{all, range, all-below→, →all-below, Below}
use Rattle.answer.specs.declared.Refusal.{Refusal}
use Rattle.answer.specs.declared.Refusal.TheVariants.{Field, Length, Disobeys, WindowFails}
use Rattle.answer.specs.Refusals.{number_of}
use Rattle.answer.specs.Outcomes.{done, refused}
use Rattle.answer.specs.Orders.{check, First}
use Rattle.answer.proofs.Due.{Told, told-le, told-lt, told-eq, told_and, never-past, never_done, refused-first}
use Rattle.answer.proofs.Orders.{first-none, first-unless}
use Rattle.bits.specs.Fields.{bits_of, field}
use Rattle.table.specs.Rows.{Code}
use Rattle.table.specs.declared.Head.{Head}
use Rattle.window.specs.Works.{works}
use Rattle.record_obeys.specs.Obeys.{obeys}
use Rattle.record.specs.Layout.{bit_count, size, fill}
use Rattle.record.specs.Parse.{good_head, good_field}
use Rattle.record.specs.Checks.{rest_good, fields_checked}
use Rattle.record.specs.Places.{good_at, good_target_at}
use Rattle.record.proofs.RecordChecks.{rest-checked}
use Rattle.record.proofs.RecordReading.{below-bytes}
use Rattle.record_check.specs.Parse.{judged, parse}
use Rattle.record_check.proofs.Fields.{head_at, at_places, one_bit}

-- ---- what the tests say
facts : {P : Type 0} (b : Bool) → T b ↔ P → Told b P (b ≡ false)
facts b k = record { passes = k; fails = ((λ e. e), (λ e. e)) }

-- "p (1 to 4), q (1 to 8)", a start that is a constraint state, a tail datum below 2^p
abbrev Front : Head → Type 0
Front h =
    (1 ≤ h.p) × (h.p ≤ 4) × (1 ≤ h.q) × (h.q ≤ 8) × (h.start < h.count) × (h.tail < 2 ^ h.p)

told-head : (h : Head) → Told (good_head h) (Front h) (good_head h ≡ false)
told-head h =
    let t = told_and (leb 1 h.p && leb h.p 4)
    ((leb 1 h.q && leb h.q 8) && (ltb h.start h.count && ltb h.tail (2 ^ h.p)))
    (told_and (leb 1 h.p) (leb h.p 4) (told-le 1 h.p) (told-le h.p 4))
    (told_and (leb 1 h.q && leb h.q 8) (ltb h.start h.count && ltb h.tail (2 ^ h.p))
    (told_and (leb 1 h.q) (leb h.q 8) (told-le 1 h.q) (told-le h.q 8))
    (told_and (ltb h.start h.count) (ltb h.tail (2 ^ h.p)) (told-lt h.start h.count)
    (told-lt h.tail (2 ^ h.p)))) in
    facts (good_head h) (
      (λ u. let ((a, b), ((c, d), (e, f))) = t.passes.0 u in (a, b, c, d, e, f)),
      (λ (a, b, c, d, e, f). t.passes.1 ((a, b), ((c, d), (e, f)))),
    )

-- "present 1, next state 4 (0 if absent)": an absent state is 0, and a present one is one of K
abbrev Next : ℕ → ℕ → ℕ → Type 0
Next K b s = ((b ≡ 0) × (s ≡ 0)) ⊎ ((b ≡ 1) × (s < K))

next-fact : (K b s : ℕ) → b < 2 → T (good_field K b s) ↔ Next K b s
next-fact K zero s h = (
  (λ t. inl (refl, eqb→eq s 0 t)),
  (λ x. elim x [ inl (_, e) ↦ (told-eq s 0).passes.1 e | inr (e, _) ↦ absurd (omega arith) ]),
)
next-fact K (suc zero) s h = (
  (λ t. inr (refl, ltb→lt s K t)),
  (λ x. elim x [ inl (e, _) ↦ absurd (omega arith) | inr (_, l) ↦ lt→ltb s K l ]),
)
next-fact K (suc (suc b)) s h = absurd (omega arith)

-- next states and targets are states, absent states are 0 and the fill is 0
abbrev Rest : Head → List ℕ → Type 0
Rest h B =
    ((i : ℕ) → i < 2 * h.count → let o = 34 + i * 5 in Next h.count (field B o 1) (field B (o + 1) 4))
    × ((e : ℕ) → e < h.states * 2 ^ h.p
    → field B (34 + 10 * h.count + h.q + e * (h.q + 7)) 7 < h.states)
    × (field B (bit_count h) (fill h) ≡ 0)

module _ (h : Head) (B : List ℕ) (two : Below 2 B) where
  abbrev nexts : Bool
  nexts = all (good_at B h.count) (range (2 * h.count))

  abbrev targets : Bool
  targets = all (good_target_at B h) (range (h.states * 2 ^ h.p))

  abbrev filled : Bool
  filled = eqb (field B (bit_count h) (fill h)) 0

  nexts-fact : T nexts
      ↔ ((i : ℕ) → i < 2 * h.count → let o = 34 + i * 5 in Next h.count (field B o 1) (field B (o + 1) 4))
  nexts-fact =
      let K = h.count in (
        (λ t i l. (next-fact K _ _ (one_bit B two (34 + i * 5))).0 (all-below→ (good_at B K) (2 * K) t i l)),
        (λ f. →all-below (good_at B K) (2 * K) (λ i l. (next-fact K _ _ (one_bit B two (34 + i * 5))).1 (f i l))),
      )

  place : (e : ℕ) → 34 + h.count * 10 + h.q + e * (h.q + 7) ≡ 34 + 10 * h.count + h.q + e * (h.q + 7)
  place e = omega arith

  targets-fact : T targets
      ↔ ((e : ℕ) → e < h.states * 2 ^ h.p → field B (34 + 10 * h.count + h.q + e * (h.q + 7)) 7 < h.states)
  targets-fact =
      let n = h.states * 2 ^ h.p in (
        (λ t e l. subst (λ o. field B o 7 < h.states) (place e)
            (ltb→lt _ h.states (all-below→ (good_target_at B h) n t e l))),
        (λ f. →all-below (good_target_at B h) n
            (λ e l. lt→ltb _ h.states (subst (λ o. field B o 7 < h.states) (sym (place e)) (f e l)))),
      )

  told-rest : Told (rest_good h B) (Rest h B) (rest_good h B ≡ false)
  told-rest =
      let e : rest_good h B ≡ (nexts && (targets && filled)) =
      rest-checked h B (2 ^ h.p) nexts targets refl refl refl in
      let t = told_and nexts (targets && filled) (facts nexts nexts-fact)
      (told_and targets filled (facts targets targets-fact) (told-eq (field B (bit_count h) (fill h)) 0)) in
      facts (rest_good h B) (
        (λ u. let (n, (g, f)) = t.passes.0 (subst T e u) in (n, g, f)),
        (λ (n, g, f). subst T (sym e) (t.passes.1 (n, (g, f)))),
      )

-- ---- refusals 7 and 8
module _ (xs : List ℕ) (r : Refusal) where
  refused-at : let B = bits_of xs in let h = head_at B in (fields_checked xs ≡ refused r)
      ↔ First (check Length (5 ≤ length xs) ∷ check Field (Front h) ∷ check Length (length xs ≡ size h)
      ∷ check Field (Rest h B) ∷ []) r
  refused-at =
      let n = length xs in
      let B = bits_of xs in
      let h = head_at B in
      let (f, g) =
      first-unless Length (leb 5 n) _ r (told-le 5 n)
      (first-unless Field (good_head h) _ r (told-head h)
      (first-unless Length (eqb n (size h)) _ r (told-eq n (size h))
      (first-unless Field (rest_good h B) _ r (told-rest h B (below-bytes xs)) (first-none _ r)))) in
      ((λ e. f (sym (at_places xs) ∙ e)), (λ x. at_places xs ∙ g x))

  -- THEOREM: "the first check is 8 below five", then "header by 7, 8, the rest by 7"
  pub record-fields : (number_of r ≡ 7) ⊎ (number_of r ≡ 8) → let B = bits_of xs in let h = head_at B in
      (parse xs ≡ refused r)
      ↔ First (check Length (5 ≤ length xs) ∷ check Field (Front h) ∷ check Length (length xs ≡ size h)
      ∷ check Field (Rest h B) ∷ []) r
  unfolding parse
  record-fields m =
      let (f, g) = refused-first (fields_checked xs) judged r later in
      let (u, v) = refused-at in
      ((λ e. u (f e)), (λ x. g (v x)))
    where
      later : (c : Code) → judged c ≡ refused r → ⊥
      later c =
          never-past Disobeys (obeys c) _ r (λ e. elim m [ inl a ↦ omega arith | inr a ↦ omega arith ])
          (never-past WindowFails (works c.table c.window) (done c) r
          (λ e. elim m [ inl a ↦ omega arith | inr a ↦ omega arith ]) (never_done c r))
