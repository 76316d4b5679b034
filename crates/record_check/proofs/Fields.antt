-- A record by the places of its fields: the code that is read has the numbers, the next states and the edges that stand
-- there.
-- In order: head_at, head-at, at_places, the numbers in front; one_bit; opened-fact, next-in; code-at, record-numbers,
-- record-table.
-- Assumes nothing.
use Rattle.std.proofs.Common.{◌≡◌, ◌⊎◌, ◌+◌, ◌*◌, ◌^◌, ◌<◌, if◌then◌else◌}
use Rattle.laws.proofs.All.{refl, sym, ap, ap₂, subst, ◌∙◌, inl, inr, List, ℕ, zero, suc}
use Rattle.laws.proofs.All.{arith, leb, eqb, lit<, length, drop, Below, below-drop}
use Rattle.answer.specs.declared.Refusal.TheVariants.{Field, Length, Disobeys, WindowFails}
use Rattle.answer.specs.Outcomes.{done, unless}
use Rattle.answer.proofs.Outcomes.{done_inj, unless→, onward→}
use Rattle.bits.specs.Fields.{read, bits_of, field}
use Rattle.bits.proofs.Fields.{read_at, value-take}
use Rattle.constraint.specs.Walking.{nowhere, after}
use Rattle.table.specs.Rows.{Code, edges, at}
use Rattle.table.specs.declared.Head.{Head}
use Rattle.table.proofs.Formed.{formed→}
use Rattle.table.proofs.Shape.{full}
use Rattle.window.specs.Works.{works}
use Rattle.record_obeys.specs.Obeys.{obeys}
use Rattle.record.specs.Layout.{header, head_of, size, opened}
use Rattle.record.specs.Parse.{good_head}
use Rattle.record.specs.Checks.{code_at, rest_good, fields_good, fields_checked}
use Rattle.record.proofs.RecordAgain.{length-nexts_of, length-rows_of}
use Rattle.record.proofs.RecordPlaces.{next_at, constraint-at, table_at}
use Rattle.record.proofs.RecordReading.{below-bytes}
use Rattle.record_check.specs.Parse.{judged, parse}
use Rattle.record_check.proofs.Parse.{parse-formed}

-- ---- the numbers in front
-- "p 3 bits, q 4, states less one 7, m 4, a 4, K less one 4, constraint start 4", and the tail datum, "4 bits"
abbrev pub head_at : List ℕ → Head
head_at B = record {
  p = field B 0 3;
  q = field B 3 4;
  states = field B 7 7 + 1;
  memory = field B 14 4;
  lookahead = field B 18 4;
  count = field B 22 4 + 1;
  start = field B 26 4;
  tail = field B 30 4;
}

head-at : (B : List ℕ) → head_of (read header B) ≡ head_at B
head-at B =
    let e₂ = read_at header B 2 (lit< tt) in
    let e₃ = read_at header B 3 (lit< tt) in
    let e₄ = read_at header B 4 (lit< tt) in
    let e₅ = read_at header B 5 (lit< tt) in
    let e₆ = read_at header B 6 (lit< tt) in
    let e₇ = read_at header B 7 (lit< tt) in
    cc

-- the checks of the fields, by these numbers
pub at_places : (xs : List ℕ) → let B = bits_of xs in fields_checked xs
    ≡ unless Length (leb 5 (length xs)) (fields_good (length xs) (head_at B) B)
unfolding fields_checked
at_places xs =
    ap (λ h. unless Length (leb 5 (length xs)) (fields_good (length xs) h (bits_of xs))) (head-at (bits_of xs))

-- a field of one bit
pub one_bit : (B : List ℕ) → Below 2 B → (o : ℕ) → field B o 1 < 2
one_bit B two o = value-take 1 (drop o B) (below-drop 2 o B two)

-- ---- a record that is accepted
opened-fact : (b s : ℕ) → b < 2 → ((b ≡ 0) × (opened b s ≡ 255)) ⊎ ((b ≡ 1) × (opened b s ≡ s))
opened-fact zero s h = inl (refl, refl)
opened-fact (suc zero) s h = inr (refl, refl)
opened-fact (suc (suc b)) s h = absurd (omega arith)

-- the two fields of a next state
next-in : (B : List ℕ) (s b : ℕ) → b < 2 → let r = next_at B (34 + s * 10) in let o = 34 + 10 * s + 5 * b in
    (if eqb b 0 then r.zero else r.one) ≡ opened (field B o 1) (field B (o + 1) 4)
next-in B s zero h =
    let e : 34 + s * 10 ≡ 34 + 10 * s + 5 * 0 = omega arith in
    ap (λ o. opened (field B o 1) (field B (o + 1) 4)) e
next-in B s (suc zero) h =
    let e : 34 + s * 10 + 5 ≡ 34 + 10 * s + 5 * 1 = omega arith in
    let f : 34 + s * 10 + 6 ≡ 34 + 10 * s + 5 * 1 + 1 = omega arith in
    ap₂ (λ o u. opened (field B o 1) (field B u 4)) e f
next-in B s (suc (suc b)) h = absurd (omega arith)

module _ (xs : List ℕ) (c : Code) (e : parse xs ≡ done c) where
  code-at : c ≡ code_at (head_at (bits_of xs)) (bits_of xs)
  unfolding parse
  code-at =
      let n = length xs in
      let B = bits_of xs in
      let h = head_at B in
      let (d, e₀, e₁) = onward→ (fields_checked xs) judged c e in
      let (_, e₂) = unless→ Disobeys (obeys d) _ c e₁ in
      let (_, e₃) = unless→ WindowFails (works d.table d.window) _ c e₂ in
      let (_, f₁) = unless→ Length (leb 5 n) _ d (sym (at_places xs) ∙ e₀) in
      let (_, f₂) = unless→ Field (good_head h) _ d f₁ in
      let (_, f₃) = unless→ Length (eqb n (size h)) _ d f₂ in
      let (_, f₄) = unless→ Field (rest_good h B) _ d f₃ in
      sym (done_inj d c e₃) ∙ sym (done_inj (code_at h B) d f₄)

  -- THEOREM: its numbers are the fields in front
  pub record-numbers : let B = bits_of xs in (c.p ≡ field B 0 3) × (c.q ≡ field B 3 4)
      × (length c.table ≡ field B 7 7 + 1) × (c.window.memory ≡ field B 14 4)
      × (c.window.lookahead ≡ field B 18 4) × (length c.constraint ≡ field B 22 4 + 1)
      × (c.start ≡ field B 26 4) × (c.tail ≡ field B 30 4)
  record-numbers =
      let h = head_at (bits_of xs) in (
        ap (λ c. c.p) code-at,
        ap (λ c. c.q) code-at,
        ap (λ c. length c.table) code-at ∙ length-rows_of h.states (2 ^ h.p) _,
        ap (λ c. c.window.memory) code-at,
        ap (λ c. c.window.lookahead) code-at,
        ap (λ c. length c.constraint) code-at ∙ length-nexts_of h.count _,
        ap (λ c. c.start) code-at,
        ap (λ c. c.tail) code-at,
      )

  -- THEOREM: its next states and its edges, 2^p a state, are the fields behind them
  pub record-table : let B = bits_of xs in let p = field B 0 3 in let q = field B 3 4 in let K = field B 22 4 + 1 in
      ((s b : ℕ) → s < K → b < 2 → let o = 34 + 10 * s + 5 * b in let t = after c.constraint s b in
      ((field B o 1 ≡ 0) × (t ≡ 255)) ⊎ ((field B o 1 ≡ 1) × (t ≡ field B (o + 1) 4)))
      × ((s d : ℕ) → s < field B 7 7 + 1 → d < 2 ^ p → let o = 34 + 10 * K + (s * 2 ^ p + d) * (q + 7) in
      ((at c.table s d).word ≡ field B o q) × ((at c.table s d).next ≡ field B (o + q) 7))
      × ((s : ℕ) → s < field B 7 7 + 1 → length (edges c.table s) ≡ 2 ^ p)
  record-table = (states, rows, long)
    where
      B : List ℕ
      B = bits_of xs

      h : Head
      h = head_at B

      states : (s b : ℕ) → s < h.count → b < 2 → let o = 34 + 10 * s + 5 * b in let t = after c.constraint s b in
          ((field B o 1 ≡ 0) × (t ≡ 255)) ⊎ ((field B o 1 ≡ 1) × (t ≡ field B (o + 1) 4))
      states s b l k =
          let o = 34 + 10 * s + 5 * b in
          let q : after c.constraint s b ≡ opened (field B o 1) (field B (o + 1) 4) =
          ap (λ c. after c.constraint s b) code-at
          ∙ ap (λ r. if eqb b 0 then r.zero else r.one) (constraint-at h B s nowhere l) ∙ next-in B s b k in
          subst (λ t. ((field B o 1 ≡ 0) × (t ≡ 255)) ⊎ ((field B o 1 ≡ 1) × (t ≡ field B (o + 1) 4))) (sym q)
          (opened-fact (field B o 1) (field B (o + 1) 4) (one_bit B (below-bytes xs) o))

      rows : (s d : ℕ) → s < h.states → d < 2 ^ h.p
          → let o = 34 + 10 * h.count + (s * 2 ^ h.p + d) * (h.q + 7) in
          ((at c.table s d).word ≡ field B o h.q) × ((at c.table s d).next ≡ field B (o + h.q) 7)
      rows s d l k =
          let u : 34 + h.count * 10 + (s * 2 ^ h.p + d) * (h.q + 7)
          ≡ 34 + 10 * h.count + (s * 2 ^ h.p + d) * (h.q + 7) = omega arith in
          let q = ap (λ c. at c.table s d) code-at ∙ table_at h B s d l k in
          (ap (λ g. g.word) q ∙ ap (λ o. field B o h.q) u, ap (λ g. g.next) q ∙ ap (λ o. field B (o + h.q) 7) u)

      long : (s : ℕ) → s < h.states → length (edges c.table s) ≡ 2 ^ h.p
      long s l =
          let f = full c.p c.q (length c.table) c.table (formed→ c (parse-formed xs c e)).rows in
          f s (rw record-numbers.2 l) ∙ ap (λ k. 2 ^ k) record-numbers.0
