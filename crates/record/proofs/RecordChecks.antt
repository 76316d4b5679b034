-- The checks of a record's fields as tests of numbered fields, each by its bit place.
-- In order: all_split, all-shift; states-checked, targets-checked, fill-checked; rest-checked,
-- states-fail, targets-fail, targets-pass.
-- Assumes nothing.
use Rattle.std.proofs.Common.{◌≡◌, ◌&&◌, ◌∷◌, ◌++◌, ◌+◌, ◌*◌, ◌^◌}
use Rattle.laws.proofs.All.{refl, sym, ap, ap₂, ◌∙◌, Bool, and_assoc, and-true, List, []}
use Rattle.laws.proofs.All.{append_assoc, ℕ, zero, suc, zero-mul, suc-mul, add-zero, zero-add, arith}
use Rattle.laws.proofs.All.{ltb, eqb, get_or, take, drop, drop-drop, all, from, range, repeat, length-repeat}
use Rattle.laws.proofs.All.{sum-repeat, true, false}
use Rattle.bits.specs.Fields.{field, value, read}
use Rattle.table.specs.declared.Head.{Head}
use Rattle.record.specs.Layout.{header_bits, header_fields, state_size, bit_count, fill, widths, edges_of, rows_of}
use Rattle.record.specs.Parse.{good_field, good_fields, good_target, filler}
use Rattle.record.specs.Checks.{code_at, rest_good}
use Rattle.record.specs.Places.{good_at, edges_place, good_target_at}
use Rattle.record.proofs.RecordPlaces.{behind, behind-head}

-- a test of a + b numbers in a row
pub all_split : (p : ℕ → Bool) (i a b : ℕ) → all p (from i (a + b)) ≡ (all p (from i a) && all p (from (i + a) b))
all_split p i zero b = rw (zero-add, add-zero)
all_split p i (suc a) b =
    let e : suc a + b ≡ suc (a + b) = omega arith in
    let f : suc i + a ≡ i + suc a = omega arith in
    rw e (ap (λ x. p i && x) (all_split p (suc i) a b ∙ ap (λ m. all p (from (suc i) a) && all p (from m b)) f)
    ∙ sym (and_assoc (p i) (all p (from (suc i) a)) (all p (from (i + suc a) b))))

-- a test of the numbers from k on is another test from 0 on
pub all-shift : (p q : ℕ → Bool) (k i n : ℕ) → ((j : ℕ) → p (k + j) ≡ q j) → all p (from (k + i) n) ≡ all q (from i n)
all-shift p q k i zero h = refl
all-shift p q k i (suc n) h =
    let e : suc (k + i) ≡ k + suc i = omega arith in
    ap₂ ◌&&◌ (h i) (ap (λ m. all p (from m n)) e ∙ all-shift p q k (suc i) n h)

-- ---- the constraint's fields
abbrev next_good : List ℕ → ℕ → ℕ → ℕ → Bool
next_good bs K o i = good_field K (field bs (o + i * 5) 1) (field bs (o + i * 5 + 1) 4)

-- bits dropped twice
past : (bs : List ℕ) (k o m : ℕ) → o + k ≡ m → drop k (drop o bs) ≡ drop m bs
past bs k o m e = rw (drop-drop k o bs, e)

module _ (bs us : List ℕ) (K : ℕ) where
  five : (o : ℕ) → drop 4 (drop 1 (drop o bs)) ≡ drop (o + 5) bs
  five o = ap (drop 4) (past bs 1 o (o + 1) refl) ∙ past bs 4 (o + 1) (o + 5) (omega arith)

  next-good : (o i m : ℕ) → o + i * 5 ≡ m
      → good_field K (value (take 1 (drop m bs))) (value (take 4 (drop 1 (drop m bs)))) ≡ next_good bs K o i
  next-good o i m e =
      rw (past bs 1 m (o + i * 5 + 1) (omega arith), e)

  states-good : (n o : ℕ) → good_fields K n (read (repeat n (1 ∷ 4 ∷ 1 ∷ 4 ∷ []) ++ us) (drop o bs))
      ≡ all (next_good bs K o) (range (2 * n))
  states-good zero o = refl
  states-good (suc n) o =
      let e : 2 * suc n ≡ 2 + 2 * n = omega arith in
      let z : o + 0 * 5 ≡ o = omega arith in
      let w : o + 1 * 5 ≡ o + 5 = omega arith in
      let t : o + 5 + 5 ≡ o + 10 = omega arith in
      let d : drop 4 (drop 1 (drop 4 (drop 1 (drop o bs)))) ≡ drop (o + 10) bs =
      ap (λ l. drop 4 (drop 1 l)) (five o) ∙ five (o + 5) ∙ ap (λ m. drop m bs) t in
      ap₂ (λ u v. (good_field K (value (take 1 (drop o bs))) (value (take 4 (drop 1 (drop o bs))))
      && good_field K (value (take 1 u)) (value (take 4 (drop 1 u))))
      && good_fields K n (read (repeat n (1 ∷ 4 ∷ 1 ∷ 4 ∷ []) ++ us) v)) (five o) d
      ∙ ap₂ ◌&&◌ (ap₂ ◌&&◌ (next-good o 0 o z) (next-good o 1 (o + 5) w ∙ sym (and-true (next_good bs K o 1))))
      (states-good n (o + 10) ∙ sym (all-shift (next_good bs K o) (next_good bs K (o + 10)) 2 0 (2 * n) (shifted o)))
      ∙ sym (ap (λ m. all (next_good bs K o) (range m)) e ∙ all_split (next_good bs K o) 0 2 (2 * n))
    where
      shifted : (o j : ℕ) → next_good bs K o (2 + j) ≡ next_good bs K (o + 10) j
      shifted o j = let e : o + (2 + j) * 5 ≡ o + 10 + j * 5 = omega arith in rw e

-- the check of the constraint's fields
pub states-checked : (h : Head) (bs : List ℕ)
    → good_fields h.count h.count (drop header_fields (read (widths h) bs))
    ≡ all (good_at bs h.count) (range (2 * h.count))
states-checked h bs = rw (behind-head h bs) (states-good bs _ h.count h.count header_bits)

-- ---- the edges' fields
module _ (bs : List ℕ) (q S : ℕ) where
  abbrev target_good : ℕ → ℕ → Bool
  target_good o e = ltb (field bs (o + q + e * (q + 7)) 7) S

  moved : (o k j : ℕ) → target_good o (k + j) ≡ target_good (o + k * (q + 7)) j
  moved o k j =
      let e : o + q + (k + j) * (q + 7) ≡ o + k * (q + 7) + q + j * (q + 7) = omega arith in rw e

  edges-good : (n o : ℕ) (us : List ℕ) → all (good_target S)
      (edges_of n (read (repeat n (q ∷ 7 ∷ []) ++ us) (drop o bs)))
      ≡ all (target_good o) (range n)
  edges-good zero o us = refl
  edges-good (suc n) o us =
      let z : o + q ≡ o + q + 0 * (q + 7) = omega arith in
      let d : drop 7 (drop q (drop o bs)) ≡ drop (o + 1 * (q + 7)) bs =
      ap (drop 7) (past bs q o (o + q) refl) ∙ past bs 7 (o + q) (o + 1 * (q + 7)) (omega arith) in
      ap₂ ◌&&◌ (ap (λ l. ltb (value (take 7 l)) S) (past bs q o (o + q + 0 * (q + 7)) z))
      (ap (λ l. all (good_target S) (edges_of n (read (repeat n (q ∷ 7 ∷ []) ++ us) l))) d
      ∙ edges-good n (o + 1 * (q + 7)) us
      ∙ sym (all-shift (target_good o) (target_good (o + 1 * (q + 7))) 1 0 n (moved o 1)))

  rows-good : (s n o : ℕ) (us : List ℕ)
      → all (all (good_target S)) (rows_of s n (read (repeat s (repeat n (q ∷ 7 ∷ [])) ++ us) (drop o bs)))
      ≡ all (target_good o) (range (s * n))
  rows-good zero n o us = rw (zero-mul n)
  rows-good (suc s) n o us =
      let A = repeat n (q ∷ 7 ∷ []) in
      let B = repeat s (repeat n (q ∷ 7 ∷ [])) in
      let e : suc s * n ≡ n + s * n = omega (arith, suc-mul s n) in
      let z : 0 + n ≡ n + 0 = omega arith in
      ap (λ ws. all (all (good_target S)) (rows_of (suc s) n (read ws (drop o bs)))) (append_assoc A B us)
      ∙ ap₂ ◌&&◌ (edges-good n o (B ++ us))
      (ap (λ vs. all (all (good_target S)) (rows_of s n vs)) (behind n (n * 2) (q ∷ 7 ∷ []) (B ++ us) (drop o bs) refl
      ∙ ap (read (B ++ us)) (past bs (n * (q + 7)) o (o + n * (q + 7)) refl))
      ∙ rows-good s n (o + n * (q + 7)) us
      ∙ sym (all-shift (target_good o) (target_good (o + n * (q + 7))) n 0 (s * n) (moved o n)))
      ∙ sym (ap (λ m. all (target_good o) (range m)) e ∙ all_split (target_good o) 0 n (s * n)
      ∙ ap (λ m. all (target_good o) (range n) && all (target_good o) (from m (s * n))) z)

-- after the constraint's fields
behind-states : (h : Head) (bs : List ℕ) → drop (h.count * 4) (drop header_fields (read (widths h) bs))
    ≡ read (repeat h.states (repeat (2 ^ h.p) (h.q ∷ 7 ∷ [])) ++ (fill h ∷ [])) (drop (edges_place h) bs)
behind-states h bs =
    let us = repeat h.states (repeat (2 ^ h.p) (h.q ∷ 7 ∷ [])) ++ (fill h ∷ []) in
    rw (behind-head h bs) (behind h.count (h.count * 4) (1 ∷ 4 ∷ 1 ∷ 4 ∷ []) us (drop header_bits bs) refl
    ∙ ap (read us) (past bs (h.count * state_size) header_bits (edges_place h) refl))

-- the check of the edges' targets
pub targets-checked : (h : Head) (bs : List ℕ)
    → all (all (good_target h.states)) (code_at h bs).table ≡ all (good_target_at bs h) (range (h.states * 2 ^ h.p))
targets-checked h bs =
    rw (behind-states h bs) (rows-good bs h.q h.states h.states (2 ^ h.p) (edges_place h) (fill h ∷ []))

-- the fill
pub fill-checked : (h : Head) (bs : List ℕ) → filler h (read (widths h) bs) ≡ field bs (bit_count h) (fill h)
fill-checked h bs =
    let n = 2 ^ h.p in
    let e : edges_place h + h.states * (n * (h.q + 7)) ≡ bit_count h = omega arith in
    ap (λ vs. get_or (drop (h.states * (n * 2)) vs) 0 0) (behind-states h bs)
    ∙ ap (λ vs. get_or vs 0 0) (behind h.states (h.states * (n * 2)) (repeat n (h.q ∷ 7 ∷ [])) (fill h ∷ [])
    (drop (edges_place h) bs) (ap (λ m. h.states * m) (length-repeat n (h.q ∷ 7 ∷ []))))
    ∙ ap (λ m. value (take (fill h) (drop (h.states * m) (drop (edges_place h) bs)))) (sum-repeat n (h.q ∷ 7 ∷ []))
    ∙ ap (λ l. value (take (fill h) l)) (past bs (h.states * (n * (h.q + 7))) (edges_place h) (bit_count h) e)

-- the check of the fields after the header, in the code's order: the answers a and b of the first two tests
module _ (h : Head) (bs : List ℕ) (n : ℕ) (a b : Bool) (e : n ≡ 2 ^ h.p)
    (f : a ≡ all (good_at bs h.count) (range (2 * h.count)))
    (g : b ≡ all (good_target_at bs h) (range (h.states * n))) where
  pub rest-checked : rest_good h bs ≡ (a && (b && eqb (field bs (bit_count h) (fill h)) 0))
  rest-checked =
      ap₂ ◌&&◌ (states-checked h bs ∙ sym f)
      (ap₂ ◌&&◌ (targets-checked h bs ∙ sym (g ∙ ap (λ n. all (good_target_at bs h) (range (h.states * n))) e))
      (ap (λ x. eqb x 0) (fill-checked h bs)))

  pub targets-fail : a ≡ true → b ≡ false → false ≡ rest_good h bs
  targets-fail p q = sym (rest-checked ∙ ap₂ (λ a b. a && (b && eqb (field bs (bit_count h) (fill h)) 0)) p q)

  pub targets-pass : (r : Bool) → a ≡ true → b ≡ true → r ≡ eqb (field bs (bit_count h) (fill h)) 0 → r ≡ rest_good h bs
  targets-pass r p q s =
      s ∙ sym (rest-checked ∙ ap₂ (λ a b. a && (b && eqb (field bs (bit_count h) (fill h)) 0)) p q)

pub states-fail : (h : Head) (bs : List ℕ) (a : Bool) → a ≡ all (good_at bs h.count) (range (2 * h.count))
    → a ≡ false → false ≡ rest_good h bs
states-fail h bs a f p =
    let b = all (good_target_at bs h) (range (h.states * 2 ^ h.p)) in
    sym (rest-checked h bs (2 ^ h.p) a b refl f refl
    ∙ ap (λ a. a && (b && eqb (field bs (bit_count h) (fill h)) 0)) p)
