-- Parts of a record put one after the other among lent bits.
-- In order: put-low-is; put-absent, put-present; spliced-none; length_fields; Putting, front-spliced.
-- Assumes nothing.
use Rattle.std.proofs.Common.{◌≡◌, ◌∷◌, ◌++◌, ◌+◌, ◌-◌, ◌*◌, ◌%◌, ◌^◌, ◌≤◌, ◌<◌}
use Rattle.laws.proofs.All.{refl, sym, ap, ap₂, ◌∙◌, false, List, [], append-nil, ℕ}
use Rattle.laws.proofs.All.{mod-lt, add-zero, arith, ne_eqb, eqb, length, take}
use Rattle.laws.proofs.All.{drop, length-append, length-take, length-drop, take-append-drop, pow_pos, sum}
use Rattle.bits.specs.Fields.{bits, write}
use Rattle.bits.specs.Bytes.{spliced}
use Rattle.bits.proofs.Bytes.{bits-rest}
use Rattle.bits.proofs.Fields.{length-bits}
use Rattle.bits.proofs.Places.{bits-join}
use Rattle.bits.proofs.Puts.{spliced-field}
use Rattle.bits.proofs.Runs.{spliced-next}
use Rattle.constraint.specs.Walking.{none}
use Rattle.table.specs.declared.Head.{Head}
use Rattle.record.specs.Layout.{header_bits, header, present, shown}
use Rattle.record.specs.Parts.{front_bits, next_bits}

-- a field of the lowest bits
pub put-low-is : (B : List ℕ) (at w x v : ℕ) → v ≡ x % 2 ^ w
    → take at B ++ bits w v ++ drop (at + w) B ≡ spliced at (bits w x) B
put-low-is B at w x v e = cc (spliced-field at w v B, bits-rest w x)

-- no next state
pub put-absent : (B : List ℕ) (at s : ℕ) → s ≡ none
    → take at B ++ bits 5 0 ++ drop (at + 5) B ≡ spliced at (next_bits s) B
unfolding next_bits
put-absent B at s e = rw e refl

-- the five bits of a next state
joined : (s p v : ℕ) → p ≡ 1 → v ≡ s % 2 ^ 4 → bits (1 + 4) (p * 2 ^ 4 + v) ≡ bits 1 p ++ bits 4 s
joined s p v e f =
    let l : v < 2 ^ 4 = rw f (mod-lt s (pow_pos 4)) in
    sym (bits-join 1 4 p v l) ∙ ap (λ x. bits 1 p ++ x) (ap (bits 4) f ∙ bits-rest 4 s)

-- a next state
pub put-present : (B : List ℕ) (at s v : ℕ) → (s ≡ none → ⊥) → v ≡ s % 2 ^ 4
    → take at B ++ bits 5 (16 + v) ++ drop (at + 5) B ≡ spliced at (next_bits s) B
unfolding next_bits
put-present B at s v h e =
    let n : eqb s none ≡ false = ne_eqb s none h in
    let p : present s ≡ 1 = rw n in
    let q : shown s ≡ s = rw n in
    cc (spliced-field at 5 (16 + v) B, joined s 1 v refl e)

-- nothing put
pub spliced-none : (at : ℕ) (B : List ℕ) → B ≡ spliced at [] B
spliced-none at B = cc (append-nil (take at B), add-zero at, take-append-drop at B)

-- as many bits as the widths say
pub length_fields : (ws vs : List ℕ) → length ws ≡ length vs → length (write ws vs) ≡ sum ws
length_fields [] vs e = refl
length_fields (w ∷ ws) [] e = absurd (omega arith)
length_fields (w ∷ ws) (v ∷ vs) e =
    length-append (bits w v) (write ws vs) ∙ ap₂ ◌+◌ (length-bits w v) (length_fields ws vs (omega arith))

-- the numbers vs put one by one into fields of the widths ws, from the place o on, make B' of the bits B
abbrev pub Putting : List ℕ → ℕ → List ℕ → List ℕ → List ℕ → Type 0
Putting B o [] [] B' = B' ≡ B
Putting B o [] (v ∷ vs) B' = ⊥
Putting B o (w ∷ ws) [] B' = ⊥
Putting B o (w ∷ ws) (v ∷ vs) B' = (B₁ : List ℕ) × (B₁ ≡ spliced o (bits w v) B) × Putting B₁ (o + w) ws vs B'

length-spliced : (o : ℕ) (F B : List ℕ) → o + length F ≤ length B → length (spliced o F B) ≡ length B
length-spliced o F B h = simp (length-append, length-take, length-drop) (omega arith)

length-le : (ws vs : List ℕ) → length (write ws vs) ≤ sum ws
length-le [] vs = omega arith
length-le (w ∷ ws) [] = omega arith
length-le (w ∷ ws) (v ∷ vs) =
    omega (arith, length-append (bits w v) (write ws vs), length-bits w v, length-le ws vs)

put_all : (B : List ℕ) (o : ℕ) (ws vs B' : List ℕ) → o + sum ws ≤ length B → Putting B o ws vs B'
    → B' ≡ spliced o (write ws vs) B
put_all B o [] [] B' h e = e ∙ spliced-none o B
put_all B o [] (v ∷ vs) B' h e = absurd e
put_all B o (w ∷ ws) [] B' h e = absurd e
put_all B o (w ∷ ws) (v ∷ vs) B' h (B₁, e, r) =
    let b : length (bits w v) ≡ w = length-bits w v in
    let l : length B₁ ≡ length B = ap length e ∙ length-spliced o (bits w v) B (omega arith) in
    spliced-next B B₁ B' (bits w v) (write ws vs) o (o + w) (omega arith) (omega (arith, length-le ws vs)) e
    (put_all B₁ (o + w) ws vs B' (omega arith) r)

-- the numbers in front, field by field
pub front-spliced : (h : Head) (s k : ℕ) (B B' : List ℕ) → header_bits ≤ length B → s ≡ h.states - 1
    → k ≡ h.count - 1
    → Putting B 0 header (h.p ∷ h.q ∷ s ∷ h.memory ∷ h.lookahead ∷ k ∷ h.start ∷ h.tail ∷ []) B'
    → B' ≡ spliced 0 (front_bits h) B
unfolding front_bits
front-spliced h s k B B' l es ek e =
    put_all B 0 header (h.p ∷ h.q ∷ s ∷ h.memory ∷ h.lookahead ∷ k ∷ h.start ∷ h.tail ∷ []) B' l e ∙ rw (es, ek)
