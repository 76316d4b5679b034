-- The sum over the words is the sum over the states t of A(s, t) times the weight of t.
-- In order: exchange.
-- Assumes nothing.
use Rattle.std.proofs.Common.{◌≡◌, ◌∷◌, ◌+◌, ◌*◌, if◌then◌else◌}
use Rattle.laws.proofs.All.{sym, ap₂, ◌∙◌, Bool, true, false, List, [], ℕ, zero-add, zero-mul}
use Rattle.laws.proofs.All.{arith, dec_lt, eqb, length, get_or, get_or-eq_default, range, filter, so}
use Rattle.laws.proofs.All.{nay, eqb_is, tot, one, times, each-always, tot-eq, tot-add, tot-zero, any→count}
use Rattle.laws.proofs.All.{range-once, elem-range}
use Rattle.compile_graph.specs.Arcs.{Arc, enters, out}
use Rattle.compile_graph.specs.Weights.{total, words_between}

-- a sum over numbers, of which only a counts
tot-only : (f : ℕ → ℕ) (a : ℕ) (l : List ℕ) → tot (λ t. one (eqb a) t * f t) l ≡ times a l * f a
tot-only f a [] = sym (zero-mul (f a))
tot-only f a (t ∷ l) = rw (tot-only f a l) (elim (eqb_is a t) [
  | so p q ↦ rw (q, ← p) (omega arith)
  | nay p q ↦ rw (q, zero-add (times a l)) (omega arith)
])

one-weight : (v : List ℕ) (a : ℕ) → tot (λ t. one (eqb a) t * get_or v t 0) (range (length v)) ≡ get_or v a 0
one-weight v a = tot-only (λ t. get_or v t 0) a (range (length v)) ∙ (elim (dec_lt a (length v)) [
  | yes h ↦ let b = any→count (eqb a) (range (length v)) (elem-range (length v) a h) in
      let c : times a (range (length v)) ≡ 1 = omega (arith, range-once a (length v)) in
      rw c (omega arith)
  | no h ↦ rw (get_or-eq_default v 0 {n = a} (omega arith)) (omega arith)
])

-- for any list of edges
exchange-all : (v : List ℕ) (es : List Arc)
    → total v es ≡ tot (λ t. length (filter (enters t) es) * get_or v t 0) (range (length v))
exchange-all v [] = sym
    (tot-eq (λ t. 0 * get_or v t 0) (λ t. 0) (range (length v))
    (each-always _ (λ t. zero-mul (get_or v t 0)) (range (length v))) ∙ tot-zero (range (length v)))
exchange-all v (e ∷ es) =
    ap₂ (λ a b. a + b) (sym (one-weight v e.target)) (exchange-all v es)
    ∙ sym (tot-add (λ t. one (eqb e.target) t * get_or v t 0) (λ t. length (filter (enters t) es) * get_or v t 0)
    (range (length v)))
    ∙ tot-eq _ (λ t. length (filter (enters t) (e ∷ es)) * get_or v t 0) (range (length v))
    (each-always _ (λ t. go t (eqb e.target t)) (range (length v)))
  where
    go : (t : ℕ) (b : Bool)
        → (if b then 1 else 0) * get_or v t 0 + length (filter (enters t) es) * get_or v t 0 ≡ length
        (if b then e ∷ filter (enters t) es else filter (enters t) es) * get_or v t 0
    go t true = omega arith
    go t false = omega arith

pub exchange : (v : List ℕ) (g : List Arc) (s : ℕ)
    → total v (out g s) ≡ tot (λ t. words_between g s t * get_or v t 0) (range (length v))
exchange v g s = exchange-all v (out g s)
