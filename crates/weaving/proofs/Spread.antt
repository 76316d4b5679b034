-- Lists spread over an array one after the other: at the end the array is the lists read across.
-- In order: spread-more; Lists, lists-more, lists-all.
-- Assumes nothing.
use Rattle.std.proofs.Common.{◌≡◌, ◌++◌, ◌+◌, ◌-◌, ◌*◌, ◌/◌, ◌%◌, ◌≤◌, ◌<◌}
use Rattle.laws.proofs.All.{sym, ap, ap₂, subst, ◌∙◌, List, ℕ}
use Rattle.laws.proofs.All.{arith, dec_lt, mul_comm, mul-le-mul_right, div-add-mod', div-lt_iff_lt-mul, mod-lt}
use Rattle.laws.proofs.All.{length, get_or, set, drop, length-set, length-append, length-drop, get_or-drop, ext_get_or}
use Rattle.laws.proofs.All.{get_or-set_same, get_or-set_other, get_or-append-add, get_or-append, below_more}
use Rattle.laws.proofs.All.{remainder_of}
use Rattle.weaving.specs.Weaving.{transposed}
use Rattle.weaving.specs.Spread.{Spread}
use Rattle.weaving.proofs.Transposed.{in_array, columns, length-transposed, transposed-at}

-- ---- one list
-- one element more
pub spread-more : (a b r n : ℕ) (ws R S : List ℕ) (w : ℕ) → 0 < a → n * a + r < length R → w ≡ get_or ws (r * b + n) 0
    → Spread a b r n ws R S → Spread a b r (n + 1) ws R (set S (n * a + r) w)
spread-more a b r n ws R S w a₀ h e s =
    let at = n * a + r in
    record {
      long = length-set S at w ∙ s.long;
      put = below_more (λ i. get_or (set S at w) (i * a + r) 0 ≡ get_or ws (r * b + i) 0) n
          (λ i l. get_or-set_other S at (i * a + r) w 0
          (λ q. omega (arith, mul-le-mul_right {m = i + 1} {n = n} a (omega arith))) ∙ s.put i l)
          (get_or-set_same S at w 0 (let l = s.long in omega arith) ∙ e);
      kept = λ x o. get_or-set_other S at x w 0 (λ q. o n (omega arith) q)
          ∙ s.kept x (λ i l. o i (omega arith));
    }

-- ---- the first r lists of a, of b elements each: they are in place, and what lies after the array stays
pub record Lists (a b r : ℕ) (ws R S : List ℕ) : Type 0 where
  pub long : length S ≡ length R
  pub put : (s i : ℕ) → s < r → i < b → get_or S (i * a + s) 0 ≡ get_or ws (s * b + i) 0
  pub past : (x : ℕ) → a * b ≤ x → get_or S x 0 ≡ get_or R x 0

-- one list more
pub lists-more : (a b r : ℕ) (ws R S S' : List ℕ) → r < a → Lists a b r ws R S → Spread a b r b ws S S'
    → Lists a b (r + 1) ws R S'
lists-more a b r ws R S S' h l s = record {
  long = s.long ∙ l.long;
  put = λ t i g k. below_more (λ t. (i : ℕ) → i < b → get_or S' (i * a + t) 0 ≡ get_or ws (t * b + i) 0) r
      (λ t g i k. s.kept (i * a + t) (λ j m e. apart t i j g e) ∙ l.put t i g k)
      (λ i k. s.put i k) t g i k;
  past = λ x g. s.kept x (λ j m e. omega (arith, in_array a b r j h m)) ∙ l.past x g;
}
  where
    -- places of two lists have different remainders
    apart : (t i j : ℕ) → t < r → i * a + t ≡ j * a + r → ⊥
    apart t i j g e =
        let q : t ≡ r =
        sym (remainder_of a i t (omega arith)) ∙ ap (λ n. n % a) e ∙ remainder_of a j r h in
        omega arith

-- all of them
pub lists-all : (a b : ℕ) (ws R S : List ℕ) → a * b ≤ length R → Lists a b a ws R S
    → S ≡ transposed a b ws ++ drop (a * b) R
lists-all a b ws R S h l =
    let T = transposed a b ws in
    let n : length (T ++ drop (a * b) R) ≡ length R =
    length-append T (drop (a * b) R) ∙ ap₂ ◌+◌ (length-transposed a b ws) (length-drop (a * b) R) ∙ omega arith in
    ext_get_or 0 S (T ++ drop (a * b) R) (l.long ∙ sym n) (λ x k. place x (dec_lt x (a * b)))
  where
    place : (x : ℕ) → Dec (x < a * b) → get_or S x 0 ≡ get_or (transposed a b ws ++ drop (a * b) R) x 0
    place x (yes u) =
        let T = transposed a b ws in
        let a₀ : 0 < a = columns b a x (subst (λ n. x < n) (mul_comm a b) u) in
        let q : x / a < b = (div-lt_iff_lt-mul {k = a} {x = x} {y = b} a₀).1 (subst (λ n. x < n) (mul_comm a b) u) in
        let s : x % a < a = mod-lt x a₀ in
        let m : x / a * a + x % a ≡ x = div-add-mod' x a in
        ap (λ n. get_or S n 0) (sym m) ∙ l.put (x % a) (x / a) s q ∙ sym (transposed-at a b ws (x % a) (x / a) s q)
        ∙ ap (λ n. get_or T n 0) m ∙ sym (get_or-append T (drop (a * b) R) 0 x (rw (length-transposed a b ws) u))
    place x (no u) =
        let T = transposed a b ws in
        let n = x - a * b in
        let m : a * b + n ≡ x = omega arith in
        l.past x (omega arith) ∙ ap (λ k. get_or R k 0) (sym m) ∙ sym (get_or-drop (a * b) R n 0)
        ∙ sym (get_or-append-add T (drop (a * b) R) n 0)
        ∙ ap (λ k. get_or (T ++ drop (a * b) R) k 0) (ap (λ k. k + n) (length-transposed a b ws) ∙ m)
