-- Numbers read digit by digit.
-- In order: worth-grows; number-held; digit-some, digit-none; number-on, number-off, number-end, digit by digit; parsed-none, parsed-some.
-- Assumes nothing.
use Rattle.std.specs.Prelude.{Ok, Err, Some, None}
use Rattle.std.proofs.Common.{◌≡◌, ◌∷◌, ◌+◌, ◌*◌, ◌≤◌, ◌<◌, if◌then◌else◌}
use Rattle.laws.proofs.All.{refl, sym, ap, subst, ◌∙◌, Bool, true, false, List, [], ℕ, min}
use Rattle.laws.proofs.All.{min-eq_left, min-eq_right, add-one, arith, lt-leb, ltb-true, ltb-false, ltb}
use Rattle.laws.proofs.All.{length, get_or, drop, drop-cons, drop-length, all}
use Rattle.command_arguments.specs.declared.NumberError.TheVariants.{Above, Wrong}
use Rattle.command_arguments.specs.Parsing.{greatest, digit_of, is_digit, as_digit, worth, up_to_greatest, number_in, parsed}

pub worth-grows : (n : ℕ) (cs : List ℕ) → n ≤ worth n cs
unfolding worth
worth-grows n [] = omega arith
worth-grows n (c ∷ cs) = let g = worth-grows (n * 10 + digit_of c) cs in omega arith

-- a number above the greatest counts as the least above it
pub number-held : (n : ℕ) (cs : List ℕ) → number_in n cs ≡ number_in (min n (greatest + 1)) cs
unfolding number_in
number-held n cs = go (ltb n (greatest + 1)) refl
  where
    go : (b : Bool) → ltb n (greatest + 1) ≡ b → number_in n cs ≡ number_in (min n (greatest + 1)) cs
    go true e =
        let l = ltb-true n (greatest + 1) e in
        ap (λ k. number_in k cs) (sym (min-eq_left (omega arith)))
    go false e =
        let g = ltb-false n (greatest + 1) e in
        let h = worth-grows n cs in
        let k = worth-grows (greatest + 1) cs in
        let a : greatest < worth n cs = omega arith in
        let b : greatest < worth (greatest + 1) cs = omega arith in
        ap (λ x. if all is_digit cs then (if x then Ok (worth n cs) else Err Above) else Err Wrong) (lt-leb _ _ a)
        ∙ sym (ap (λ x. if all is_digit cs then (if x then Ok (worth (greatest + 1) cs) else Err Above) else Err Wrong)
        (lt-leb _ _ b))
        ∙ ap (λ k. number_in k cs) (sym (min-eq_right g))

-- a byte that has a value is a digit, and one that has none is not
pub digit-some : (c d : ℕ) → Some d ≡ as_digit c → (is_digit c ≡ true) × (digit_of c ≡ d)
digit-some c d e = go (is_digit c) refl e
  where
    go : (b : Bool) → is_digit c ≡ b → Some d ≡ (if b then Some (digit_of c) else None)
        → (is_digit c ≡ true) × (digit_of c ≡ d)
    go true k e = (k, cc)
    go false k e = absurd (let z : ◌≡◌ {A = ℕ} 0 1 = cc in omega arith)

pub digit-none : (c : ℕ) → None ≡ as_digit c → is_digit c ≡ false
digit-none c e = go (is_digit c) refl e
  where
    go : (b : Bool) → is_digit c ≡ b → None ≡ (if b then Some (digit_of c) else None) → is_digit c ≡ false
    go true k e = absurd (let z : ◌≡◌ {A = ℕ} 0 1 = cc in omega arith)
    go false k e = k

module _ (text : List ℕ) (n i : ℕ) where
  pub number-on : (d : ℕ) → i < length text → Some d ≡ as_digit (get_or text i 0)
      → number_in n (drop i text) ≡ number_in (n * 10 + d) (drop (i + 1) text)
  unfolding number_in worth
  number-on d h e =
      let (t, k) = digit-some (get_or text i 0) d e in
      subst (λ d. number_in n (drop i text) ≡ number_in (n * 10 + d) (drop (i + 1) text)) k
      (rw (drop-cons text i 0, add-one) (rw (t) refl))

  pub number-off : i < length text → None ≡ as_digit (get_or text i 0) → number_in n (drop i text) ≡ Err Wrong
  unfolding number_in
  number-off h e =
      rw (drop-cons text i 0) (rw (digit-none (get_or text i 0) e) refl)

  pub number-end : i ≡ length text → number_in n (drop i text) ≡ up_to_greatest n
  unfolding number_in worth
  number-end e = ap (number_in n) (ap (λ k. drop k text) e ∙ drop-length text)

pub parsed-none : (text : List ℕ) → length text ≡ 0 → parsed text ≡ Err Wrong
unfolding parsed
parsed-none [] e = refl
parsed-none (c ∷ cs) e = absurd (omega arith)

pub parsed-some : (text : List ℕ) → (length text ≡ 0 → ⊥) → parsed text ≡ number_in 0 text
unfolding parsed
parsed-some [] h = absurd (h refl)
parsed-some (c ∷ cs) h = refl
