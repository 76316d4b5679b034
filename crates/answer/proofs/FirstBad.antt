-- Laws of the check of refusal 11.
-- In order: bad-here, bad-later, bad-end, the first bad byte from a place on; bad-le; first_bad-below, below-first_bad;
-- below-bad, below-done, all_below-true, all_below→.
-- Assumes nothing.
use Rattle.std.proofs.Common.{◌≡◌, ◌∷◌, ◌+◌, ◌≤◌, ◌<◌, if◌then◌else◌}
use Rattle.laws.proofs.All.{refl, sym, ap, ◌∙◌, Bool, true, false, List, [], ℕ, suc, add-one}
use Rattle.laws.proofs.All.{arith, lt-ltb, le-ltb, eq-eqb, ne_eqb, ltb, eqb, ltb→lt, eqb→eq, eqb_refl, length, drop}
use Rattle.laws.proofs.All.{get_or, drop-cons, drop-length, Below}
use Rattle.answer.specs.declared.Refusal.TheVariants.{BadByte}
use Rattle.answer.specs.Outcomes.{done, refused, unless}
use Rattle.answer.specs.FirstBad.{first_bad, all_below}
use Rattle.answer.proofs.Outcomes.{done_inj, unless-true, unless→}

-- ---- byte by byte
module _ (n : ℕ) (xs : List ℕ) (i : ℕ) where
  pub bad-here : i < length xs → n ≤ get_or xs i 0 → first_bad n (drop i xs) ≡ 0
  bad-here h l = rw (drop-cons xs i 0, le-ltb _ _ l)

  pub bad-later : i < length xs → get_or xs i 0 < n → first_bad n (drop i xs) ≡ suc (first_bad n (drop (i + 1) xs))
  bad-later h l = rw (drop-cons xs i 0, lt-ltb _ _ l, add-one)

  pub bad-end : i ≡ length xs → first_bad n (drop i xs) ≡ 0
  bad-end e = ap (first_bad n) (ap (λ k. drop k xs) e ∙ drop-length xs)

-- ---- of all bytes
pub bad-le : (n : ℕ) (xs : List ℕ) → first_bad n xs ≤ length xs
bad-le n [] = omega arith
bad-le n (x ∷ xs) = go (ltb x n) (bad-le n xs)
  where
    go : (b : Bool) → first_bad n xs ≤ length xs → (if b then suc (first_bad n xs) else 0) ≤ suc (length xs)
    go true h = omega arith
    go false h = omega arith

pub first_bad-below : (n : ℕ) (xs : List ℕ) → Below n xs → first_bad n xs ≡ length xs
first_bad-below n [] b = refl
first_bad-below n (x ∷ xs) (a, b) = rw (lt-ltb x n a) (ap suc (first_bad-below n xs b))

pub below-first_bad : (n : ℕ) (xs : List ℕ) → first_bad n xs ≡ length xs → Below n xs
below-first_bad n [] e = tt
below-first_bad n (x ∷ xs) e = go (ltb x n) refl e (λ e'. below-first_bad n xs e')
  where
    go : (b : Bool) → ltb x n ≡ b → (if b then suc (first_bad n xs) else 0) ≡ suc (length xs)
        → (first_bad n xs ≡ length xs → Below n xs) → (x < n) × Below n xs
    go true t e f = (ltb→lt x n (rw t tt), f (omega arith))
    go false t e f = absurd (omega arith)

-- ---- the check
module _ (n : ℕ) (xs result : List ℕ) where
  pub below-bad : first_bad n xs < length xs → all_below n xs result ≡ refused (BadByte (first_bad n xs))
  below-bad h =
      ap (λ b. unless (BadByte (first_bad n xs)) b (done result))
      (ne_eqb (first_bad n xs) (length xs) (λ e. omega arith))

  pub below-done : first_bad n xs ≡ length xs → all_below n xs result ≡ done result
  below-done e = ap (λ b. unless (BadByte (first_bad n xs)) b (done result)) (eq-eqb (first_bad n xs) (length xs) e)

  pub all_below-true : Below n xs → all_below n xs result ≡ done result
  all_below-true b =
      unless-true (BadByte (first_bad n xs)) (eqb (first_bad n xs) (length xs)) (done result)
      (rw (first_bad-below n xs b) (eqb_refl (length xs)))

  pub all_below→ : (ys : List ℕ) → all_below n xs result ≡ done ys → Below n xs × (result ≡ ys)
  all_below→ ys e =
      let (t, q) = unless→ (BadByte (first_bad n xs)) (eqb (first_bad n xs) (length xs)) (done result) ys e in
      (below-first_bad n xs (eqb→eq (first_bad n xs) (length xs) t), done_inj result ys q)
