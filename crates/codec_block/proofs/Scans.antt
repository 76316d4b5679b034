-- The first number from i on and below j that passes, or d where none does.
-- In order: scan with scan-yes, scan-no, scan-end; Scanned, scanned; group-scan, into-scan.
-- Assumes nothing.
use Rattle.std.proofs.Common.{◌≡◌, ◌⊎◌, ◌+◌, ◌-◌, ◌≤◌, ◌<◌, if◌then◌else◌}
use Rattle.laws.proofs.All.{refl, sym, ap, subst, ◌∙◌, inl, inr, Bool, true, false, List, ℕ, zero, suc}
use Rattle.laws.proofs.All.{add-one, arith, ℕ_discrete, get_or, from, first}
use Rattle.bitsets.specs.declared.BitSet.{BitSet}
use Rattle.codec_steps.specs.BlockParts.{no_place, joins_at, first_group, enters_at, first_into}

-- the first number from i on and below j that passes, or d
abbrev pub scan : (ℕ → Bool) → ℕ → ℕ → ℕ → ℕ
scan f d i j = first f d (from i (j - i))

module _ (f : ℕ → Bool) (d i j : ℕ) where
  step : i < j → scan f d i j ≡ (if f i then i else scan f d (i + 1) j)
  step h =
      let z : j - i ≡ suc (j - (i + 1)) = omega arith in
      ap (λ n. first f d (from i n)) z
      ∙ ap (λ k. if f i then i else first f d (from k (j - (i + 1)))) (sym (add-one i))

  -- by the answer b of the test
  pub scan-yes : i < j → (b : Bool) → b ≡ f i → b ≡ true → scan f d i j ≡ i
  scan-yes h b e q = step h ∙ ap (λ x. if x then i else scan f d (i + 1) j) (sym e ∙ q)

  pub scan-no : i < j → (b : Bool) → b ≡ f i → b ≡ false → scan f d i j ≡ scan f d (i + 1) j
  scan-no h b e q = step h ∙ ap (λ x. if x then i else scan f d (i + 1) j) (sym e ∙ q)

  pub scan-end : j ≤ i → scan f d i j ≡ d
  scan-end h = let z : j - i ≡ 0 = omega arith in ap (λ n. first f d (from i n)) z

-- r is d, and none passes; or r passes, and none before it does
abbrev pub Scanned : (ℕ → Bool) → ℕ → ℕ → ℕ → ℕ → Type 0
Scanned f d i j r =
    ((r ≡ d) × ((x : ℕ) → i ≤ x → x < j → f x ≡ false))
    ⊎ ((i ≤ r) × (r < j) × (f r ≡ true) × ((x : ℕ) → i ≤ x → x < r → f x ≡ false))

module _ (f : ℕ → Bool) (d : ℕ) where
  more : (i j r : ℕ) → f i ≡ false → Scanned f d (i + 1) j r → Scanned f d i j r
  more i j r e (inl (q, h)) = inl (q, λ x a b. go x a b (ℕ_discrete x i))
    where
      go : (x : ℕ) → i ≤ x → x < j → Dec (x ≡ i) → f x ≡ false
      go x a b (yes p) = ap f p ∙ e
      go x a b (no p) = h x (omega arith) b
  more i j r e (inr (l, m, t, h)) = inr (omega arith, m, t, λ x a b. go x a b (ℕ_discrete x i))
    where
      go : (x : ℕ) → i ≤ x → x < r → Dec (x ≡ i) → f x ≡ false
      go x a b (yes p) = ap f p ∙ e
      go x a b (no p) = h x (omega arith) b

  scanned-by : (n i j : ℕ) → j - i ≡ n → Scanned f d i j (scan f d i j)
  scanned-by zero i j e = inl (scan-end f d i j (omega arith), λ x a b. absurd (omega arith))
  scanned-by (suc n) i j e = go (f i) refl (scanned-by n (i + 1) j (omega arith))
    where
      go : (b : Bool) → f i ≡ b → Scanned f d (i + 1) j (scan f d (i + 1) j) → Scanned f d i j (scan f d i j)
      go true q s =
          subst (Scanned f d i j) (sym (scan-yes f d i j (omega arith) (f i) refl q))
          (inr (omega arith, omega arith, q, λ x a b. absurd (omega arith)))
      go false q s =
          subst (Scanned f d i j) (sym (scan-no f d i j (omega arith) (f i) refl q))
          (more i j (scan f d (i + 1) j) q s)

  -- what the number found says
  pub scanned : (i j : ℕ) → Scanned f d i j (scan f d i j)
  scanned i j = scanned-by (j - i) i j refl

-- ---- the parts of a block are such numbers
pub group-scan : (start edge : List ℕ) (sets : List BitSet) (P : BitSet) (w : ℕ) (A : BitSet)
    → first_group start edge sets P w A
    ≡ scan (joins_at edge sets P A) no_place (get_or start w 0) (get_or start (w + 1) 0)
unfolding first_group
group-scan start edge sets P w A = refl

pub into-scan : (word next : List ℕ) (w : ℕ) (A : BitSet) (e end : ℕ)
    → first_into word next w A e end ≡ scan (enters_at word next w A) no_place e end
unfolding first_into
into-scan word next w A e end = refl
