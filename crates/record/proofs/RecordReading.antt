-- A record read check by check: the header's numbers are in range, and what each check comes to.
-- In order: below-bytes, head-range, ranges_in; checked-short, checked-front, checked-length, checked-rest,
-- checked-good.
-- Assumes nothing.
use Rattle.std.proofs.Common.{◌≡◌, ◌&&◌, ◌^◌, ◌≤◌, ◌<◌}
use Rattle.laws.proofs.All.{sym, ap, subst, ◌∙◌, true, false, List, ℕ, arith, T, leb, ltb}
use Rattle.laws.proofs.All.{eqb, le→leb, lt→ltb, lit<, length, get_or, take, drop, replicate, sum, Below, below-drop}
use Rattle.laws.proofs.All.{and→, →and}
use Rattle.answer.specs.declared.Refusal.TheVariants.{Field, Length}
use Rattle.answer.specs.Outcomes.{done, refused, unless}
use Rattle.bits.specs.Fields.{read, bits_of}
use Rattle.bits.proofs.Fields.{read_at, below-write, value-take}
use Rattle.table.specs.declared.Head.{Head}
use Rattle.table.specs.Formed.{in_range, Ranges}
use Rattle.table.proofs.Formed.{ranges}
use Rattle.record.specs.Layout.{header, header_bytes, head_of, size}
use Rattle.record.specs.Parse.{good_head}
use Rattle.record.specs.Checks.{code_at, rest_good, fields_good, fields_checked}

-- a number that is read is below 2 to its width
read-lt : (bs : List ℕ) → Below 2 bs → (ws : List ℕ) (i : ℕ) → i < length ws
    → get_or (read ws bs) i 0 < 2 ^ get_or ws i 0
read-lt bs b ws i h =
    rw (read_at ws bs i h)
    (value-take (get_or ws i 0) (drop (sum (take i ws)) bs) (below-drop 2 (sum (take i ws)) bs b))

pub below-bytes : (xs : List ℕ) → Below 2 (bits_of xs)
below-bytes xs = below-write (replicate (length xs) 8) xs

-- the header's numbers are in range by its widths and its check
pub head-range : (vs : List ℕ) → get_or vs 2 0 < 128 → get_or vs 3 0 < 16 → get_or vs 4 0 < 16 → get_or vs 5 0 < 16
    → T (good_head (head_of vs)) → T (in_range (head_of vs))
head-range vs hs hm ha hk g =
    let h = head_of vs in
    let (gp, g₁) = and→ (leb 1 h.p && leb h.p 4) _ g in
    let (gq, gz) = and→ (leb 1 h.q && leb h.q 8) (ltb h.start h.count && ltb h.tail (2 ^ h.p)) g₁ in
    →and (leb 1 h.p && leb h.p 4) _ gp (→and (leb 1 h.q && leb h.q 8) _ gq
    (→and (leb 1 h.states && leb h.states 128) _ (within h.states 128 (omega arith) (omega arith))
    (→and (ltb h.memory 16) _ (lt→ltb h.memory 16 hm) (→and (ltb h.lookahead 16) _
    (lt→ltb h.lookahead 16 ha) (→and (leb 1 h.count && leb h.count 16) _
    (within h.count 16 (omega arith) (omega arith)) gz)))))
  where
    within : (x n : ℕ) → 1 ≤ x → x ≤ n → T (leb 1 x && leb x n)
    within x n a b = →and (leb 1 x) (leb x n) (le→leb 1 x a) (le→leb x n b)

ranges-of : (bs : List ℕ) → Below 2 bs → T (good_head (head_of (read header bs))) → Ranges (head_of (read header bs))
ranges-of bs b g =
    ranges (head_of (read header bs)) (head-range (read header bs) (read-lt bs b header 2 (lit< tt))
    (read-lt bs b header 3 (lit< tt)) (read-lt bs b header 4 (lit< tt)) (read-lt bs b header 5 (lit< tt)) g)

-- the same of the header of bytes
pub ranges_in : (xs : List ℕ) (h : Head) → h ≡ head_of (read header (bits_of xs)) → good_head h ≡ true → Ranges h
ranges_in xs h e g =
    rw e (ranges-of (bits_of xs) (below-bytes xs) (subst T (sym (ap good_head (sym e) ∙ g)) tt))

-- ---- the outcome at each return of the code
module _ (xs : List ℕ) where
  pub checked-short : leb header_bytes (length xs) ≡ false → fields_checked xs ≡ refused Length
  unfolding fields_checked
  checked-short e = rw e

  module _ (h : Head) (front : h ≡ head_of (read header (bits_of xs))) (e₀ : leb header_bytes (length xs) ≡ true) where
    step : fields_checked xs ≡ fields_good (length xs) h (bits_of xs)
    unfolding fields_checked
    step = rw (e₀, front)

    pub checked-front : good_head h ≡ false → fields_checked xs ≡ refused Field
    checked-front e = step ∙ rw e

    module _ (e₁ : good_head h ≡ true) where
      step₁ : fields_checked xs ≡ unless Length (eqb (length xs) (size h))
          (unless Field (rest_good h (bits_of xs)) (done (code_at h (bits_of xs))))
      step₁ = step ∙ rw e₁

      pub checked-length : eqb (length xs) (size h) ≡ false → fields_checked xs ≡ refused Length
      checked-length e = step₁ ∙ rw e

      module _ (e₂ : eqb (length xs) (size h) ≡ true) where
        step₂ : fields_checked xs ≡ unless Field (rest_good h (bits_of xs)) (done (code_at h (bits_of xs)))
        step₂ = step₁ ∙ rw e₂

        pub checked-rest : rest_good h (bits_of xs) ≡ false → fields_checked xs ≡ refused Field
        checked-rest e = step₂ ∙ rw e

        pub checked-good : rest_good h (bits_of xs) ≡ true → fields_checked xs ≡ done (code_at h (bits_of xs))
        checked-good e = step₂ ∙ rw e
