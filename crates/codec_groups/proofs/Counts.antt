-- Numbers of edges with a word, and with a word below another; no more states than edges.
-- In order: count-rise, count-hit; before_more, before-zero, before-le; states-count, members-count.
-- Assumes nothing.
use Rattle.std.proofs.Common.{◌≡◌, ◌⊎◌, ◌∷◌, ◌+◌, ◌-◌, ◌*◌, ◌/◌, ◌≤◌, ◌<◌, ◌++◌, if◌then◌else◌}
use Rattle.laws.proofs.All.{refl, sym, ap, ◌∙◌, inl, inr, Bool, true, false, [], ℕ, zero, suc}
use Rattle.laws.proofs.All.{add-zero, add-one, le_refl, arith, length, length-append}
use Rattle.laws.proofs.All.{append-nil, filter, range, filter-append, range-more}
use native.Mathlib.Nat.{add-suc}
use Rattle.table.specs.Edges.{Arrays, word_of, bears}
use Rattle.table.proofs.Edges.{bears-word}
use Rattle.bitsets.specs.BitSets.{bit_at, places_of}
use Rattle.codec_groups.specs.Counts.{count, before}

-- ---- edges with one word
module _ (t : Arrays) (w : ℕ) where
  count-suc : (b : ℕ) → count t w (suc b) ≡ (if bears t w b then suc (count t w b) else count t w b)
  unfolding count
  count-suc b = refl

  count-in : (b : ℕ) → bears t w b ≡ true → count t w (suc b) ≡ suc (count t w b)
  count-in b e = count-suc b ∙ ap (λ x. if x then suc (count t w b) else count t w b) e

  count-out : (b : ℕ) → bears t w b ≡ false → count t w (suc b) ≡ count t w b
  count-out b e = count-suc b ∙ ap (λ x. if x then suc (count t w b) else count t w b) e

  count_none : count t w 0 ≡ 0
  unfolding count
  count_none = refl

  count_next : (b : ℕ) → count t w b ≤ count t w (suc b)
  count_next b = go (bears t w b) refl
    where
      go : (x : Bool) → bears t w b ≡ x → count t w b ≤ count t w (suc b)
      go true e = omega (arith, count-in b e)
      go false e = omega (arith, count-out b e)

  -- no fewer below a greater bound
  pub count-rise : (b k : ℕ) → count t w b ≤ count t w (b + k)
  count-rise b zero = rw (add-zero b) (le_refl _)
  count-rise b (suc k) = rw (add-suc b k) (omega (arith, count-rise b k, count_next (b + k)))

  -- an edge with the word between the bounds counts
  pub count-hit : (b c e : ℕ) → b ≤ e → e < c → bears t w e ≡ true → count t w b + 1 ≤ count t w c
  count-hit b c e h l q =
      let x : b + (e - b) ≡ e = omega arith in
      let y : suc e + (c - suc e) ≡ c = omega arith in
      let m : count t w b ≤ count t w e = rw x at (count-rise b (e - b)) in
      let n : count t w (suc e) ≤ count t w c = rw y at (count-rise (suc e) (c - suc e)) in
      omega (arith, count-in e q)

-- ---- edges with a word below another
pub before_more : (t : Arrays) (w b : ℕ) → before t (w + 1) b ≡ before t w b + count t w b
unfolding before
before_more t w b = rw add-one

before-suc : (t : Arrays) (w b : ℕ) → before t (suc w) b ≡ before t w b + count t w b
unfolding before
before-suc t w b = refl

pub before-zero : (t : Arrays) (b : ℕ) → before t 0 b ≡ 0
unfolding before
before-zero t b = refl

-- one edge more has one word
grown : (t : Arrays) (b w : ℕ) → (before t w (suc b) ≡ before t w b)
    ⊎ ((word_of t b < w) × (before t w (suc b) ≡ before t w b + 1))
grown t b zero = inl (before-zero t (suc b) ∙ sym (before-zero t b))
grown t b (suc w) = go (bears t w b) refl (grown t b w)
  where
    go : (x : Bool) → bears t w b ≡ x
        → (before t w (suc b) ≡ before t w b) ⊎ ((word_of t b < w) × (before t w (suc b) ≡ before t w b + 1))
        → (before t (suc w) (suc b) ≡ before t (suc w) b)
        ⊎ ((word_of t b < suc w) × (before t (suc w) (suc b) ≡ before t (suc w) b + 1))
    go true e (inl q) =
        inr (
          omega (arith, bears-word t w b e),
          omega (arith, q, before-suc t w b, before-suc t w (suc b), count-in t w b e),
        )
    go true e (inr (h, q)) = absurd (omega (arith, h, bears-word t w b e))
    go false e (inl q) = inl (omega (arith, q, before-suc t w b, before-suc t w (suc b), count-out t w b e))
    go false e (inr (h, q)) =
        inr (omega (arith, h), omega (arith, q, before-suc t w b, before-suc t w (suc b), count-out t w b e))

before-none : (t : Arrays) (w : ℕ) → before t w 0 ≡ 0
before-none t zero = before-zero t 0
before-none t (suc w) = omega (arith, before-suc t w 0, before-none t w, count_none t w)

-- no more than there are edges
pub before-le : (t : Arrays) (w b : ℕ) → before t w b ≤ b
before-le t w zero = omega (arith, before-none t w)
before-le t w (suc b) = go (grown t b w) (before-le t w b)
  where
    go : (before t w (suc b) ≡ before t w b) ⊎ ((word_of t b < w) × (before t w (suc b) ≡ before t w b + 1))
        → before t w b ≤ b → before t w (suc b) ≤ suc b
    go (inl q) h = omega (arith, q, h)
    go (inr (l, q)) h = omega (arith, q, h)

-- ---- states that each have an edge with the word
module _ (t : Arrays) (w : ℕ) where
  -- an edge of the state s with the word
  abbrev pub Has : ℕ → Type 0
  Has s = (e : ℕ) × (e / 16 ≡ s) × (bears t w e ≡ true)

  -- no more of them than edges
  pub states-count : (p : ℕ → Bool) (d : ℕ) → ((s : ℕ) → s < d → p s ≡ true → Has s)
      → length (filter p (range d)) ≤ count t w (d * 16)
  states-count p zero f = omega arith
  states-count p (suc d) f = go (p d) refl (states-count p d (λ s h e. f s (omega arith) e))
    where
      more : length (filter p (range (suc d))) ≡ length (filter p (range d)) + length (filter p (d ∷ []))
      more =
          ap (λ k. length (filter p (range k))) (sym (add-one d)) ∙ ap (λ l. length (filter p l)) (range-more d)
          ∙ ap length (filter-append p (range d) (d ∷ [])) ∙ length-append (filter p (range d)) (filter p (d ∷ []))

      one : (b : Bool) → p d ≡ b → length (filter p (d ∷ [])) ≡ length (if b then d ∷ [] else [])
      one b e = ap (λ x. length (if x then d ∷ [] else [])) e

      go : (b : Bool) → p d ≡ b → length (filter p (range d)) ≤ count t w (d * 16)
          → length (filter p (range (suc d))) ≤ count t w (suc d * 16)
      go true q ih =
          let (e, z, r) = f d (omega arith) q in
          omega (arith, more, one true q, count-hit t w (d * 16) (suc d * 16) e (omega arith) (omega arith) r)
      go false q ih =
          let m : d * 16 + 16 ≡ suc d * 16 = omega arith in
          let n : count t w (d * 16) ≤ count t w (suc d * 16) = rw m at (count-rise t w (d * 16) 16) in
          omega (arith, more, one false q)

  none-beyond : (p : ℕ → Bool) (d k : ℕ) → ((s : ℕ) → d ≤ s → s < d + k → p s ≡ false)
      → filter p (range (d + k)) ≡ filter p (range d)
  none-beyond p d zero f = ap (λ x. filter p (range x)) (add-zero d)
  none-beyond p d (suc k) f =
      let e : d + suc k ≡ d + k + 1 = omega arith in
      ap (λ x. filter p (range x)) e ∙ ap (filter p) (range-more (d + k))
      ∙ filter-append p (range (d + k)) ((d + k) ∷ [])
      ∙ ap (λ b. filter p (range (d + k)) ++ (if b then (d + k) ∷ [] else [])) (f (d + k) (omega arith) (omega arith))
      ∙ append-nil (filter p (range (d + k))) ∙ none-beyond p d k (λ s a b. f s a (omega arith))

  -- where no member is d or more
  pub members-count : (d k n : ℕ) → ((s : ℕ) → d ≤ s → s < d + k → bit_at n s ≡ false)
      → ((s : ℕ) → s < d → bit_at n s ≡ true → Has s) → length (places_of (d + k) n) ≤ count t w (d * 16)
  unfolding places_of
  members-count d k n g f =
      let e = ap length (none-beyond (bit_at n) d k g) in
      let h = states-count (bit_at n) d f in
      omega arith
