-- The code's lines of words are the phrases: computed once for the whole table. How long the words are.
-- In order: row; line-is; no_words; words-short; words-none; words_are.
-- Assumes nothing.
use Rattle.std.proofs.Common.{◌≡◌, ◌⊎◌, ◌↔◌, ◌∷◌, ◌++◌, ◌≤◌, ◌<◌}
use Rattle.laws.proofs.All.{refl, sym, ap, ◌∙◌, inl, inr, Bool, List, [], map, ℕ, zero, suc}
use Rattle.laws.proofs.All.{arith, dec_le, T, leb, leb→le, ltb, ltb→lt, length, get_or, drop}
use Rattle.laws.proofs.All.{get_or-eq_default, range, all, all→, map-range-at}
use Rattle.answer.specs.Refusals.{most}
use Rattle.text.specs.Texts.{bytes}
use Rattle.view_refusals.specs.TextLines.{line_of}
use Rattle.view_refusals.specs.Phrases.{phrases, words_of}

abbrev joined : List (List ℕ) → List ℕ
joined [] = []
joined (p ∷ ps) = p ++ 10 ∷ joined ps

-- the phrases, each with a newline after it
unfoldable pub row : List ℕ
unfolding phrases
row = joined phrases

abbrev line : ℕ → List ℕ
line n = line_of n row

lines_are : map line (range (suc most)) ≡ phrases
unfolding phrases row
lines_are = refl

pub line-is : (n : ℕ) → n ≤ most → line_of n row ≡ words_of n
unfolding words_of
line-is n h =
    let low : n < suc most = omega arith in
    sym (map-range-at line (suc most) n [] low) ∙ ap (λ l. get_or l n []) lines_are

-- a number that is no refusal has no words
pub no_words : (n : ℕ) → most < n → [] ≡ words_of n
unfolding words_of phrases
no_words n h =
    let over : length phrases ≤ n = omega arith in
    sym (get_or-eq_default phrases [] over)

-- words of at most 60 bytes
abbrev short : List ℕ → Bool
short p = leb (length p) 60

phrases-short : T (all short phrases)
unfolding phrases
phrases-short = tt

short-of : (n : ℕ) → Dec (n ≤ most) → length (words_of n) ≤ 60
unfolding words_of phrases
short-of n (yes h) =
    let low : n < length phrases = omega arith in
    leb→le (length (words_of n)) 60 (all→ short [] phrases phrases-short n low)
short-of n (no h) = let none : [] ≡ words_of n = no_words n (omega arith) in rw (sym none) (omega arith)

pub words-short : (n : ℕ) → length (words_of n) ≤ 60
words-short n = short-of n (dec_le n most)

-- ---- which numbers have words
some : List ℕ → Bool
some p = ltb 0 (length p)

phrases-some : T (all some (drop 1 phrases))
unfolding phrases some
phrases-some = tt

some_of : (m : ℕ) → m < most → 0 < length (words_of (suc m))
unfolding words_of phrases some
some_of m h = ltb→lt 0 (length (words_of (suc m))) (all→ some [] (drop 1 phrases) phrases-some m h)

-- THEOREM: none exactly for 0 and for the numbers above the largest refusal's
pub words-none : (n : ℕ) → (words_of n ≡ []) ↔ ((n ≡ 0) ⊎ (most < n))
unfolding words_of phrases
words-none zero = ((λ e. inl refl), (λ x. refl))
words-none (suc m) = (
  (λ e. elim (dec_le (suc m) most) [
    | yes h ↦ absurd (let z = ap length e in omega (arith, some_of m (omega arith)))
    | no h ↦ inr (omega arith)
  ]),
  (λ x. elim x [ inl z ↦ absurd (omega arith) | inr h ↦ sym (no_words (suc m) h) ]),
)

-- THEOREM: the words of each number
pub words_are : (words_of 1 ≡ bytes "p, q or cap out of range")
    × (words_of 2 ≡ bytes "K, a next state, or d and k out of range")
    × (words_of 3 ≡ bytes "no code: all weights 0")
    × (words_of 4 ≡ bytes "the component's weights sum to over 128")
    × (words_of 5 ≡ bytes "over 2,048 edges, before any split or after one")
    × (words_of 6 ≡ bytes "no window up to 15 and 15")
    × (words_of 7 ≡ bytes "record field out of range, absent state not 0, or fill not 0")
    × (words_of 8 ≡ bytes "length is not what the fields say, or too short for them")
    × (words_of 9 ≡ bytes "some recording breaks the constraint")
    × (words_of 10 ≡ bytes "the window fails")
    × (words_of 11 ≡ bytes "block of 2^p or more, or word of 2^q or more, at place ")
    × (words_of 12 ≡ bytes "fewer than a words")
    × (words_of 13 ≡ bytes "the output is too short")
    × (words_of 14 ≡ bytes "two constraints give more than 16 pairs of states")
    × (words_of 15 ≡ bytes "over 1,000,000 words, wrong number of bytes, or fill not 0")
    × (words_of 16 ≡ bytes "depth D is not 2 to 16, or does not divide the length")
    × (words_of 17 ≡ bytes "weights over cap, all 0, or the inequality fails at a state")
unfolding words_of phrases
words_are = (
  refl,
  refl,
  refl,
  refl,
  refl,
  refl,
  refl,
  refl,
  refl,
  refl,
  refl,
  refl,
  refl,
  refl,
  refl,
  refl,
  refl,
)
