-- Rounds of weights by the counts of words.
-- In order: count_none, count_yes, count_no, words counted; term-small; sum_is, lower-is, lowered_is, one round;
-- lower-le; Round, round-start, round-more, round-still, round-end; count-le.
-- Assumes nothing.
use Rattle.std.proofs.Common.{◌≡◌, ◌∷◌, ◌++◌, ◌+◌, ◌-◌, ◌*◌, ◌/◌, ◌%◌, ◌≤◌, ◌<◌, if◌then◌else◌}
use Rattle.laws.proofs.All.{refl, sym, ap, ap₂, ◌∙◌, Bool, true, false, List, [], append-nil, ℕ}
use Rattle.laws.proofs.All.{suc, min, le_trans, mul-le-mul, arith, eq-eqb}
use Rattle.laws.proofs.All.{ne_eqb, length, get_or, take, length-append, replicate, length-replicate, get_or-replicate}
use Rattle.laws.proofs.All.{length-take-le, get_or-take, range, filter, iterate, tot, each_map, tot-eq}
use Rattle.laws.proofs.All.{map-range-at, length_from, each-range, iterate_fixed, take-replicate, filter-append}
use Rattle.laws.proofs.All.{quotient-of, remainder_of, range-more, length-map-range, take_same}
use Rattle.compile_graph.specs.Arcs.{Arc}
use Rattle.compile_graph.specs.Weights.{words_between, term, product, lower, lowered, weights}
use Rattle.compile_weights.specs.PowerTable.{entry_at, tabled, word_leads, word_count, term_by, sum_by, lower_by}
use Rattle.compile_weights.proofs.TabledWords.{between-count}

-- ---- counting words
module _ (P : List ℕ) (s t : ℕ) where
  counted-snoc : (w : ℕ) → filter (word_leads P s t) (range (w + 1))
      ≡ filter (word_leads P s t) (range w) ++ filter (word_leads P s t) (w ∷ [])
  counted-snoc w = ap (filter (word_leads P s t)) (range-more w) ∙ filter-append (word_leads P s t) (range w) (w ∷ [])

  pub count_none : word_count P 0 s t ≡ 0
  unfolding word_count
  count_none = refl

  pub count_yes : (w : ℕ) → entry_at P s w ≡ t → word_count P (w + 1) s t ≡ word_count P w s t + 1
  unfolding word_count
  count_yes w q =
      ap length (counted-snoc w
      ∙ ap (λ b. filter (word_leads P s t) (range w) ++ (if b then w ∷ [] else [])) (eq-eqb (entry_at P s w) t q))
      ∙ length-append (filter (word_leads P s t) (range w)) (w ∷ [])

  pub count_no : (w : ℕ) → (entry_at P s w ≡ t → ⊥) → word_count P (w + 1) s t ≡ word_count P w s t
  unfolding word_count
  count_no w q =
      ap length (counted-snoc w
      ∙ ap (λ b. filter (word_leads P s t) (range w) ++ (if b then w ∷ [] else [])) (ne_eqb (entry_at P s w) t q)
      ∙ append-nil (filter (word_leads P s t) (range w)))

-- ---- a term of a sum
pub term-small : (a b : ℕ) → a ≤ 256 → b ≤ 16 → a * b ≤ 4096
term-small a b h k = mul-le-mul h k

-- ---- one weight of a round
module _ (P A : List ℕ) (words K : ℕ) (few : K ≤ 16)
    (is : (x : ℕ) → x < K * 16 → get_or A x 0 ≡ word_count P words (x / 16) (x % 16)) where
  abbrev g : List Arc
  g = tabled P words K

  count_at : (s t : ℕ) → s < K → t < K → get_or A (s * 16 + t) 0 ≡ words_between g s t
  count_at s t h l =
      is (s * 16 + t) (omega arith)
      ∙ ap₂ (word_count P words) (quotient-of 16 s t (omega arith)) (remainder_of 16 s t (omega arith))
      ∙ sym (between-count P words K s t h (λ e. omega arith))

  module _ (v : List ℕ) (long : length v ≡ 16) where
    front_long : length (take K v) ≡ K
    front_long = length-take-le K v (omega arith)

    pub sum_is : (s : ℕ) → s < K → sum_by A v K s ≡ product g (take K v) s
    unfolding sum_by
    sum_is s h =
        tot-eq (term_by A v s) (term g (take K v) s) (range K)
        (each_map (λ t. t < K) _
        (λ t l. ap₂ (λ x y. x * y) (count_at s t h l) (sym (get_or-take K v t 0 l))) (range K) (each-range K))
        ∙ ap (λ k. tot (term g (take K v) s) (range k)) (sym front_long)

  module _ (n : ℕ) (v : List ℕ) (long : length v ≡ 16) where
    abbrev front : List ℕ
    front = take K v

    pub lower-is : (s : ℕ) → s < K → lower_by A v K s n ≡ lower n g front s
    unfolding lower_by
    lower-is s h = ap₂ (λ x y. min x (y / n)) (sym (get_or-take K v s 0 h)) (sum_is v long s h)

    pub lowered_is : (w : List ℕ) → length w ≡ 16 → ((s : ℕ) → s < K → get_or w s 0 ≡ lower_by A v K s n)
        → take K w ≡ lowered n g front
    lowered_is w l f =
        let e = front_long v long in
        take_same w (lowered n g front) K (length-map-range (lower n g front) (length front) ∙ e) (omega arith)
        (λ s h. f s h ∙ lower-is s h ∙ sym (map-range-at (lower n g front) (length front) s 0 (rw e h)))

pub lower-le : (A v : List ℕ) (k s n : ℕ) → lower_by A v k s n ≤ get_or v s 0
unfolding lower_by
lower-le A v k s n = omega arith

-- ---- rounds
pub record Round (n cap K : ℕ) (g : List Arc) (i : ℕ) (v : List ℕ) : Type 0 where
  pub long : length v ≡ 16
  pub low : (s : ℕ) → s < K → get_or v s 0 ≤ cap
  pub leads : iterate (lowered n g) (K * cap - i) (take K v) ≡ weights n cap K g

pub round-start : (n cap K : ℕ) (g : List Arc) → K ≤ 16 → Round n cap K g 0 (replicate 16 cap)
unfolding weights
round-start n cap K g h = record {
  long = length-replicate 16 cap;
  low = λ s l. omega (arith, get_or-replicate 16 s cap 0 (omega arith));
  leads =
      let z : K * cap - 0 ≡ K * cap = omega arith in
      ap₂ (iterate (lowered n g)) z (take-replicate K 16 cap h);
}

module _ (n cap K : ℕ) (g : List Arc) (i : ℕ) (v : List ℕ) (few : K ≤ 16) (c : Round n cap K g i v) (w : List ℕ)
    (lw : length w ≡ 16) (e : take K w ≡ lowered n g (take K v)) where
  pub round-more : i < K * cap → ((s : ℕ) → s < K → get_or w s 0 ≤ get_or v s 0) → Round n cap K g (i + 1) w
  round-more h l = record {
    long = lw;
    low = λ s b. le_trans (l s b) (c.low s b);
    leads =
        let q : suc (K * cap - (i + 1)) ≡ K * cap - i = omega arith in
        ap (iterate (lowered n g) (K * cap - (i + 1))) e
        ∙ ap (λ m. iterate (lowered n g) m (take K v)) q ∙ c.leads;
  }

  -- nothing changes
  pub round-still : take K w ≡ take K v → take K v ≡ weights n cap K g
  round-still same = sym (iterate_fixed (lowered n g) (K * cap - i) (take K v) (sym e ∙ same)) ∙ c.leads

pub round-end : (n cap K : ℕ) (g : List Arc) (i : ℕ) (v : List ℕ) → K * cap ≤ i → Round n cap K g i v
    → take K v ≡ weights n cap K g
round-end n cap K g i v h c =
    let z : K * cap - i ≡ 0 = omega arith in
    ap (λ m. iterate (lowered n g) m (take K v)) (sym z) ∙ c.leads

pub count-le : (P : List ℕ) (words s t : ℕ) → word_count P words s t ≤ words
unfolding word_count
count-le P words s t = omega (arith, filter-length (word_leads P s t) (range words), length_from 0 words)
  where
    filter-length : (p : ℕ → Bool) (l : List ℕ) → length (filter p l) ≤ length l
    filter-length p [] = omega arith
    filter-length p (x ∷ l) = go (p x) (filter-length p l)
      where
        go : (b : Bool) → length (filter p l) ≤ length l
            → length (if b then x ∷ filter p l else filter p l) ≤ suc (length l)
        go true h = omega arith
        go false h = omega arith
