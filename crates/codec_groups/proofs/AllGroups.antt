-- The groups of all words below a bound, word by word.
-- In order: Laying, with laying-start, laying-room, laying-more; laid.
-- Assumes nothing.
use Rattle.std.proofs.Common.{◌≡◌, ◌+◌, ◌%◌, ◌≤◌, ◌<◌}
use Rattle.laws.proofs.All.{refl, sym, ap, subst, subst₂, ◌∙◌, List, ℕ, zero, suc, arith}
use Rattle.laws.proofs.All.{ℕ_discrete, dec_lt, ltb-true, length, get_or, set, length-set, get_or-set_same}
use Rattle.laws.proofs.All.{get_or-set_other, replicate, length-replicate}
use Rattle.table.specs.Edges.{Arrays, Fits, places, word_of}
use Rattle.table.proofs.Edges.{bears-edge, bears-word}
use Rattle.bitsets.specs.declared.BitSet.{BitSet}
use Rattle.codec_groups.specs.Groups.{targets_at, Within, have_at, Sources, Grouped}
use Rattle.codec_groups.specs.Counts.{count, before}
use Rattle.codec_groups.proofs.Counts.{before_more, before-zero, before-le}
use Rattle.codec_groups.proofs.WordGroups.{GroupOf, OfWord, word_same, sources-same}

-- the groups of the words below v stand below k, those of each word where `start` says
pub record Laying (t : Arrays) (v k : ℕ) (start first : List ℕ) (sets : List BitSet) : Type 0 where
  pub start_long : length start ≡ 257
  pub first_long : length first ≡ 2048
  pub sets_long : places t ≤ length sets
  pub last : get_or start v 0 ≡ k
  pub rise : (w : ℕ) → w ≤ v → get_or start w 0 ≤ k
  pub room : k ≤ before t v (places t)
  pub words : (w : ℕ) → w < v → OfWord t w (get_or start w 0) (get_or start (w + 1) 0) first sets
  pub sources : (w : ℕ) → w < v → 2304 ≤ length sets
      → Sources first (get_or start w 0) (get_or start (w + 1) 0) (have_at sets w)
  pub others : (w : ℕ) → v < w → get_or start w 0 ≡ 0

zeros : (n w : ℕ) → ◌≡◌ {A = ℕ} (get_or (replicate n 0) w 0) 0
zeros zero w = refl
zeros (suc n) zero = refl
zeros (suc n) (suc w) = zeros n w

-- no word yet
pub laying-start : (t : Arrays) (first : List ℕ) (sets : List BitSet) → length first ≡ 2048
    → places t ≤ length sets → Laying t 0 0 (replicate 257 0) first sets
laying-start t first sets b c = record {
  start_long = length-replicate {A = ℕ} 257 0;
  first_long = b;
  sets_long = c;
  last = zeros 257 0;
  rise = λ w h. omega (arith, zeros 257 w);
  room = omega (arith, before-zero t (places t));
  words = λ w h. absurd (omega arith);
  sources = λ w h. absurd (omega arith);
  others = λ w h. zeros 257 w;
}

module _ (t : Arrays) (v k : ℕ) (start first : List ℕ) (sets : List BitSet) (y : Laying t v k start first sets) where
  -- there is room for as many groups as there are edges with the word
  pub laying-room : (m : ℕ) → m ≤ count t v (places t) → k + m ≤ places t
  laying-room m h = omega (arith, y.room, before_more t v (places t), before-le t (v + 1) (places t))

  -- the groups of one word more
  pub laying-more : v < 256 → (m : ℕ) → m ≤ count t v (places t) → (f : List ℕ) (l : List BitSet) → length f ≡ 2048
      → length l ≡ length sets → OfWord t v k (k + m) f l
      → ((j : ℕ) → j < k → get_or f j 0 ≡ get_or first j 0)
      → ((j : ℕ) → j < k → targets_at l j ≡ targets_at sets j)
      → (2304 ≤ length sets → Sources f k (k + m) (have_at l v))
      → ((w : ℕ) → w < v → have_at l w ≡ have_at sets w)
      → Laying t (v + 1) (k + m) (set start (v + 1) (k + m)) f l
  laying-more b m few f l a c o p q s r = record {
    start_long = length-set start (v + 1) (k + m) ∙ y.start_long;
    first_long = a;
    sets_long = omega (arith, c, y.sets_long);
    last = new;
    rise = λ w i. at-rise w i (ℕ_discrete w (v + 1));
    room = omega (arith, y.room, before_more t v (places t));
    words = λ w i. at-word w i (ℕ_discrete w v);
    sources = λ w i x. at-sources w i (omega (arith, c)) (ℕ_discrete w v);
    others = λ w i. get_or-set_other start (v + 1) w (k + m) 0 (λ e. omega arith) ∙ y.others w (omega arith);
  }
    where
      new : get_or (set start (v + 1) (k + m)) (v + 1) 0 ≡ k + m
      new = get_or-set_same start (v + 1) (k + m) 0 (omega (arith, y.start_long))

      old : (w : ℕ) → w ≤ v → get_or (set start (v + 1) (k + m)) w 0 ≡ get_or start w 0
      old w i = get_or-set_other start (v + 1) w (k + m) 0 (λ e. omega arith)

      at-rise : (w : ℕ) → w ≤ v + 1 → Dec (w ≡ v + 1) → get_or (set start (v + 1) (k + m)) w 0 ≤ k + m
      at-rise w i (yes e) = omega (arith, ap (λ x. get_or (set start (v + 1) (k + m)) x 0) e, new)
      at-rise w i (no e) = omega (arith, old w (omega arith), y.rise w (omega arith))

      at-word : (w : ℕ) → w < v + 1 → Dec (w ≡ v)
          → OfWord t w (get_or (set start (v + 1) (k + m)) w 0) (get_or (set start (v + 1) (k + m)) (w + 1) 0) f l
      at-word w i (yes e) =
          subst (λ x. OfWord t x (get_or (set start (v + 1) (k + m)) x 0) (get_or (set start (v + 1) (k + m)) (x + 1) 0)
          f l) (sym e)
          (subst₂ (λ from to. OfWord t v from to f l) (sym (old v (omega arith) ∙ y.last)) (sym new) o)
      at-word w i (no e) =
          let n : w < v = omega arith in
          let r = y.rise (w + 1) (omega arith) in
          subst₂ (λ from to. OfWord t w from to f l) (sym (old w (omega arith))) (sym (old (w + 1) (omega arith)))
          (word_same t w (get_or start w 0) (get_or start (w + 1) 0) first sets f l (y.words w n)
          (λ j z. p j (omega arith)) (λ j z. q j (omega arith)))

      at-sources : (w : ℕ) → w < v + 1 → 2304 ≤ length sets → Dec (w ≡ v)
          → Sources f (get_or (set start (v + 1) (k + m)) w 0) (get_or (set start (v + 1) (k + m)) (w + 1) 0)
          (have_at l w)
      at-sources w i x (yes e) =
          subst (λ u. Sources f (get_or (set start (v + 1) (k + m)) u 0) (get_or (set start (v + 1) (k + m)) (u + 1) 0)
          (have_at l u)) (sym e)
          (subst₂ (λ from to. Sources f from to (have_at l v)) (sym (old v (omega arith) ∙ y.last)) (sym new) (s x))
      at-sources w i x (no e) =
          let n : w < v = omega arith in
          let g = y.rise (w + 1) (omega arith) in
          subst₂ (λ from to. Sources f from to (have_at l w)) (sym (old w (omega arith)))
          (sym (old (w + 1) (omega arith)))
          (sources-same first f (get_or start w 0) (get_or start (w + 1) 0) (have_at sets w) (have_at l w) (r w n)
          (y.sources w n x) (λ j u. p j (omega (arith, g))))

-- the groups of all words, where none from v on is in use
pub laid : (t : Arrays) (v k : ℕ) (start first : List ℕ) (sets : List BitSet) → Fits t → v ≤ 256
    → ((e : ℕ) → e < places t → e % 16 < t.ways → word_of t e < v) → Laying t v k start first sets
    → Grouped t start first sets
laid t v k start first sets g few bound y = record {
  fits = g;
  room = λ w h. room w;
  below = λ w j i. (group w j i).below;
  edge = λ w j i. (group w j i).edge;
  least = λ w j e i. (group w j i).least e;
  rising = λ w j l a b c. (y.words w (used w j a)).rising j l a.1 c b.2;
  whole = λ w e h l q.
      let z : word_of t e ≡ w = bears-word t w e q in
      let (j, a, b, r) = (y.words w (omega (arith, bound e l (ltb-true _ _ (bears-edge t w e q))))).whole e l q in
      (j, (h, a, b), r);
  targets = λ w j u i. (group w j i).targets u;
  sources = λ w j i. y.sources w (used w j i);
}
  where
    fits : (w : ℕ) → Dec (w < v) → get_or start (w + 1) 0 ≤ places t
    fits w (yes h) = omega (arith, y.rise (w + 1) (omega arith), y.room, before-le t v (places t))
    fits w (no h) = omega (arith, y.others (w + 1) (omega arith))

    room : (w : ℕ) → (get_or start (w + 1) 0 ≤ 2048) × (get_or start (w + 1) 0 ≤ length sets)
    room w =
        let h = fits w (dec_lt w v) in
        (omega (arith, h, g.few), omega (arith, h, y.sets_long))

    -- a word that has a group is in use
    used : (w j : ℕ) → Within start w j → w < v
    used w j (h, a, b) = go (dec_lt w v)
      where
        go : Dec (w < v) → w < v
        go (yes i) = i
        go (no i) = absurd (omega (arith, y.others (w + 1) (omega arith)))

    group : (w j : ℕ) → Within start w j → GroupOf t w (get_or first j 0) (targets_at sets j)
    group w j i = (y.words w (used w j i)).group j i.1 i.2
