-- Weights that are brought, by the counts of words: the inequality fails exactly where a round lowers a weight.
-- In order: low-front, weighty-front; passing-parts; found-none; low-found, low-by, low_small; unmet-is, met-found,
-- met-by.
-- Assumes nothing.
use Rattle.std.proofs.Common.{Option, None, Some, is_none, unwrap_or, IfSome, ◌≡◌, ◌&&◌, ◌*◌, ◌/◌, ◌%◌, ◌≤◌, ◌<◌}
use Rattle.laws.proofs.All.{refl, sym, ap, ap₂, subst, ◌∙◌, Bool, true, false, not, List, ℕ}
use Rattle.laws.proofs.All.{le_of_eq, arith, ℕ_discrete, T, eqb, leb, ltb, leb→le, le-ltb, lt-ltb, eq-eqb, ne_eqb, length}
use Rattle.laws.proofs.All.{get_or, take, length-take-le, get_or-take, range, all, any, first, any-range-same}
use Rattle.laws.proofs.All.{all-below→}
use Rattle.compile_graph.specs.Arcs.{Arc}
use Rattle.compile_graph.specs.Weights.{low, weighty, meets, lower, passing}
use Rattle.compile_graph.proofs.Weights.{still-meets}
use Rattle.compile_weights.specs.PowerTable.{tabled, word_count, lower_by}
use Rattle.compile_weights.specs.Failures.{over, unmet, unmet_by}
use Rattle.compile_weights.proofs.Searches.{all_first, all_same}
use Rattle.compile_weights.proofs.WeightRounds.{lower-is, lower-le}

-- ---- the first K weights
module _ (K : ℕ) (v : List ℕ) where
  pub low-front : (cap : ℕ) → all (low cap (take K v)) (range K) ≡ all (low cap v) (range K)
  low-front cap =
      all_same (low cap (take K v)) (low cap v) K (λ s h. ap (λ w. leb w cap) (get_or-take K v s 0 h))

  pub weighty-front : any (weighty (take K v)) (range K) ≡ any (weighty v) (range K)
  weighty-front = any-range-same (weighty (take K v)) (weighty v) K (λ s h. ap (ltb 0) (get_or-take K v s 0 h))

-- the three tests of them
pub passing-parts : (n cap K : ℕ) (g : List Arc) (v : List ℕ) → K ≤ 16 → length v ≡ 16
    → passing n cap g (take K v) ≡ (all (low cap v) (range K)
    && (any (weighty v) (range K) && all (meets n g (take K v)) (range K)))
unfolding passing
passing-parts n cap K g v few long =
    ap (λ m. all (low cap (take K v)) (range m)
    && (any (weighty (take K v)) (range m) && all (meets n g (take K v)) (range m)))
    (length-take-le K v (omega arith))
    ∙ ap₂ (λ a b. a && (b && all (meets n g (take K v)) (range K))) (low-front K v cap) (weighty-front K v)

-- a search that finds none says so
found-none : (r : Option ℕ) (K : ℕ) → IfSome r (λ s. s < K) → eqb (unwrap_or r K) K ≡ is_none r
found-none None K h = eq-eqb K K refl
found-none (Some s) K h = ne_eqb s K (λ e. omega arith)

-- ---- weights at most cap
module _ (cap K : ℕ) (v : List ℕ) where
  pub low-found : (s : ℕ) → s ≡ first (over cap v) K (range K) → all (low cap v) (range K) ≡ eqb s K
  low-found s e = all_first (over cap v) K (low cap v) (λ i h. refl) ∙ ap (λ r. eqb r K) (sym e)

  pub low-by : (r : Option ℕ) → unwrap_or r K ≡ first (over cap v) K (range K) → IfSome r (λ s. s < K)
      → all (low cap v) (range K) ≡ is_none r
  low-by r e h = low-found (unwrap_or r K) e ∙ found-none r K h

  pub low_small : all (low cap v) (range K) ≡ true → cap ≤ 16 → (s : ℕ) → s < K → get_or v s 0 ≤ 16
  low_small e h s l =
      let b = leb→le (get_or v s 0) cap (all-below→ (low cap v) K (subst T (sym e) tt) s l) in
      omega arith

-- ---- the inequality
module _ (P A : List ℕ) (words K n : ℕ) (few : K ≤ 16) (hn : 0 < n)
    (is : (x : ℕ) → x < K * 16 → get_or A x 0 ≡ word_count P words (x / 16) (x % 16))
    (v : List ℕ) (long : length v ≡ 16) where
  -- THEOREM: the inequality fails at a state exactly when a round lowers its weight
  pub unmet-is : (s : ℕ) → s < K → unmet_by A v K n s ≡ unmet n (tabled P words K) (take K v) s
  unmet-is s h = go (meets n g u s) refl
    where
      g : List Arc
      g = tabled P words K

      u : List ℕ
      u = take K v

      kept : get_or u s 0 ≡ get_or v s 0
      kept = get_or-take K v s 0 h

      low-is : lower_by A v K s n ≡ lower n g u s
      low-is = lower-is P A words K few is n v long s h

      go : (b : Bool) → meets n g u s ≡ b → ltb (lower_by A v K s n) (get_or v s 0) ≡ not b
      go true e =
          let q : get_or v s 0 ≡ lower_by A v K s n =
          sym (low-is ∙ (still-meets n 0 g u hn s).1 (subst T (sym e) tt) ∙ kept) in
          le-ltb (lower_by A v K s n) (get_or v s 0) (le_of_eq q)
      go false e = elim (ℕ_discrete (lower_by A v K s n) (get_or v s 0)) [
        | yes q ↦ absurd (subst T e ((still-meets n 0 g u hn s).0 (sym low-is ∙ q ∙ sym kept)))
        | no q ↦ lt-ltb (lower_by A v K s n) (get_or v s 0) (omega (arith, lower-le A v K s n))
      ]

  pub met-found : (s : ℕ) → s ≡ first (unmet_by A v K n) K (range K)
      → all (meets n (tabled P words K) (take K v)) (range K) ≡ eqb s K
  met-found s e =
      all_first (unmet_by A v K n) K (meets n (tabled P words K) (take K v)) unmet-is ∙ ap (λ r. eqb r K) (sym e)

  pub met-by : (r : Option ℕ) → unwrap_or r K ≡ first (unmet_by A v K n) K (range K) → IfSome r (λ s. s < K)
      → all (meets n (tabled P words K) (take K v)) (range K) ≡ is_none r
  met-by r e h = met-found (unwrap_or r K) e ∙ found-none r K h
