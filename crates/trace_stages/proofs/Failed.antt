-- Why weights fail, as the searches of the code find it.
-- In order: short-told; all-low, fail-over; fail-zero, fail-short, not-met; unmet-below, unmet-first.
-- Assumes nothing.
use Rattle.std.proofs.Common.{◌≡◌, ◌&&◌, ◌∷◌, ◌*◌, ◌/◌, ◌%◌, ◌≤◌, ◌<◌, if◌then◌else◌}
use Rattle.laws.proofs.All.{sym, ap, ap₂, subst, ◌∙◌, true, false, not, List, [], ℕ}
use Rattle.laws.proofs.All.{arith, eq-eqb, ne_eqb, eqb-false, leb, length, get_or, take, length-take-le}
use Rattle.laws.proofs.All.{get_or-take, range, all, any, first}
use Rattle.text.specs.Texts.{Added}
use Rattle.text.proofs.Adding.{added-same}
use Rattle.sentences.specs.Sentences.{said}
use Rattle.compile_graph.specs.Arcs.{Arc}
use Rattle.compile_graph.specs.Weights.{product, low, weighty, meets, passing}
use Rattle.compile_weights.specs.PowerTable.{tabled, word_count}
use Rattle.compile_weights.specs.Failures.{over, unmet, unmet_by}
use Rattle.compile_weights.proofs.Searches.{first-within, first_found, first-same}
use Rattle.compile_weights.proofs.Passing.{low-front, weighty-front, passing-parts, low-found, unmet-is, met-found}
use Rattle.trace_stages.specs.FailText.{over_line, zero_line, short_line, fail_line}

pub short-told : (s n weight sum by : ℕ) → by ≡ sum → {at r : ℕ} {B C : List ℕ}
    → Added (said "state #: # times weight # is #, its words lead to weight #\n"
    (s ∷ n ∷ weight ∷ n * weight ∷ by ∷ [])) at B C r
    → Added (short_line s n weight sum) at B C r
unfolding short_line
short-told s n weight sum by e = added-same (ap (short_line s n weight) e)

module _ (n cap K : ℕ) (g : List Arc) (v : List ℕ) (few : K ≤ 16) (long : length v ≡ 16) where
  -- the line, by the states at which the first and the last test fail
  by : ℕ → ℕ → List ℕ
  by s t =
      let u = take K v in
      if all (low cap v) (range K)
      then (if any (weighty v) (range K) then short_line t n (get_or u t 0) (product g u t) else zero_line)
      else over_line (get_or u s 0) s cap

  by-states : fail_line n cap g (take K v)
      ≡ by (first (over cap (take K v)) 0 (range K)) (first (unmet n g (take K v)) 0 (range K))
  unfolding fail_line by
  by-states =
      let u = take K v in
      ap (λ m. let S = range m in
      let s = first (over cap u) 0 S in
      let t = first (unmet n g u) 0 S in
      if all (low cap u) S then (if any (weighty u) S then short_line t n (get_or u t 0) (product g u t) else zero_line)
      else over_line (get_or u s 0) s cap) (length-take-le K v (omega arith))
      ∙ ap₂ (λ a b. let s = first (over cap u) 0 (range K) in
      let t = first (unmet n g u) 0 (range K) in
      if a then (if b then short_line t n (get_or u t 0) (product g u t) else zero_line) else over_line (get_or u s 0) s
      cap)
      (low-front K v cap) (weighty-front K v)

  -- ---- the first test
  module _ (s : ℕ) (found : s ≡ first (over cap v) K (range K)) where
    pub all-low : K ≤ s → all (low cap v) (range K) ≡ true
    all-low h = let w = first-within (over cap v) K in low-found cap K v s found ∙ eq-eqb s K (omega arith)

    -- THEOREM: a weight is over cap
    pub fail-over : s < K → over_line (get_or v s 0) s cap ≡ fail_line n cap g (take K v)
    unfolding by
    fail-over h =
        let u = take K v in
        let t = first (unmet n g u) 0 (range K) in
        let q : first (over cap u) 0 (range K) ≡ s =
        first-same (over cap u) (over cap v) 0 K (λ i l. ap (λ w. not (leb w cap)) (get_or-take K v i 0 l))
        ∙ first_found (over cap v) K 0 (subst (λ r. r < K) found h) ∙ sym found in
        sym (by-states ∙ ap (λ r. by r t) q
        ∙ ap₂ (λ b w. if b then (if any (weighty v) (range K) then short_line t n (get_or u t 0) (product g u t)
        else zero_line) else over_line w s cap)
        (low-found cap K v s found ∙ ne_eqb s K (λ e. omega arith)) (get_or-take K v s 0 h))

  -- ---- the others
  module _ (lows : all (low cap v) (range K) ≡ true) where
    -- THEOREM: all weights are 0
    pub fail-zero : any (weighty v) (range K) ≡ false → zero_line ≡ fail_line n cap g (take K v)
    unfolding by
    fail-zero none =
        let u = take K v in
        let s = first (over cap u) 0 (range K) in
        let t = first (unmet n g u) 0 (range K) in
        sym (by-states
        ∙ ap₂ (λ a b. if a then (if b then short_line t n (get_or u t 0) (product g u t) else zero_line)
        else over_line (get_or u s 0) s cap) lows none)

    module _ (some : any (weighty v) (range K) ≡ true) where
      -- THEOREM: the inequality fails
      pub fail-short : (t sum : ℕ) → t < K → first (unmet n g (take K v)) 0 (range K) ≡ t
          → sum ≡ product g (take K v) t → short_line t n (get_or v t 0) sum ≡ fail_line n cap g (take K v)
      unfolding by
      fail-short t sum h q e =
          let u = take K v in
          let s = first (over cap u) 0 (range K) in
          sym (by-states ∙ ap (by s) q
          ∙ ap₂ (λ a b. if a then (if b then short_line t n (get_or u t 0) (product g u t) else zero_line)
          else over_line (get_or u s 0) s cap) lows some
          ∙ ap₂ (short_line t n) (get_or-take K v t 0 h) (sym e))

      -- weights that fail and pass the first two tests fail the last
      pub not-met : passing n cap g (take K v) ≡ false → all (meets n g (take K v)) (range K) ≡ false
      not-met e =
          sym (ap₂ (λ a b. a && (b && all (meets n g (take K v)) (range K))) lows some)
          ∙ sym (passing-parts n cap K g v few long) ∙ e

-- ---- the state that the code finds
module _ (P A : List ℕ) (words K n : ℕ) (few : K ≤ 16) (hn : 0 < n)
    (is : (x : ℕ) → x < K * 16 → get_or A x 0 ≡ word_count P words (x / 16) (x % 16)) (v : List ℕ)
    (long : length v ≡ 16)
    (t : ℕ) (found : t ≡ first (unmet_by A v K n) K (range K)) where
  pub unmet-below : all (meets n (tabled P words K) (take K v)) (range K) ≡ false → t < K
  unmet-below e =
      let w = first-within (unmet_by A v K n) K in
      let d : t ≡ K → ⊥ = eqb-false t K (sym (met-found P A words K n few hn is v long t found) ∙ e) in
      omega (arith, d)

  pub unmet-first : t < K → first (unmet n (tabled P words K) (take K v)) 0 (range K) ≡ t
  unmet-first h =
      sym (first-same (unmet_by A v K n) (unmet n (tabled P words K) (take K v)) 0 K
      (unmet-is P A words K n few hn is v long))
      ∙ first_found (unmet_by A v K n) K 0 (subst (λ r. r < K) found h) ∙ sym found
