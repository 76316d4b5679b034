-- The search for a run: sums of stretches, from the last place back.
-- In order: stretch_sum; Summed, what holds after i places; total-is; stretch-more, stretch-small, summed-more, one
-- place more; run-found, run_none; Without, without_more, no run so far; first_found, first-nowhere.
-- Assumes nothing.
use Rattle.std.proofs.Common.{Some, None, ◌≡◌, ◌∷◌, ◌+◌, ◌-◌, ◌*◌, ◌%◌, ◌≤◌, ◌<◌}
use Rattle.laws.proofs.All.{refl, sym, ap, ◌∙◌, false, List, [], map, ℕ, suc}
use Rattle.laws.proofs.All.{add-one, arith, below_more, eq-eqb, ne_eqb, length, get_or, take, drop, length-map}
use Rattle.laws.proofs.All.{drop-cons, sum, any, map-range-at, any_false}
use Rattle.laws.proofs.All.{length-map-range, first-at, first_part, first-none, map-take, map-drop}
use Rattle.compile_choice.specs.declared.find_run.Run.{Run}
use Rattle.compile_graph.specs.Arcs.{Arc}
use Rattle.compile_graph.specs.Weights.{weight, total}
use Rattle.compile_graph.specs.Splitting.{stretch, runs_to, divisible}
use Rattle.compile_choice.specs.ChoiceParts.{RunTo, FirstRun}

-- the sum of the run of i + 1 weights that ends at place j
abbrev pub stretch_sum : List ℕ → ℕ → ℕ → ℕ
stretch_sum W j i = sum (take (i + 1) (drop (j - i) W))

-- after i places: their sum, and that no shorter run serves
pub record Summed (n : ℕ) (W : List ℕ) (j i s : ℕ) : Type 0 where
  pub whole : s ≡ sum (take i (drop (j + 1 - i) W))
  pub small : s ≤ 128 * i
  pub fails : (k : ℕ) → k < i → stretch_sum W j k % n ≡ 0 → ⊥

-- the weights of a stretch of edges
total-is : (v W : List ℕ) (es : List Arc) → map (weight v) es ≡ W → (j k : ℕ) → total v (stretch es j k)
    ≡ stretch_sum W j k
total-is v W es e j k = rw (map-take (weight v) (k + 1), map-drop (weight v) (j - k), e)

module _ (n : ℕ) (W : List ℕ) (j i s : ℕ) (hj : j < length W) (hi : i < j + 1)
    (low : (k : ℕ) → k < length W → get_or W k 0 ≤ 128) (c : Summed n W j i s) where
  pub stretch-more : s + get_or W (j - i) 0 ≡ stretch_sum W j i
  stretch-more =
      let a : suc (j - i) ≡ j + 1 - i = omega arith in
      let b : drop (j - i) W ≡ get_or W (j - i) 0 ∷ drop (j + 1 - i) W =
      cc (drop-cons W (j - i) 0 (omega arith)) in
      let d : stretch_sum W j i ≡ get_or W (j - i) 0 + sum (take i (drop (j + 1 - i) W)) = rw (add-one i, b) in
      omega (arith, c.whole)

  pub stretch-small : s + get_or W (j - i) 0 ≤ 128 * (i + 1)
  stretch-small = omega (arith, c.small, low (j - i) (omega arith))

  pub summed-more : ((s + get_or W (j - i) 0) % n ≡ 0 → ⊥) → Summed n W j (i + 1) (s + get_or W (j - i) 0)
  summed-more f = record {
    whole =
        let e : j + 1 - (i + 1) ≡ j - i = omega arith in
        stretch-more ∙ ap (λ k. sum (take (i + 1) (drop k W))) (sym e);
    small = stretch-small;
    fails = below_more (λ k. stretch_sum W j k % n ≡ 0 → ⊥) i c.fails
        (λ e. f (ap (λ x. x % n) stretch-more ∙ e));
  }

  pub run-found : (s + get_or W (j - i) 0) % n ≡ 0
      → RunTo n W j (Some (record { from = j - i; count = i + 1; total = s + get_or W (j - i) 0 }))
  run-found q = record {
    inside = (omega arith, omega arith);
    some = λ v es e.
        let (a, b) = first-at (divisible n v) [] (stretch es j) (j + 1) i
        (λ k l. ne_eqb (total v (stretch es j k) % n) 0 (λ z. c.fails k l (rw (total-is v W es e j k) at z)))
        (omega arith) (eq-eqb (total v (stretch es j i) % n) 0 (rw (total-is v W es e j i, ← stretch-more) q)) in
        (b, a, total-is v W es e j i ∙ sym stretch-more);
    none = λ v es e. tt;
  }

pub run_none : (n : ℕ) (W : List ℕ) (j i s : ℕ) → j < i → Summed n W j i s
    → RunTo n W j None
run_none n W j i s h c = record {
  inside = tt;
  some = λ v es e. tt;
  none = λ v es e.
      any_false (divisible n v) [] (runs_to es j)
      (λ k l. let b : k < j + 1 = rw (length-map-range (stretch es j) (j + 1)) at l in
      let at : get_or (runs_to es j) k [] ≡ stretch es j k = map-range-at (stretch es j) (j + 1) k [] b in
      rw at (ne_eqb (total v (stretch es j k) % n) 0
      (λ q. c.fails k (omega arith) (rw (total-is v W es e j k) at q))));
}

-- no run ends before place j
abbrev pub Without : ℕ → List ℕ → ℕ → Type 0
Without n W j = (v : List ℕ) (es : List Arc) → map (weight v) es ≡ W → (k : ℕ) → k < j
    → any (divisible n v) (runs_to es k) ≡ false

pub without_more : (n : ℕ) (W : List ℕ) (j : ℕ) → RunTo n W j None → Without n W j → Without n W (j + 1)
without_more n W j t f v es e =
    below_more (λ k. any (divisible n v) (runs_to es k) ≡ false) j (f v es e) (t.none v es e)

pub first_found : (n : ℕ) (W : List ℕ) (j : ℕ) (r : Run) → RunTo n W j (Some r) → j < length W → Without n W j
    → FirstRun n W r
first_found n W j r t l f = record {
  inside = t.inside.1;
  run = λ v es e.
      let (a, b, d) = t.some v es e in
      let m : length es ≡ length W = sym (length-map es (weight v)) ∙ ap length e in
      (first_part (divisible n v) [] (runs_to es) (length es) j (f v es e) (omega arith) a ∙ b, d);
}

pub first-nowhere : (n : ℕ) (W : List ℕ) → Without n W (length W)
    → FirstRun n W (record { from = 0; count = 0; total = 0 })
first-nowhere n W f = record {
  inside = omega arith;
  run = λ v es e.
      let m : length es ≡ length W = sym (length-map es (weight v)) ∙ ap length e in
      (first-none (divisible n v) [] (runs_to es) (length es) (λ k l. f v es e k (omega arith)), refl);
}
