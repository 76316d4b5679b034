-- A run whose weights sum to a multiple of n: there is one among n edges, and what it weighs.
-- In order: run-exists, PartOf, run_is.
-- Assumes nothing.
use Rattle.std.proofs.Common.{◌≡◌, ◌∷◌, ◌+◌, ◌*◌, ◌-◌, ◌/◌, ◌%◌, ◌≤◌, ◌<◌}
use Rattle.laws.proofs.All.{ap, ◌∙◌, List, [], map, ℕ, zero, suc}
use Rattle.laws.proofs.All.{zero-le, suc-le-suc, le_of_suc-le-suc, not-suc-le-zero, le_trans, mod-lt, mod-add-div'}
use Rattle.laws.proofs.All.{arith, T, eqb→eq, length, take, drop, add-one, range, any, →any-below, Each, tot}
use Rattle.laws.proofs.All.{each_map, each-always, each_take, each-drop, first_passes, each-image, Twice, pigeon}
use Rattle.laws.proofs.All.{mod-diff, tot-take-add, tot-take-le, tot-drop-le, each-range, any-image, each-union}
use Rattle.laws.proofs.All.{any-union}
use Rattle.compile_graph.specs.Arcs.{Arc}
use Rattle.compile_graph.specs.Weights.{weight, total}
use Rattle.compile_graph.specs.Splitting.{stretch, runs, divisible, first_run}

module _ (n : ℕ) (v : List ℕ) (es : List Arc) (hn : 0 < n) (size : length es ≡ n) where
  -- among n edges there is a run whose weights sum to a multiple of n
  pub run-exists : T (any (divisible n v) (runs es))
  run-exists = go (pigeon n (λ i. total v (take i es) % n) (λ i h. mod-lt (total v (take i es)) hn))
    where
      go : Twice n (λ i. total v (take i es) % n) → T (any (divisible n v) (runs es))
      go (i, j, l, h, e) =
          let k = j - 1 - i in
          let a : k + 1 ≡ j - i = omega arith in
          let b : j - 1 - k ≡ i = omega arith in
          let c : j ≡ i + (j - i) = omega arith in
          let d : total v (take j es) ≡ total v (take i es) + total v (take (j - i) (drop i es)) =
          ap (λ k. total v (take k es)) c ∙ tot-take-add (weight v) i (j - i) es in
          let z : total v (take (j - i) (drop i es)) % n ≡ 0 =
          mod-diff n (total v (take i es)) (total v (take (j - i) (drop i es))) (e ∙ ap (λ k. k % n) d) in
          let t : T (divisible n v (stretch es (j - 1) k)) = rw (a, b, z) tt in
          any-union (divisible n v) (λ j. map (stretch es j) (range (j + 1))) (range (length es))
          (→any-below (λ j. any (divisible n v) (map (stretch es j) (range (j + 1)))) (length es) (j - 1)
          (rw size (omega arith))
          (any-image (divisible n v) (stretch es (j - 1)) (range (j - 1 + 1))
          (→any-below (λ i. divisible n v (stretch es (j - 1) i)) (j - 1 + 1) k (omega arith) t)))

take-some : {A : Type 0} (k i : ℕ) (l : List A) → k < length l → 0 < length (take (i + 1) (drop k l))
take-some k i [] h = absurd (not-suc-le-zero h)
take-some zero i (x ∷ l) h = rw (add-one i) (suc-le-suc zero-le)
take-some (suc k) i (x ∷ l) h = take-some k i l (le_of_suc-le-suc h)

total-pos : (v : List ℕ) (es : List Arc) → Each (λ e. 0 < weight v e) es → 0 < length es → 0 < total v es
total-pos v [] p h = absurd (not-suc-le-zero h)
total-pos v (e ∷ es) p h = omega (arith, p.0)

-- a run that is part of the list, and weighs something
abbrev pub PartOf : List ℕ → List Arc → List Arc → Type 0
PartOf v es r = ((f : Arc → ℕ) → tot f r ≤ tot f es) × (0 < total v r)

stretch-part : (v : List ℕ) (es : List Arc) → Each (λ e. 0 < weight v e) es → (j i : ℕ) → j < length es
    → PartOf v es (stretch es j i)
stretch-part v es p j i h = (
  λ f. le_trans (tot-take-le f (i + 1) (drop (j - i) es)) (tot-drop-le f (j - i) es),
  total-pos v (stretch es j i) (each_take _ (i + 1) (drop (j - i) es) (each-drop _ (j - i) es p))
      (take-some (j - i) i es (omega arith)),
)

runs-part : (v : List ℕ) (es : List Arc) → Each (λ e. 0 < weight v e) es → Each (PartOf v es) (runs es)
runs-part v es p =
    each-union (PartOf v es) (λ j. map (stretch es j) (range (j + 1))) (range (length es))
    (each_map (λ j. j < length es) _
    (λ j h. each-image (PartOf v es) (stretch es j) (range (j + 1))
    (each-always _ (λ i. stretch-part v es p j i h) (range (j + 1)))) (range (length es))
    (each-range (length es)))

-- the run found is part of the list, weighs something, and a multiple of n
pub run_is : (n : ℕ) (v : List ℕ) (es : List Arc) → 0 < n → length es ≡ n → Each (λ e. 0 < weight v e) es
    → PartOf v es (first_run n v es) × (total v (first_run n v es) ≡ total v (first_run n v es) / n * n)
run_is n v es hn size p =
    let (t, q) = first_passes (divisible n v) [] (PartOf v es) (runs es) (run-exists n v es hn size)
    (runs-part v es p) in
    let z : total v (first_run n v es) % n ≡ 0 = eqb→eq (total v (first_run n v es) % n) 0 t in
    (q, omega (arith, mod-add-div' (total v (first_run n v es)) n))
