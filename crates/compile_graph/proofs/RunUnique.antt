-- "And of those the shortest" never decides: two runs with one end would leave a run that ends earlier.
-- In order: earlier-run; shortest-idle.
-- Assumes nothing.
use Rattle.std.proofs.Common.{◌≡◌, ◌+◌, ◌-◌, ◌%◌, ◌≤◌, ◌<◌}
use Rattle.laws.proofs.All.{sym, ap, ◌∙◌, List, ℕ, add_comm, arith, dec_lt, T, eqb→eq}
use Rattle.laws.proofs.All.{take, drop, drop-drop, mod-diff, tot-take-add}
use Rattle.compile_graph.specs.Arcs.{Arc}
use Rattle.compile_graph.specs.Weights.{weight, total}
use Rattle.compile_graph.specs.Splitting.{stretch, divisible}

module _ (n : ℕ) (v : List ℕ) (es : List Arc) where
  -- the longer run is the shorter with a run before it
  front : (j i i' : ℕ) → i < i' → i' ≤ j
      → total v (stretch es j i') ≡ total v (stretch es (j - i - 1) (i' - i - 1)) + total v (stretch es j i)
  front j i i' h l =
      let k = i' - i in
      let a : i' + 1 ≡ k + (i + 1) = omega arith in
      let b : i' - i - 1 + 1 ≡ k = omega arith in
      let c : j - i - 1 - (i' - i - 1) ≡ j - i' = omega arith in
      let d : k + (j - i') ≡ j - i = omega arith in
      let d' : j - i' + k ≡ j - i = omega arith in
      ap (λ x. total v (take x (drop (j - i') es))) a
      ∙ tot-take-add (weight v) k (i + 1) (drop (j - i') es)
      ∙ rw (b, c) (ap (λ l. total v (take k (drop (j - i') es)) + total v (take (i + 1) l))
      (drop-drop k (j - i') es ∙ ap (λ x. drop x es) d'))

  -- two runs that end at j, both summing to a multiple of n, leave one that ends before
  pub earlier-run : (j i i' : ℕ) → i < i' → i' ≤ j → T (divisible n v (stretch es j i))
      → T (divisible n v (stretch es j i')) → T (divisible n v (stretch es (j - i - 1) (i' - i - 1)))
  earlier-run j i i' h l t t' =
      let x = total v (stretch es j i) in
      let y = total v (stretch es (j - i - 1) (i' - i - 1)) in
      let e : x % n ≡ 0 = eqb→eq (x % n) 0 t in
      let e' : total v (stretch es j i') % n ≡ 0 = eqb→eq (total v (stretch es j i') % n) 0 t' in
      let s : total v (stretch es j i') ≡ x + y = front j i i' h l ∙ add_comm y x in
      let z : y % n ≡ 0 = mod-diff n x y (e ∙ sym e' ∙ ap (λ k. k % n) s) in
      rw z tt

  -- of the runs that end first there is one only
  pub shortest-idle : (j i i' : ℕ) → ((k d : ℕ) → k < j → d ≤ k → T (divisible n v (stretch es k d)) → ⊥)
      → i ≤ j → i' ≤ j → T (divisible n v (stretch es j i)) → T (divisible n v (stretch es j i')) → i ≡ i'
  shortest-idle j i i' none l l' t t' = go (dec_lt i i') (dec_lt i' i)
    where
      go : Dec (i < i') → Dec (i' < i) → i ≡ i'
      go (yes h) d = absurd (none (j - i - 1) (i' - i - 1) (omega arith) (omega arith) (earlier-run j i i' h l' t t'))
      go (no h) (yes k) =
          absurd (none (j - i' - 1) (i - i' - 1) (omega arith) (omega arith) (earlier-run j i' i k l t' t))
      go (no h) (no k) = omega arith
