-- From bytes, 1, 2, 8, 14 and 17 come exactly as the first check that a job's bytes do not meet says.
-- In order: job-order, run-length-order, joined-order.
-- Assumes nothing.
use Rattle.std.proofs.Common.{◌≡◌, ◌⊎◌, ◌↔◌, ◌∷◌, ◌+◌, ◌*◌, ◌^◌, ◌≤◌}
use Rattle.laws.proofs.All.{List, [], ℕ, length, get_or, drop}
use Rattle.answer.specs.declared.Refusal.{Refusal}
use Rattle.answer.specs.declared.Refusal.TheVariants.{Parameters, States, Length, TooManyPairs, BadWeights}
use Rattle.answer.specs.Outcomes.{refused}
use Rattle.answer.specs.Orders.{check, First}
use Rattle.constraint.specs.Walking.{run_length}
use Rattle.joining.specs.Joined.{pairs}
use Rattle.compile_graph.specs.Arcs.{power}
use Rattle.compile_graph.specs.Weights.{Passing}
use Rattle.compile_job.specs.Jobs.{states_of}
use Rattle.compile_job.specs.Ranges.{Ranged, Few, Nexts}
use Rattle.compile_job.proofs.Orders.{read-order, run-length-order as read-run-length}
use Rattle.compile_job.proofs.JoinedOrder.{joined-order as read-joined}
use Rattle.compile.specs.Compile.{compile_job, compile_run_length, compile_joined}
use Rattle.compile.specs.Kinds.{general, run_length as kind_run_length, joined}
use Rattle.compile.proofs.Early.{Early}
use Rattle.compile.proofs.Written.{read-refused}

-- one equivalence after the other
then : {A B C : Type 0} → A ↔ B → B ↔ C → A ↔ C
then (f, g) (u, v) = ((λ a. u (f a)), (λ c. g (v c)))

module _ (xs : List ℕ) (room : ℕ) (r : Refusal) (h : Early r) where
  -- "8 below four bytes, 1, K by 2, 8, next states by 2", then 17
  pub job-order : let n = length xs in let K = get_or xs 3 0 in (compile_job xs room ≡ refused r)
      ↔ First (check Length (4 ≤ n) ∷ check Parameters (Ranged (get_or xs 0 0) (get_or xs 1 0) (get_or xs 2 0))
      ∷ check States (Few K) ∷ check Length ((n ≡ 4 + 2 * K) ⊎ (n ≡ 4 + 3 * K))
      ∷ check States (Nexts K (drop 4 xs))
      ∷ check BadWeights ((n ≡ 4 + 2 * K) ⊎ Passing (2 ^ get_or xs 0 0) (get_or xs 2 0)
      (power (states_of K (drop 4 xs)) (get_or xs 1 0)) (drop (4 + 2 * K) xs)) ∷ []) r
  job-order = then (read-refused general xs room r h) (read-order xs r)

  -- "8 below five bytes, 1, 2, 8 for a length other than 5 or 5 + K", then 17
  pub run-length-order : let n = length xs in let d = get_or xs 0 0 in let k = get_or xs 1 0 in
      (compile_run_length xs room ≡ refused r)
      ↔ First (check Length (5 ≤ n) ∷ check Parameters (Ranged (get_or xs 2 0) (get_or xs 3 0) (get_or xs 4 0))
      ∷ check States ((d ≤ k) × (k ≤ 15)) ∷ check Length ((n ≡ 5) ⊎ (n ≡ 5 + (k + 1)))
      ∷ check BadWeights ((n ≡ 5) ⊎ Passing (2 ^ get_or xs 2 0) (get_or xs 4 0) (power (run_length d k) (get_or xs 3 0))
      (drop 5 xs)) ∷ []) r
  run-length-order = then (read-refused kind_run_length xs room r h) (read-run-length xs r)

  -- "8 below four bytes, 1, then for each constraint 8 for a missing K, K by 2, 8, next states by 2", then 14
  pub joined-order : let n = length xs in let K = get_or xs 3 0 in let L = get_or xs (4 + 2 * K) 0 in
      (compile_joined xs room ≡ refused r)
      ↔ First (check Length (4 ≤ n) ∷ check Parameters (Ranged (get_or xs 0 0) (get_or xs 1 0) (get_or xs 2 0))
      ∷ check States (Few K) ∷ check Length (4 + 2 * K ≤ n) ∷ check States (Nexts K (drop 4 xs))
      ∷ check Length (5 + 2 * K ≤ n) ∷ check States (Few L) ∷ check Length (n ≡ 5 + 2 * K + 2 * L)
      ∷ check States (Nexts L (drop (5 + 2 * K) xs))
      ∷ check TooManyPairs (length (pairs (states_of K (drop 4 xs)) (states_of L (drop (5 + 2 * K) xs))) ≤ 16) ∷ []) r
  joined-order = then (read-refused joined xs room r h) (read-joined xs r)
