-- Reading a job of any kind is refused with 1, 2, 8, 14 or 17 only, and with 17 only for its weights.
-- In order: Before, Early, before-early; held-before, run-length-before; constraint-before, joined-before; read-early,
-- run-length-early, joined-early, listed-early.
-- Assumes nothing.
use Rattle.std.proofs.Common.{◌≡◌, ◌⊎◌, ◌&&◌, ◌||◌, ◌+◌, ◌*◌, ◌≤◌, ◌<◌}
use Rattle.laws.proofs.All.{refl, inl, inr, Bool, List, ℕ}
use Rattle.laws.proofs.All.{arith, leb, eqb, length, get_or, drop, all}
use Rattle.answer.specs.declared.Refusal.{Refusal}
use Rattle.answer.specs.declared.Refusal.TheVariants.{Parameters, States, Length, TooManyPairs, BadWeights}
use Rattle.answer.specs.Refusals.{number_of}
use Rattle.answer.specs.Outcomes.{Outcome, unless, onward}
use Rattle.table.specs.Formed.{good_next}
use Rattle.joining.specs.Joined.{pairs}
use Rattle.compile_job.specs.Jobs.{Job, good_parameters, fit, fitted, states_of, held_job, read_job, held_run_length}
use Rattle.compile_job.specs.Jobs.{read_run_length}
use Rattle.compile_job.specs.Jobs.{read_listed, constraint_from, joined_job, read_joined}
use Rattle.compile_job.proofs.Constraints.{constraint-refused}
use Rattle.answer.proofs.RefusedOutcomes.{Refuses, refuses-done, refuses-unless, refuses-onward}

-- the refusals that come before a job's weights are looked at: 1, 2, 8 and 14
abbrev pub Before : Refusal → Type 0
Before r = (number_of r < 3) ⊎ ((number_of r ≡ 8) ⊎ (number_of r ≡ 14))

-- none of compiling's, 3 to 6, and not that of the room, 13: so are all that reading a job gives
abbrev pub Early : Refusal → Type 0
Early r = (3 ≤ number_of r → 6 < number_of r) × (number_of r ≡ 13 → ⊥)

before-early : (r : Refusal) → Before r → Early r
before-early r (inl h) = ((λ l. absurd (omega arith)), (λ e. omega arith))
before-early r (inr (inl h)) = ((λ l. omega arith), (λ e. omega arith))
before-early r (inr (inr h)) = ((λ l. omega arith), (λ e. omega arith))

unless-before : {A : Type 0} (r : Refusal) (b : Bool) (o : Outcome A) → Before r → Refuses Before o
    → Refuses Before (unless r b o)
unless-before = refuses-unless Before

-- ---- before the weights
pub held-before : (xs : List ℕ) → Refuses Before (held_job xs)
unfolding held_job
held-before xs =
    let K = get_or xs 3 0 in
    unless-before Length (leb 4 (length xs)) _ (inr (inl refl))
    (unless-before Parameters (good_parameters (get_or xs 0 0) (get_or xs 1 0) (get_or xs 2 0)) _ (inl (omega arith))
    (unless-before States (leb 1 K && leb K 16) _ (inl (omega arith))
    (unless-before Length (eqb (length xs) (4 + 2 * K) || eqb (length xs) (4 + 3 * K)) _ (inr (inl refl))
    (unless-before States (all (good_next K) (states_of K (drop 4 xs))) _ (inl (omega arith))
    (refuses-done Before _)))))

pub run-length-before : (xs : List ℕ) → Refuses Before (held_run_length xs)
unfolding held_run_length
run-length-before xs =
    let k = get_or xs 1 0 in
    unless-before Length (leb 5 (length xs)) _ (inr (inl refl))
    (unless-before Parameters (good_parameters (get_or xs 2 0) (get_or xs 3 0) (get_or xs 4 0)) _ (inl (omega arith))
    (unless-before States (leb (get_or xs 0 0) k && leb k 15) _ (inl (omega arith))
    (unless-before Length (eqb (length xs) 5 || eqb (length xs) (5 + (k + 1))) _ (inr (inl refl))
    (refuses-done Before _))))

-- ---- two constraints
constraint-before : (fits : ℕ → ℕ → Bool) (ys : List ℕ) → Refuses Before (constraint_from fits ys)
constraint-before fits ys r e =
    elim (constraint-refused fits ys r e) [ inl h ↦ inl (omega arith) | inr h ↦ inr (inl h) ]

pub joined-before : (xs : List ℕ) → Refuses Before (read_joined xs)
unfolding read_joined
joined-before xs =
    unless-before Length (leb 4 (length xs)) _ (inr (inl refl))
    (unless-before Parameters (good_parameters (get_or xs 0 0) (get_or xs 1 0) (get_or xs 2 0)) _ (inl (omega arith))
    (refuses-onward Before (constraint_from leb (drop 3 xs)) _ (constraint-before leb (drop 3 xs))
    (λ c. refuses-onward Before (constraint_from eqb (drop (4 + 2 * length c) xs)) (joined_job xs c)
    (constraint-before eqb (drop (4 + 2 * length c) xs))
    (λ d. unless-before TooManyPairs (leb (length (pairs c d)) 16) _ (inr (inr refl)) (refuses-done Before _)))))

-- ---- with the weights
fitted-early : (o : Outcome Job) → Refuses Before o → Refuses Early (onward o fitted)
fitted-early o h = refuses-onward Early o fitted (λ r e. before-early r (h r e))
    (λ j. refuses-unless Early BadWeights (fit j j.choice) _ ((λ l. omega arith), (λ e. omega arith))
    (refuses-done Early _))

pub read-early : (xs : List ℕ) → Refuses Early (read_job xs)
unfolding read_job
read-early xs = fitted-early (held_job xs) (held-before xs)

pub run-length-early : (xs : List ℕ) → Refuses Early (read_run_length xs)
unfolding read_run_length
run-length-early xs = fitted-early (held_run_length xs) (run-length-before xs)

pub joined-early : (xs : List ℕ) → Refuses Early (read_joined xs)
joined-early xs r e = before-early r (joined-before xs r e)

pub listed-early : (xs : List ℕ) → Refuses Early (read_listed xs)
unfolding read_listed
listed-early xs =
    refuses-unless Early Length (eqb (length xs) 5) (read_run_length xs) (before-early Length (inr (inl refl)))
    (run-length-early xs)
