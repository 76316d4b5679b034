-- The three kinds of job, from bytes: "Job: 8 below four bytes, 1, K by 2, 8, next states by 2"; run-length jobs, "8
-- below five bytes, 1, 2, 8 for a length other than 5 or 5 + K"; two constraints in one job, joined; and the weights
-- that come with a job, 17 where they fail.
-- In order: Choice, Job; good_parameters; bringing, fit, fitted; states_of, held_job, read_job; held_run_length,
-- read_run_length, read_listed; constraint_from, one constraint in a row of bytes; fronted, held_with, job_bringing,
-- job_with, joined_job, read_joined; Joins, the two constraints of a joined job; Fitting, Allowed, the jobs that pass
-- these checks.
-- Assumes nothing.
use Rattle.std.specs.Prelude.{if◌then◌else◌, ◌≡◌, Bool, true, ◌&&◌, ◌||◌, List, [], ◌∷◌, ℕ, zero, suc, ◌+◌, ◌*◌, ◌^◌}
use Rattle.std.specs.Prelude.{◌≤◌, T, leb, eqb}
use Rattle.std.specs.Prelude.{length, get_or, drop}
use Rattle.laws.specs.Lists.{all}
use Rattle.answer.specs.declared.Refusal.TheVariants.{Parameters, States, Length, TooManyPairs, BadWeights}
use Rattle.answer.specs.Outcomes.{Outcome, done, unless, onward}
use Rattle.constraint.specs.Walking.{Constraint, run_length, Well}
use Rattle.table.specs.Formed.{good_next}
use Rattle.joining.specs.Joined.{pairs, joined}
use Rattle.compile_graph.specs.Arcs.{power}
use Rattle.compile_graph.specs.Weights.{passing, Passing}

-- which weights a job asks for: the greatest that there are, or those that come with it
pub data Choice : Type 0 where
  computed : Choice
  brought : List ℕ → Choice

-- what a job asks for
pub record Job : Type 0 where
  pub p : ℕ
  pub q : ℕ
  pub cap : ℕ
  pub constraint : Constraint
  pub choice : Choice

-- "p (1 to 4), q (1 to 8), cap (1 to 16)"
abbrev pub good_parameters : ℕ → ℕ → ℕ → Bool
good_parameters p q cap = (leb 1 p && leb p 4) && ((leb 1 q && leb q 8) && (leb 1 cap && leb cap 16))

-- "may come with K weight bytes after it": the bytes after the first `size`, where there are any
abbrev pub bringing : ℕ → List ℕ → Choice
bringing size xs = if eqb (length xs) size then computed else brought (drop size xs)

-- the weights that come with a job pass
abbrev pub fit : Job → Choice → Bool
fit j computed = true
fit j (brought u) = passing (2 ^ j.p) j.cap (power j.constraint j.q) u

-- "17 for weights that fail, at the place of 3"
abbrev pub fitted : Job → Outcome Job
fitted j = unless BadWeights (fit j j.choice) (done j)

-- "two bytes a state, the next states for 0 and 1, with 255 for none"
abbrev pub states_of : ℕ → List ℕ → Constraint
states_of zero xs = []
states_of (suc K) xs = record { zero = get_or xs 0 0; one = get_or xs 1 0 } ∷ states_of K (drop 2 xs)

-- "A job is bytes: p, q, cap, K, then two bytes a state", and "K weight bytes after it"
unfoldable pub held_job : List ℕ → Outcome Job
held_job xs =
    let p = get_or xs 0 0 in
    let q = get_or xs 1 0 in
    let cap = get_or xs 2 0 in
    let K = get_or xs 3 0 in
    let c = states_of K (drop 4 xs) in
    unless Length (leb 4 (length xs))
    (unless Parameters (good_parameters p q cap)
    (unless States (leb 1 K && leb K 16)
    (unless Length (eqb (length xs) (4 + 2 * K) || eqb (length xs) (4 + 3 * K))
    (unless States (all (good_next K) c)
    (done (record { p = p; q = q; cap = cap; constraint = c; choice = bringing (4 + 2 * K) xs }))))))

-- the job, with its weights checked
unfoldable pub read_job : List ℕ → Outcome Job
read_job xs = onward (held_job xs) fitted

-- "A run-length job is the five bytes d, k, p, q, cap", with "0 ≤ d ≤ k ≤ 15"; it "has K = k + 1 and is now checked by
-- 8 below five bytes, 1, 2, 8 for a length other than 5 or 5 + K, then on"
unfoldable pub held_run_length : List ℕ → Outcome Job
held_run_length xs =
    let d = get_or xs 0 0 in
    let k = get_or xs 1 0 in
    let p = get_or xs 2 0 in
    let q = get_or xs 3 0 in
    let cap = get_or xs 4 0 in
    unless Length (leb 5 (length xs))
    (unless Parameters (good_parameters p q cap)
    (unless States (leb d k && leb k 15)
    (unless Length (eqb (length xs) 5 || eqb (length xs) (5 + (k + 1)))
    (done (record { p = p; q = q; cap = cap; constraint = run_length d k; choice = bringing 5 xs })))))

-- the run-length job, with its weights checked
unfoldable pub read_run_length : List ℕ → Outcome Job
read_run_length xs = onward (held_run_length xs) fitted

-- "The listing program reads five bytes, a run-length job": it takes no weights
unfoldable pub read_listed : List ℕ → Outcome Job
read_listed xs = unless Length (eqb (length xs) 5) (read_run_length xs)

-- "each constraint as K and its next-state bytes", at the start of a row of bytes: "8 for a missing K, K by 2, 8,
-- next states by 2", where the bytes that a constraint takes are compared with those that are there by `fits`
unfoldable pub constraint_from : (ℕ → ℕ → Bool) → List ℕ → Outcome Constraint
constraint_from fits ys =
    let K = get_or ys 0 0 in
    let c = states_of K (drop 1 ys) in
    unless Length (leb 1 (length ys))
    (unless States (leb 1 K && leb K 16)
    (unless Length (fits (1 + 2 * K) (length ys)) (unless States (all (good_next K) c) (done c))))

-- "8 below four bytes, 1", then what comes of the bytes after cap
abbrev pub fronted : {A : Type 0} → List ℕ → Outcome A → Outcome A
fronted xs rest =
    unless Length (leb 4 (length xs))
    (unless Parameters (good_parameters (get_or xs 0 0) (get_or xs 1 0) (get_or xs 2 0)) rest)

-- the job with these numbers, this constraint and these weights
abbrev pub held_with : ℕ → ℕ → ℕ → Constraint → Choice → Job
held_with p q cap c ch = record { p = p; q = q; cap = cap; constraint = c; choice = ch }

-- the job with p, q and cap at the start of its bytes, and with the weights after its constraint
abbrev pub job_bringing : List ℕ → Constraint → Job
job_bringing xs c = held_with (get_or xs 0 0) (get_or xs 1 0) (get_or xs 2 0) c (bringing (4 + 2 * length c) xs)

-- the job with p, q and cap at the start of its bytes, which brings no weights
abbrev pub job_with : List ℕ → Constraint → Job
job_with xs c = record { p = get_or xs 0 0; q = get_or xs 1 0; cap = get_or xs 2 0; constraint = c; choice = computed }

-- "14 for more than 16 pairs": the job of both constraints
abbrev pub joined_job : List ℕ → Constraint → Constraint → Outcome Job
joined_job xs c d = unless TooManyPairs (leb (length (pairs c d)) 16) (done (job_with xs (joined c d)))

-- "The job is p, q, cap, then each constraint as K and its next-state bytes"; "left-over bytes belong to the second's
-- later 8"
unfoldable pub read_joined : List ℕ → Outcome Job
read_joined xs =
    fronted xs
    (onward (constraint_from leb (drop 3 xs))
    (λ c. onward (constraint_from eqb (drop (4 + 2 * length c) xs)) (joined_job xs c)))

-- c and d are the constraints of a joined job's bytes, and both pass their checks
pub record Joins (xs : List ℕ) (c d : Constraint) : Type 0 where
  pub long : 4 ≤ length xs
  pub parameters : T (good_parameters (get_or xs 0 0) (get_or xs 1 0) (get_or xs 2 0))
  pub first : constraint_from leb (drop 3 xs) ≡ done c
  pub second : constraint_from eqb (drop (4 + 2 * length c) xs) ≡ done d

-- the weights that come with a job are one for each state, and pass
abbrev pub Fitting : Job → Choice → Type 0
Fitting j computed = Unit {0}
Fitting j (brought u) =
    (length u ≡ length j.constraint) × Passing (2 ^ j.p) j.cap (power j.constraint j.q) u

-- p, q, cap and K are in range, every next state is a state or none, and the weights that come with the job pass
pub record Allowed (j : Job) : Type 0 where
  pub p₁ : 1 ≤ j.p
  pub p₂ : j.p ≤ 4
  pub q₁ : 1 ≤ j.q
  pub q₂ : j.q ≤ 8
  pub cap₁ : 1 ≤ j.cap
  pub cap₂ : j.cap ≤ 16
  pub k₁ : 1 ≤ length j.constraint
  pub k₂ : length j.constraint ≤ 16
  pub well : Well j.constraint
  pub fit : Fitting j j.choice
