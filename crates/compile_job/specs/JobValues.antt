-- The job that a value of the code's struct stands for, and what its reading comes to.
-- In order: job_in; JobReady, what compiling needs of a value; Counted, Held, Sized; job_outcome; state_at,
-- good_state_at, the
-- next states in a constraint's bytes; spare, sized; constraint_outcome.
-- Assumes nothing.
use Rattle.std.specs.Prelude.{if◌then◌else◌, ◌≡◌, ◌⊎◌, ℕ, ◌+◌, ◌*◌, ◌/◌, ◌≤◌, Bool, true, false, ◌||◌, List, T, leb}
use Rattle.std.specs.Prelude.{eqb, length}
use Rattle.std.specs.Prelude.{get_or, take, Result}
use Rattle.answer.specs.declared.Refusal.{Refusal}
use Rattle.answer.specs.Outcomes.{Outcome, outcome_of}
use Rattle.constraint.specs.declared.Constraint.{Constraint as Stored}
use Rattle.constraint.specs.Walking.{NextStates, Constraint, Lawful}
use Rattle.constraint.specs.Value.{constraint_of}
use Rattle.table.specs.Formed.{good_next}
use Rattle.compile_job.specs.declared.JobValue.{JobValue}
use Rattle.compile_job.specs.Jobs.{Choice, computed, brought, Job, good_parameters, Allowed}

-- the job of a value
abbrev pub job_in : JobValue → Job
job_in j = record {
  p = j.p;
  q = j.q;
  cap = j.cap;
  constraint = constraint_of j.constraint;
  choice = if j.brings then brought (take j.constraint.states j.weight) else computed;
}

-- a job that is allowed, and whose constraint fits its arrays: no caller can fail it, since it holds of every job that
-- is read
pub record JobReady (j : JobValue) : Type 0 where
  pub allowed : Allowed (job_in j)
  pub limits : j.constraint.states ≤ 16

-- one weight for each state comes with a job, or none at all
abbrev pub Counted : Job → Choice → Type 0
Counted j computed = Unit {0}
Counted j (brought u) = length u ≡ length j.constraint

-- a job whose weights are still to be checked
pub record Held (j : Job) : Type 0 where
  pub parameters : T (good_parameters j.p j.q j.cap)
  pub lawful : Lawful j.constraint
  pub counted : Counted j j.choice

-- there are `size` bytes, or one more for each state
abbrev pub Sized : ℕ → ℕ → ℕ → Type 0
Sized size states count = (count ≡ size) ⊎ (count ≡ size + states)

-- what the reading of a job comes to
abbrev pub job_outcome : Result JobValue Refusal → Outcome Job
job_outcome = outcome_of job_in

-- the next states of state s in the bytes of a constraint, after K
abbrev pub state_at : List ℕ → ℕ → NextStates
state_at ys s = record { zero = get_or ys (1 + s * 2) 0; one = get_or ys (2 + s * 2) 0 }

-- both are states or none
abbrev pub good_state_at : List ℕ → ℕ → ℕ → Bool
good_state_at ys K s = good_next K (state_at ys s)

-- as many bytes as a constraint takes, or a byte more for each of its states: it takes 1 + 2 K, and half of that,
-- rounded down, is K
abbrev pub spare : ℕ → ℕ → Bool
spare need count = eqb need count || eqb (need + need / 2) count

-- the bytes that a constraint takes are all that are there, or all but its weights, or any may be left over
abbrev pub sized : Bool → Bool → ℕ → ℕ → Bool
sized true true = spare
sized true false = eqb
sized false weights = leb

-- what the reading of a constraint comes to
abbrev pub constraint_outcome : Result Stored Refusal → Outcome Constraint
constraint_outcome = outcome_of constraint_of
