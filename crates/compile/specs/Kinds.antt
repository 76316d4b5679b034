-- The three kinds of job, so that what holds of all is said once.
-- In order: Kind; held_as, read_as; compile_as.
-- Assumes nothing.
use Rattle.std.specs.Prelude.{List, ℕ}
use Rattle.answer.specs.Outcomes.{Outcome}
use Rattle.compile_job.specs.Jobs.{Job, held_job, read_job, held_run_length, read_run_length, read_joined}
use Rattle.compile.specs.Compile.{compile_job, compile_run_length, compile_joined}

-- "A job", "A run_length job", and a job "for both" of two constraints
pub data Kind : Type 0 where
  general : Kind
  run_length : Kind
  joined : Kind

-- the job in the bytes, before the weights that come with it are looked at
abbrev pub held_as : Kind → List ℕ → Outcome Job
held_as general xs = held_job xs
held_as run_length xs = held_run_length xs
held_as joined xs = read_joined xs

-- the job in the bytes
abbrev pub read_as : Kind → List ℕ → Outcome Job
read_as general xs = read_job xs
read_as run_length xs = read_run_length xs
read_as joined xs = read_joined xs

-- the job's bytes compiled to a record
abbrev pub compile_as : Kind → List ℕ → ℕ → Outcome (List ℕ)
compile_as general xs room = compile_job xs room
compile_as run_length xs room = compile_run_length xs room
compile_as joined xs room = compile_joined xs room
