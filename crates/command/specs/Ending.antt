-- How a trace ends.
-- In order: end_of.
-- Assumes nothing.
use Rattle.std.specs.Prelude.{List, ℕ}
use Rattle.answer.specs.Outcomes.{Outcome, done, refused}
use Rattle.command_arguments.specs.declared.Status.{Status}
use Rattle.command_arguments.specs.declared.Status.TheVariants.{Done, Failed}

-- the end of a trace: a job that is refused is a failure
abbrev pub end_of : Outcome (List ℕ) → Status
end_of (done xs) = Done
end_of (refused r) = Failed
