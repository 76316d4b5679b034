-- What reading an argument says, by what its word or its file is.
-- In order: counted-kept, job-within; input-counts.
-- Assumes nothing.
use Rattle.std.proofs.Common.{◌≡◌, ◌≤◌, ◌<◌, ◌+◌}
use Rattle.laws.proofs.All.{refl, sym, ap, subst, ◌∙◌, true, List, ℕ, arith, le-leb, lt-leb, length}
use Rattle.laws.proofs.All.{length-take-le, get_or, take, get_or-take, inr}
use Rattle.io.specs.Counts.{IsPrefixLen}
use Rattle.std.specs.Prelude.{Result, Ok, Err, IfOk, IfSome}
use Rattle.files.specs.declared.LoadError.{LoadError}
use Rattle.files.specs.declared.LoadError.TheVariants.{Unreadable, TooLong}
use Rattle.command_inputs.specs.declared.jobs.Numbers.{Numbers}
use Rattle.command_inputs.specs.Inputs.{JobFrom, Counted, input_of}

-- as many weights as states, by the five numbers as they were before the weights
pub counted-kept : (n five : Numbers) → n.weights ≡ get_or five.job 1 0 + 1 → take 5 n.job ≡ take 5 five.job
    → Counted n
counted-kept n five e t =
    let k : get_or five.job 1 0 ≡ get_or n.job 1 0 =
    sym (get_or-take 5 five.job 1 0 (omega arith)) ∙ ap (λ xs. get_or xs 1 0) (sym t)
    ∙ get_or-take 5 n.job 1 0 (omega arith) in
    inr (e ∙ ap (λ k. k + 1) k)

-- the bytes of a job are as many as its size says
pub job-within : (i : ℕ) (n : Numbers) → JobFrom i n → n.size ≡ length (take n.size n.job)
job-within i n h = sym (length-take-le n.size n.job (omega arith))

-- what was read is within the bytes that were lent
pub input-counts : (i room : ℕ) (l : Result ℕ LoadError) (out : List ℕ) → room ≡ length out
    → IfOk l (λ n. IsPrefixLen n out) → IfSome (input_of i room l) (λ r. IsPrefixLen r.size out)
input-counts i room (Ok n) out k f = f
input-counts i room (Err TooLong) out k f = (omega arith, sym (length-take-le _ _ (omega arith)))
input-counts i room (Err (Unreadable e)) out k f = tt
