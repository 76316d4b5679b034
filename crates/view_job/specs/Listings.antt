-- What the listing program prints: "it prints all of this (p, q, states, m, a; then state, datum, word in binary,
-- next), or else `refused` and the number"; and the listing of a job as a call.
-- In order: refusal, printed, listing_of; list_into; listed_into.
-- Assumes nothing.
use Rattle.std.specs.Prelude.{List, ◌++◌, ℕ}
use Rattle.answer.specs.declared.Refusal.{Refusal}
use Rattle.answer.specs.Refusals.{number_of}
use Rattle.answer.specs.Outcomes.{Outcome, done, refused, onward, fitting}
use Rattle.table.specs.Rows.{Code}
use Rattle.compile_job.specs.Jobs.{Job, read_listed}
use Rattle.compile.specs.Compile.{compile}
use Rattle.text.specs.Texts.{bytes}
use Rattle.text.specs.Words.{told}
use Rattle.view_listing.specs.Listing.{listing}

-- "`refused` and the number"
unfoldable pub refusal : Refusal → List ℕ
refusal r = told "refused " (number_of r) ++ bytes "\n"

-- what the listing program prints of an outcome
abbrev pub printed : Outcome Code → List ℕ
printed (done c) = listing c
printed (refused r) = refusal r

-- what the listing program prints for the bytes of a run-length job
unfoldable pub listing_of : List ℕ → List ℕ
listing_of xs = printed (onward (read_listed xs) compile)

-- the listing of a run-length job in lent bytes, or the refusal
unfoldable pub list_into : List ℕ → ℕ → Outcome (List ℕ)
list_into xs room = onward (onward (read_listed xs) compile) (λ c. fitting room (listing c))

-- the listing of the job's code in lent bytes
abbrev pub listed_into : ℕ → Job → Outcome (List ℕ)
listed_into room j = onward (compile j) (λ c. fitting room (listing c))
