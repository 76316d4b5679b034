-- The listing of a run-length job is the reading of the job, and then the listing of its code.
-- In order: listed-so.
-- Assumes nothing.
use Rattle.std.proofs.Common.{Result, ◌≡◌}
use Rattle.laws.proofs.All.{refl, ap, ◌∙◌, List, ℕ}
use Rattle.answer.specs.declared.Refusal.{Refusal}
use Rattle.answer.specs.Outcomes.{Outcome, done, refused, onward, fitting, answer_of, output_of}
use Rattle.compile_job.specs.Jobs.{Job, read_listed}
use Rattle.compile.specs.Compile.{compile}
use Rattle.view_listing.specs.Listing.{listing}
use Rattle.view_job.specs.Listings.{list_into, listed_into}

list-onward : (xs : List ℕ) (room : ℕ) → onward (read_listed xs) (listed_into room) ≡ list_into xs room
unfolding list_into
list-onward xs room = go (read_listed xs)
  where
    go : (o : Outcome Job) → onward o (listed_into room) ≡ onward (onward o compile) (λ c. fitting room (listing c))
    go (done j) = refl
    go (refused r) = refl

pub listed-so : (xs : List ℕ) (room : ℕ) (B C : List ℕ) (r : Result ℕ Refusal)
    → (r ≡ answer_of (onward (read_listed xs) (listed_into room)))
    × (C ≡ output_of (onward (read_listed xs) (listed_into room)) B)
    → (r ≡ answer_of (list_into xs room)) × (C ≡ output_of (list_into xs room) B)
listed-so xs room B C r (p, q) =
    let e = list-onward xs room in
    (p ∙ ap answer_of e, q ∙ ap (λ o. output_of o B) e)
