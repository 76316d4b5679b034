-- How long the texts are: 43,028 bytes hold what the listing program prints.
-- In order: refusal_is, refusal-short; compiled-short, never-short, room-enough.
-- Assumes nothing.
use Rattle.std.proofs.Common.{◌≡◌, ◌⊎◌, ◌∷◌, ◌++◌, ◌≤◌}
use Rattle.laws.proofs.All.{refl, ap, inl, inr, List, [], ℕ, arith, length, length-append}
use Rattle.answer.specs.declared.Refusal.{Refusal}
use Rattle.answer.specs.declared.Refusal.TheVariants.{ShortOutput}
use Rattle.answer.specs.Refusals.{number_of}
use Rattle.answer.specs.Outcomes.{done, refused, onward, fitting}
use Rattle.answer.proofs.Outcomes.{onward→}
use Rattle.table.specs.Rows.{Code}
use Rattle.table.proofs.Formed.{formed→}
use Rattle.compile_job.specs.Jobs.{Job, read_run_length, read_listed}
use Rattle.compile.specs.Compile.{compile}
use Rattle.compile.specs.Kinds.{Kind, compile_as}
use Rattle.compile_job.proofs.Jobs.{read_run_length-allowed, read_listed-is}
use Rattle.compile.proofs.Accepted.{compiled-passes}
use Rattle.answer.proofs.RefusedOutcomes.{onward-refused, fitting-refused}
use Rattle.compile.proofs.Early.{listed-early}
use Rattle.compile.proofs.Exact.{compile-refused}
use Rattle.compile.proofs.Written as written
use Rattle.text.specs.Texts.{bytes, decimal}
use Rattle.text.proofs.Numbers.{decimal-long}
use Rattle.view_listing.specs.Listing.{listing}
use Rattle.view_listing.proofs.Listings.{formed-short}
use Rattle.view_job.specs.Listings.{refusal, list_into}

pub refusal_is : (r : Refusal) (n : ℕ) → n ≡ number_of r → bytes "refused " ++ decimal n ++ 10 ∷ [] ≡ refusal r
unfolding refusal
refusal_is r n e = ap (λ m. bytes "refused " ++ decimal m ++ 10 ∷ []) e

pub refusal-short : (r : Refusal) → length (refusal r) ≤ 29
unfolding refusal
refusal-short r =
    omega (
      arith,
      length-append (bytes "refused " ++ decimal (number_of r)) (10 ∷ []),
      length-append (bytes "refused ") (decimal (number_of r)),
      decimal-long (number_of r),
    )

pub compiled-short : (xs : List ℕ) (c : Code) → onward (read_listed xs) compile ≡ done c → length (listing c) ≤ 43028
compiled-short xs c e =
    let (j, q, f) = onward→ (read_listed xs) compile c e in
    formed-short c (formed→ c (compiled-passes j (read_run_length-allowed xs j (read_listed-is xs j q)) c f).formed)

-- with room for the longest listing 13 never comes
pub never-short : (xs : List ℕ) (room : ℕ) → 43028 ≤ room → list_into xs room ≡ refused ShortOutput → ⊥
unfolding list_into
never-short xs room h e =
    first (onward-refused (onward (read_listed xs) compile) (λ c. fitting room (listing c)) ShortOutput e)
  where
    second : (read_listed xs ≡ refused ShortOutput)
        ⊎ ((j : Job) × (read_listed xs ≡ done j) × (compile j ≡ refused ShortOutput)) → ⊥
    second (inl q) = (listed-early xs ShortOutput q).1 refl
    second (inr (j, p, q)) = omega (arith, compile-refused j ShortOutput q)

    first : (onward (read_listed xs) compile ≡ refused ShortOutput)
        ⊎ ((c : Code) × (onward (read_listed xs) compile ≡ done c) × (fitting room (listing c) ≡ refused ShortOutput))
        → ⊥
    first (inl q) = second (onward-refused (read_listed xs) compile ShortOutput q)
    first (inr (c, q, k)) =
        omega (arith, compiled-short xs c q, (fitting-refused room (listing c) ShortOutput k).1)

-- with room for the longest record and the longest listing neither call says 13
pub room-enough : (k : Kind) (xs : List ℕ) (room : ℕ) → (3865 ≤ room → compile_as k xs room ≡ refused ShortOutput → ⊥)
    × (43028 ≤ room → list_into xs room ≡ refused ShortOutput → ⊥)
room-enough k xs room = (written.never-short k xs room, never-short xs room)
