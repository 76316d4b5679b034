-- A listing fits 43,028 bytes, so the program prints what the definition says.
-- In order: front; list_done, list-refused, list-told.
-- Assumes nothing.
use Rattle.std.proofs.Common.{Result, Ok, Err}
use Rattle.std.proofs.Common.{◌≡◌, ◌++◌, ◌≤◌}
use Rattle.laws.proofs.All.{refl, sym, ap, ◌∙◌, List, ℕ, arith, length, take, drop, length-append}
use Rattle.laws.proofs.All.{take-append_seam, length-take-le}
use Rattle.io.specs.Counts.{IsPrefixLen}
use Rattle.answer.specs.declared.Refusal.{Refusal}
use Rattle.answer.specs.Answers.{answer_value}
use Rattle.answer.specs.Outcomes.{Outcome, done, refused, onward, fitting, answer_of, output_of}
use Rattle.answer.proofs.Outcomes.{fitting-true}
use Rattle.table.specs.Rows.{Code}
use Rattle.compile_job.specs.Jobs.{read_listed}
use Rattle.compile.specs.Compile.{compile}
use Rattle.view_listing.specs.Listing.{listing}
use Rattle.view_job.specs.Listings.{refusal, printed, listing_of, list_into}
use Rattle.view_job.proofs.Lengths.{refusal-short, compiled-short}

-- ---- what is printed
-- a result that fills the output stands at its start
pub front : (o : Outcome (List ℕ)) (ys B C : List ℕ) (n : ℕ) → o ≡ done ys → length ys ≤ length B → n ≡ length ys
    → C ≡ output_of o B → (take n C ≡ ys) × IsPrefixLen n C
front o ys B C n e h k w =
    let c : C ≡ ys ++ drop (length ys) B = w ∙ ap (λ o. output_of o B) e in
    let l : n ≤ length C = omega (arith, ap length c ∙ length-append ys (drop (length ys) B)) in (
      ap (λ m. take m C) k ∙ ap (take (length ys)) c ∙ take-append_seam ys (drop (length ys) B),
      (l, sym (length-take-le n C l)),
    )

module _ (xs B : List ℕ) (room : 43028 ≤ length B) where
  abbrev Into : Outcome Code → Outcome (List ℕ)
  Into o = onward o (λ c. fitting (length B) (listing c))

  Short : Outcome Code → Type 0
  Short o = (c : Code) → o ≡ done c → length (listing c) ≤ 43028

  -- THEOREM: the listing of a job that compiles
  pub list_done : (C : List ℕ) (n : ℕ) → Ok n ≡ answer_of (list_into xs (length B))
      → C ≡ output_of (list_into xs (length B)) B → (take n C ≡ listing_of xs) × IsPrefixLen n C
  unfolding list_into listing_of Short
  list_done C n a w = go (onward (read_listed xs) compile) (compiled-short xs) a w
    where
      go : (o : Outcome Code) → Short o → Ok n ≡ answer_of (Into o) → C ≡ output_of (Into o) B
          → (take n C ≡ printed o) × IsPrefixLen n C
      go (refused r) short a w = let z : ◌≡◌ {A = ℕ} 0 1 = cc in absurd (omega arith)
      go (done c) short a w =
          let fit : length (listing c) ≤ length B = omega (arith, short c refl) in
          let e = fitting-true (length B) (listing c) fit in
          let d : Ok n ≡ Ok (length (listing c)) = a ∙ ap answer_of e in
          let k : n ≡ length (listing c) = cc in
          front (fitting (length B) (listing c)) (listing c) B C n e fit k w

  -- the refusal of a job that does not
  pub list-refused : (r : Refusal) → Err r ≡ answer_of (list_into xs (length B)) → refusal r ≡ listing_of xs
  unfolding list_into listing_of Short
  list-refused r a = go (onward (read_listed xs) compile) (compiled-short xs) a
    where
      go : (o : Outcome Code) → Short o → Err r ≡ answer_of (Into o) → refusal r ≡ printed o
      go (refused s) short a = let e : r ≡ s = cc in ap refusal e
      go (done c) short a =
          let e = fitting-true (length B) (listing c) (omega (arith, short c refl)) in
          let d : Err r ≡ Ok (length (listing c)) = a ∙ ap answer_of e in
          let z : ◌≡◌ {A = ℕ} 0 1 = cc in
          absurd (omega arith)

  -- THEOREM: `refused` and its number
  pub list-told : (r : Refusal) (C D : List ℕ) (a : Result ℕ Refusal) (n : ℕ) → length C ≡ length B
      → Err r ≡ answer_of (list_into xs (length B)) → a ≡ answer_of (fitting (length C) (refusal r))
      → D ≡ output_of (fitting (length C) (refusal r)) C → n ≡ answer_value a → (take n D ≡ listing_of xs)
      × IsPrefixLen n D
  list-told r C D a n same told answered w v =
      let fit : length (refusal r) ≤ length C = omega (arith, refusal-short r) in
      let e = fitting-true (length C) (refusal r) fit in
      let k : n ≡ length (refusal r) = v ∙ ap answer_value (answered ∙ ap answer_of e) in
      let (p, q) = front (fitting (length C) (refusal r)) (refusal r) C D n e fit k w in
      (p ∙ list-refused r told, q)
