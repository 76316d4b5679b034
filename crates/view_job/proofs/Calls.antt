-- What the listing of a run-length job answers, exactly.
-- In order: listing-done, listing-refused; listing-reads.
-- Assumes nothing.
use Rattle.std.proofs.Common.{◌≡◌, ◌⊎◌, ◌↔◌, ◌∷◌, ◌≤◌}
use Rattle.laws.proofs.All.{inl, inr, List, [], ℕ, leb, eqb, ne_eqb, length}
use Rattle.answer.specs.declared.Refusal.{Refusal}
use Rattle.answer.specs.declared.Refusal.TheVariants.{Length, ShortOutput}
use Rattle.answer.specs.Outcomes.{done, refused, onward, fitting}
use Rattle.answer.specs.Orders.{check, First}
use Rattle.answer.proofs.Outcomes.{unless-true, unless-false, onward→}
use Rattle.answer.proofs.Due.{told-le, told-eq, done-onward}
use Rattle.answer.proofs.Orders.{first-none, first-unless, onward-exact, fitting-done}
use Rattle.table.specs.Rows.{Code}
use Rattle.compile_job.specs.Jobs.{Job, read_run_length, read_listed}
use Rattle.compile.specs.Compile.{compile}
use Rattle.view_listing.specs.Listing.{listing}
use Rattle.view_job.specs.Listings.{list_into}

module _ (xs : List ℕ) (room : ℕ) where
  -- THEOREM: the listing of the code to which the job compiles, with room for it
  pub listing-done : (ls : List ℕ) → (list_into xs room ≡ done ls)
      ↔ ((j : Job) × (c : Code) × (read_listed xs ≡ done j) × (compile j ≡ done c) × (length (listing c) ≤ room)
      × (listing c ≡ ls))
  unfolding list_into
  listing-done ls =
      let (f, g) = done-onward (onward (read_listed xs) compile) (λ c. fitting room (listing c)) ls
      (λ c. fitting-done room (listing c) ls) in
      let (u, v) = coded in (
        (λ e. let (c, p, (h, q)) = f e in let (j, a, b) = u c p in (j, c, a, b, h, q)),
        (λ (j, c, a, b, h, q). g (c, v c (j, a, b), (h, q))),
      )
    where
      coded : ((c : Code) → onward (read_listed xs) compile ≡ done c
          → (j : Job) × (read_listed xs ≡ done j) × (compile j ≡ done c))
          × ((c : Code) → (j : Job) × (read_listed xs ≡ done j) × (compile j ≡ done c)
          → onward (read_listed xs) compile ≡ done c)
      coded = (
        (λ c. onward→ (read_listed xs) compile c),
        (λ c (j, a, b). rw (a, b)),
      )

  -- THEOREM: otherwise the refusal of reading the job, then that of compiling it, then 13
  pub listing-refused : (r : Refusal) → (list_into xs room ≡ refused r)
      ↔ ((read_listed xs ≡ refused r) ⊎ ((j : Job) × (read_listed xs ≡ done j) × ((compile j ≡ refused r)
      ⊎ ((c : Code) × (compile j ≡ done c) × First (check ShortOutput (length (listing c) ≤ room) ∷ []) r))))
  unfolding list_into
  listing-refused r =
      let (f, g) = onward-exact (onward (read_listed xs) compile) (λ c. fitting room (listing c)) r in
      let (u, v) = onward-exact (read_listed xs) compile r in (
        (λ e. elim (f e) [
          | inl q ↦ elim (u q) [ inl a ↦ inl a | inr (j, a, b) ↦ inr (j, a, inl b) ]
          | inr (c, p, q) ↦
              let (j, a, b) = onward→ (read_listed xs) compile c p in inr (j, a, inr (c, b, (short c).0 q))
        ]),
        (λ x. elim x [
          | inl a ↦ g (inl (v (inl a)))
          | inr (j, a, inl b) ↦ g (inl (v (inr (j, a, b))))
          | inr (j, a, inr (c, b, q)) ↦ g (inr (c, rw (a, b), (short c).1 q))
        ]),
      )
    where
      short : (c : Code) → (fitting room (listing c) ≡ refused r)
          ↔ First (check ShortOutput (length (listing c) ≤ room) ∷ []) r
      short c =
          first-unless ShortOutput (leb (length (listing c)) room) _ r (told-le (length (listing c)) room)
          (first-none (listing c) r)

-- THEOREM: five bytes are read as a run-length job, any other number of bytes is 8
pub listing-reads : (xs : List ℕ) → (length xs ≡ 5 → read_listed xs ≡ read_run_length xs)
    × ((length xs ≡ 5 → ⊥) → read_listed xs ≡ refused Length)
unfolding read_listed
listing-reads xs = (
  (λ e. unless-true Length (eqb (length xs) 5) _ ((told-eq (length xs) 5).passes.1 e)),
  (λ n. unless-false Length (eqb (length xs) 5) _ (ne_eqb (length xs) 5 n)),
)
