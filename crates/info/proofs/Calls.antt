-- What is answered to a caller who asks for the numbers of a record or the words of a refusal, exactly.
-- In order: info-done, info-refused; phrase-done, phrase-refused.
-- Assumes nothing.
use Rattle.std.proofs.Common.{◌≡◌, ◌⊎◌, ◌↔◌, ◌∷◌, ◌-◌, ◌≤◌}
use Rattle.laws.proofs.All.{inl, inr, List, [], ℕ, leb, length}
use Rattle.answer.specs.declared.Refusal.{Refusal}
use Rattle.answer.specs.declared.Refusal.TheVariants.{ShortOutput}
use Rattle.answer.specs.Outcomes.{done, refused, fitting}
use Rattle.answer.specs.Orders.{check, First}
use Rattle.answer.proofs.Due.{told-le, done-onward}
use Rattle.answer.proofs.Orders.{first-none, first-unless, onward-exact, fitting-done}
use Rattle.table.specs.Rows.{Code}
use Rattle.record_check.specs.Parse.{parse}
use Rattle.view_refusals.specs.Phrases.{words_of}
use Rattle.info.specs.Info.{numbers_of, info_under, phrase_into}

-- the check of the room
room-order : (room : ℕ) (xs : List ℕ) (r : Refusal) → (fitting room xs ≡ refused r)
    ↔ First (check ShortOutput (length xs ≤ room) ∷ []) r
room-order room xs r =
    first-unless ShortOutput (leb (length xs) room) _ r (told-le (length xs) room) (first-none xs r)

-- ---- the numbers of a record
module _ (rec : List ℕ) (room : ℕ) where
  -- THEOREM: eight of them, for a record that passes and room for eight
  pub info-done : (ns : List ℕ) → (info_under rec room ≡ done ns)
      ↔ ((c : Code) × (parse rec ≡ done c) × (8 ≤ room)
      × (c.p ∷ c.q ∷ (length c.table - 1) ∷ c.window.memory ∷ c.window.lookahead ∷ length c.constraint
      ∷ c.start ∷ c.tail ∷ [] ≡ ns))
  unfolding info_under
  info-done ns =
      let (f, g) = done-onward (parse rec) (λ c. fitting room (numbers_of c)) ns
      (λ c. fitting-done room (numbers_of c) ns) in
      ((λ e. let (c, p, (h, q)) = f e in (c, p, h, q)), (λ (c, p, h, q). g (c, p, (h, q))))

  -- THEOREM: otherwise the record's refusal, then 13
  pub info-refused : (r : Refusal) → (info_under rec room ≡ refused r)
      ↔ ((parse rec ≡ refused r) ⊎ ((c : Code) × (parse rec ≡ done c) × First (check ShortOutput (8 ≤ room) ∷ []) r))
  unfolding info_under
  info-refused r =
      let (f, g) = onward-exact (parse rec) (λ c. fitting room (numbers_of c)) r in (
        (λ e. elim (f e) [ inl q ↦ inl q | inr (c, p, q) ↦ inr (c, p, (room-order room (numbers_of c) r).0 q) ]),
        (λ x. g (elim x [ inl q ↦ inl q | inr (c, p, q) ↦ inr (c, p, (room-order room (numbers_of c) r).1 q) ])),
      )

-- ---- the words of a refusal
module _ (n room : ℕ) where
  pub phrase-done : (ws : List ℕ) → (phrase_into n room ≡ done ws) ↔ ((length (words_of n) ≤ room) × (words_of n ≡ ws))
  unfolding phrase_into
  phrase-done ws = fitting-done room (words_of n) ws

  pub phrase-refused : (r : Refusal) → (phrase_into n room ≡ refused r)
      ↔ First (check ShortOutput (length (words_of n) ≤ room) ∷ []) r
  unfolding phrase_into
  phrase-refused r = room-order room (words_of n) r
