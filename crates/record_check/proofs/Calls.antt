-- What the checker answers, exactly: no bytes for a record that passes, otherwise the refusal of reading it.
-- In order: check-calls.
-- Assumes nothing.
use Rattle.std.proofs.Common.{◌≡◌, ◌↔◌}
use Rattle.laws.proofs.All.{sym, ap, List, [], ℕ}
use Rattle.answer.specs.declared.Refusal.{Refusal}
use Rattle.answer.specs.Outcomes.{done, refused}
use Rattle.answer.proofs.Outcomes.{done_inj}
use Rattle.answer.proofs.Due.{never_done, done-onward, refused-first}
use Rattle.table.specs.Rows.{Code}
use Rattle.record_check.specs.Parse.{parse, checked_only}

-- THEOREM: done with no bytes exactly for a record that passes, refused exactly as its reading is
pub check-calls : (xs : List ℕ)
    → ((ys : List ℕ) → (checked_only xs ≡ done ys) ↔ ((c : Code) × (parse xs ≡ done c) × (ys ≡ [])))
    × ((r : Refusal) → (checked_only xs ≡ refused r) ↔ (parse xs ≡ refused r))
unfolding checked_only
check-calls xs = (
  (λ ys. done-onward (parse xs) (λ c. done []) {D = λ c. ys ≡ []} ys
      (λ c. ((λ e. sym (done_inj [] ys e)), (λ e. ap done (sym e))))),
  (λ r. refused-first (parse xs) (λ c. done []) r (λ c. never_done [] r)),
)
