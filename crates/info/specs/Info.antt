-- What a caller asks: the numbers of a record, and the words of a refusal.
-- In order: numbers_of, info_under; phrase_into.
-- `room` is the length of the output that was lent.
-- Assumes nothing.
use Rattle.std.specs.Prelude.{List, [], ◌∷◌, ℕ, ◌-◌, length}
use Rattle.answer.specs.Outcomes.{Outcome, onward, fitting}
use Rattle.table.specs.Rows.{Code}
use Rattle.record_check.specs.Parse.{parse}
use Rattle.view_refusals.specs.Phrases.{words_of}

-- p, q, states less one, m, a, K, constraint start and tail datum
abbrev pub numbers_of : Code → List ℕ
numbers_of c =
    c.p ∷ c.q ∷ (length c.table - 1) ∷ c.window.memory ∷ c.window.lookahead ∷ length c.constraint ∷ c.start
    ∷ c.tail ∷ []

-- the numbers of the record in the bytes xs: the record's refusals, then 13
unfoldable pub info_under : List ℕ → ℕ → Outcome (List ℕ)
info_under xs room = onward (parse xs) (λ c. fitting room (numbers_of c))

-- the words of the refusal with a number, or 13
unfoldable pub phrase_into : ℕ → ℕ → Outcome (List ℕ)
phrase_into n room = fitting room (words_of n)
