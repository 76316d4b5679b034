-- A record read and judged: "the first check is 8 below five", then "header by 7, 8, the rest by 7, 9, 10".
-- In order: judged, the two checks of the table; parse, the whole order; checked_only, what the checker answers.
-- Assumes nothing.
use Rattle.std.specs.Prelude.{List, [], ℕ}
use Rattle.answer.specs.declared.Refusal.TheVariants.{Disobeys, WindowFails}
use Rattle.answer.specs.Outcomes.{Outcome, done, unless, onward}
use Rattle.table.specs.Rows.{Code}
use Rattle.window.specs.Works.{works}
use Rattle.record_obeys.specs.Obeys.{obeys}
use Rattle.record.specs.Checks.{fields_checked}

-- a code whose fields are in range: "9, 10"
abbrev pub judged : Code → Outcome Code
judged c = unless Disobeys (obeys c) (unless WindowFails (works c.table c.window) (done c))

-- the code that bytes hold, or the refusal: "8 below five", "header by 7, 8, the rest by 7", then "9, 10"
unfoldable pub parse : List ℕ → Outcome Code
parse xs = onward (fields_checked xs) judged

-- the checker's outcome: a record that is accepted gives no bytes
unfoldable pub checked_only : List ℕ → Outcome (List ℕ)
checked_only xs = onward (parse xs) (λ c. done [])
