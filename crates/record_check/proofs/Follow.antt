-- What the two checks of a table need, and what loading and checking come to after each of them.
-- In order: followable, near; judged-disobeys, judged-fails, judged-good; parse-read, parse-bad;
-- check-bad, check-read.
-- Assumes nothing.
use Rattle.std.proofs.Common.{◌≡◌, ◌≤◌, Ok, Err}
use Rattle.laws.proofs.All.{sym, ◌∙◌, ap, true, false, List, [], ℕ, arith, T}
use Rattle.answer.specs.declared.Refusal.{Refusal}
use Rattle.answer.specs.declared.Refusal.TheVariants.{Disobeys, WindowFails}
use Rattle.answer.specs.Outcomes.{done, unless, refused, onward, answer_of}
use Rattle.answer.proofs.Outcomes.{unless-false}
use Rattle.table.specs.declared.Table.{Table}
use Rattle.table.specs.Rows.{Code}
use Rattle.table.specs.Value.{code_in, ready}
use Rattle.table.proofs.ReadyTables.{ready→, ready-formed, ready-start}
use Rattle.window.specs.Works.{works}
use Rattle.record_obeys.specs.Obeys.{obeys}
use Rattle.record_obeys.specs.Obeying.{Followable}
use Rattle.record.specs.Checks.{fields_checked}
use Rattle.record_check.specs.Parse.{judged, parse, checked_only}

-- a table whose fields are in range can be followed through its constraint
pub followable : (t : Table) → T (ready t) → Followable t
followable t r = record { ready = ready→ t r; nexts = (ready-formed t r).nexts; begin = ready-start t r }

-- and its lookahead is at most 15
pub near : (t : Table) → T (ready t) → t.lookahead ≤ 15
near t r = omega (arith, (ready-formed t r).range.a)

-- ---- the two checks of the table, one by one
pub judged-disobeys : (c : Code) → obeys c ≡ false → judged c ≡ refused Disobeys
judged-disobeys c e = unless-false Disobeys (obeys c) _ e

pub judged-fails : (c : Code) → obeys c ≡ true → works c.table c.window ≡ false → judged c ≡ refused WindowFails
judged-fails c e f =
    ap (λ b. unless Disobeys b (unless WindowFails (works c.table c.window) (done c))) e
    ∙ unless-false WindowFails (works c.table c.window) (done c) f

pub judged-good : (c : Code) → obeys c ≡ true → works c.table c.window ≡ true → judged c ≡ done c
judged-good c e f =
    ap (λ b. unless Disobeys b (unless WindowFails (works c.table c.window) (done c))) e
    ∙ ap (λ b. unless WindowFails b (done c)) f

-- ---- a reading goes on to the two checks
pub parse-read : (xs : List ℕ) (c : Code) → done c ≡ fields_checked xs → parse xs ≡ judged c
unfolding parse
parse-read xs c e = ap (λ o. onward o judged) (sym e)

pub parse-bad : (xs : List ℕ) (x : Refusal) → refused x ≡ fields_checked xs → parse xs ≡ refused x
unfolding parse
parse-bad xs x e = ap (λ o. onward o judged) (sym e)

-- ---- the checker's answer
pub check-bad : (xs : List ℕ) (x : Refusal) → refused x ≡ parse xs → Err x ≡ answer_of (checked_only xs)
unfolding checked_only
check-bad xs x e = ap (λ o. answer_of (onward o (λ c. done []))) e

pub check-read : (xs : List ℕ) (c : Code) → done c ≡ parse xs → Ok 0 ≡ answer_of (checked_only xs)
unfolding checked_only
check-read xs c e = ap (λ o. answer_of (onward o (λ c. done []))) e
