-- Bytes parse to a code exactly when they are the record of it, its fields are in range, and its table is accepted.
-- In order: parse-exact; parse-canonical; check-exact.
-- Assumes nothing.
use Rattle.std.proofs.Common.{◌≡◌, ◌↔◌}
use Rattle.laws.proofs.All.{sym, ap, ◌∙◌, List, [], ℕ, T, Below}
use Rattle.answer.specs.Outcomes.{done, onward}
use Rattle.answer.proofs.Outcomes.{onward→}
use Rattle.table.specs.Rows.{Code}
use Rattle.table.specs.Formed.{formed, Formed}
use Rattle.record_check.specs.Accepted.{Accepted}
use Rattle.table.proofs.Formed.{formed→, →formed}
use Rattle.record_obeys.proofs.Exact.{obeys-exact}
use Rattle.record_check.proofs.Acceptance.{window-exact}
use Rattle.record.specs.Layout.{pack}
use Rattle.record_check.specs.Parse.{parse, checked_only}
use Rattle.record_check.proofs.Parse.{parse-good, parse-pack-good}

pub parse-exact : (xs : List ℕ) → Below 256 xs → (c : Code)
    → (parse xs ≡ done c) ↔ (T (formed c) × (pack c ≡ xs) × Accepted c)
parse-exact xs b c = (
  (λ e.
      let a = parse-good xs b c e in
      let f = formed→ c a.formed in
      (a.formed, a.canonical, ((obeys-exact c f).0 a.obeys, (window-exact c f).0 a.works))),
  (λ (t, e, (o, w)).
      let f = formed→ c t in
      ap parse (sym e) ∙ parse-pack-good c t ((obeys-exact c f).1 o) ((window-exact c f).1 w)),
)

-- the bytes are the record of the code that they hold
pub parse-canonical : (xs : List ℕ) → Below 256 xs → (c : Code) → parse xs ≡ done c → pack c ≡ xs
parse-canonical xs b c e = (parse-good xs b c e).canonical

-- the checker is done exactly when the bytes are the record of an accepted table
pub check-exact : (xs : List ℕ) → Below 256 xs
    → (checked_only xs ≡ done []) ↔ ((c : Code) × Formed c × (pack c ≡ xs) × Accepted c)
unfolding checked_only
check-exact xs b = (
  (λ e.
      let (c, p, _) = onward→ (parse xs) (λ c. done []) [] e in
      let (f, k, a) = (parse-exact xs b c).0 p in
      (c, formed→ c f, k, a)),
  (λ (c, f, k, a). ap (λ o. onward o (λ c. done [])) ((parse-exact xs b c).1 (→formed c f, k, a))),
)
