-- A code with its fields in range, written as a record and parsed again, is judged as it stands; and what bytes that
-- are accepted hold.
-- In order: parse-pack, pack-judged, parse-pack-good; parse-passed, parse-formed; Checked, parse-good.
-- Assumes nothing.
use Rattle.std.proofs.Common.{◌≡◌}
use Rattle.laws.proofs.All.{ap, subst, ◌∙◌, List, ℕ, T, Below}
use Rattle.answer.specs.declared.Refusal.TheVariants.{Disobeys, WindowFails}
use Rattle.answer.specs.Outcomes.{done, unless, onward}
use Rattle.answer.proofs.Outcomes.{done_inj, unless-true, unless→, onward→}
use Rattle.table.specs.Rows.{Code}
use Rattle.window.specs.Works.{works}
use Rattle.record_obeys.specs.Obeys.{obeys}
use Rattle.table.specs.Formed.{formed, Formed}
use Rattle.table.proofs.Formed.{→formed}
use Rattle.record.specs.Layout.{pack}
use Rattle.record.specs.Checks.{fields_checked}
use Rattle.record.proofs.RecordWrite.{fields-pack}
use Rattle.record.proofs.RecordRead.{fields-formed, fields-good}
use Rattle.record_check.specs.Parse.{judged, parse}

-- a code with its fields in range, packed and parsed, is judged as it stands
pub parse-pack : (c : Code) → T (formed c) → parse (pack c) ≡ judged c
unfolding parse
parse-pack c t = ap (λ o. onward o judged) (fields-pack c t)

pub pack-judged : (c : Code) → Formed c → parse (pack c) ≡ judged c
pack-judged c f = parse-pack c (→formed c f)

-- so an accepted code comes back
pub parse-pack-good : (c : Code) → T (formed c) → T (obeys c) → T (works c.table c.window)
    → parse (pack c) ≡ done c
parse-pack-good c t u v =
    parse-pack c t ∙ unless-true Disobeys (obeys c) (unless WindowFails (works c.table c.window) (done c)) u
    ∙ unless-true WindowFails (works c.table c.window) (done c) v

judged→ : (d c : Code) → judged d ≡ done c → T (obeys d) × T (works d.table d.window) × (d ≡ c)
judged→ d c e =
    let (o, e₁) = unless→ Disobeys (obeys d) (unless WindowFails (works d.table d.window) (done d)) c e in
    let (w, e₂) = unless→ WindowFails (works d.table d.window) (done d) c e₁ in
    (o, w, done_inj d c e₂)

-- what parse accepts has its fields in range and passes the two checks of the table
pub parse-passed : (xs : List ℕ) (c : Code) → parse xs ≡ done c
    → T (formed c) × T (obeys c) × T (works c.table c.window)
unfolding parse
parse-passed xs c e =
    let (d, e₀, e₁) = onward→ (fields_checked xs) judged c e in
    let (o, w, q) = judged→ d c e₁ in
    subst (λ d. T (formed d) × T (obeys d) × T (works d.table d.window)) q (fields-formed xs d e₀, o, w)

pub parse-formed : (xs : List ℕ) (c : Code) → parse xs ≡ done c → T (formed c)
parse-formed xs c e = (parse-passed xs c e).0

module _ (xs : List ℕ) (bytes : Below 256 xs) where
  pub record Checked (c : Code) : Type 0 where
    pub formed : T (formed c)
    pub obeys : T (obeys c)
    pub works : T (works c.table c.window)
    pub canonical : pack c ≡ xs

  -- what parse accepts is the record of a code that passes every check
  pub parse-good : (c : Code) → parse xs ≡ done c → Checked c
  unfolding parse
  parse-good c e =
      let (d, e₀, e₁) = onward→ (fields_checked xs) judged c e in
      let (o, w, q) = judged→ d c e₁ in
      let g = fields-good xs bytes d e₀ in
      subst Checked q (record {
        formed = g.formed;
        obeys = o;
        works = w;
        canonical = g.canonical;
      })
