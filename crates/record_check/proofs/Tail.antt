-- Whether a record is refused, and with what, does not depend on the tail datum.
-- In order: obeys-same, formed-so, judged-tail; tail-free; tail-passes.
-- Assumes nothing.
use Rattle.std.proofs.Common.{◌≡◌, ◌^◌, ◌<◌}
use Rattle.laws.proofs.All.{refl, sym, ap, subst, ◌∙◌, Bool, true, false, List, ℕ, T, lt→ltb}
use Rattle.answer.specs.declared.Refusal.TheVariants.{Disobeys, WindowFails}
use Rattle.answer.specs.Outcomes.{done, unless, onward}
use Rattle.table.specs.Rows.{Code, with_tail}
use Rattle.table.specs.Formed.{formed, Formed}
use Rattle.table.proofs.Formed.{→formed, formed-tail}
use Rattle.window.specs.Works.{works}
use Rattle.record_obeys.specs.Obeys.{obeys}
use Rattle.record.specs.Layout.{pack}
use Rattle.record_check.specs.Parse.{judged, parse}
use Rattle.record_check.proofs.Parse.{parse-pack, parse-pack-good, parse-passed}

-- no word and no edge looks at it
obeys-same : (c : Code) (k : ℕ) → obeys (with_tail c k) ≡ obeys c
unfolding obeys
obeys-same c k = refl

formed-so : (c : Code) (k : ℕ) → T (formed c) → k < 2 ^ c.p → T (formed (with_tail c k))
formed-so c k t h = subst T (sym (formed-tail c k t)) (lt→ltb k (2 ^ c.p) h)

-- the two checks of the table
judged-tail : (c : Code) (k : ℕ) → judged (with_tail c k) ≡ onward (judged c) (λ d. done (with_tail d k))
judged-tail c k =
    ap (λ b. unless Disobeys b (unless WindowFails (works c.table c.window) (done (with_tail c k))))
    (obeys-same c k) ∙ go (obeys c) (works c.table c.window)
  where
    go : (a b : Bool) → unless Disobeys a (unless WindowFails b (done (with_tail c k)))
        ≡ onward (unless Disobeys a (unless WindowFails b (done c))) (λ d. done (with_tail d k))
    go true true = refl
    go true false = refl
    go false b = refl

-- THEOREM: a record with another tail datum below 2^p is refused exactly as the record is, or read as its code with
-- that datum
pub tail-free : (c : Code) (k : ℕ) → Formed c → k < 2 ^ c.p
    → parse (pack (with_tail c k)) ≡ onward (parse (pack c)) (λ d. done (with_tail d k))
tail-free c k f h =
    let t = →formed c f in
    parse-pack (with_tail c k) (formed-so c k t h) ∙ judged-tail c k
    ∙ sym (ap (λ o. onward o (λ d. done (with_tail d k))) (parse-pack c t))

-- so the record of an accepted code with another tail datum is read as that code
pub tail-passes : (xs : List ℕ) (c : Code) → parse xs ≡ done c → (k : ℕ) → k < 2 ^ c.p
    → parse (pack (with_tail c k)) ≡ done (with_tail c k)
tail-passes xs c e k h =
    let (f, o, w) = parse-passed xs c e in
    parse-pack-good (with_tail c k) (formed-so c k f h) (rw (obeys-same c k) o) w
