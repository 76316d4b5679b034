-- Refusals 9 and 10 by their meanings: exactly the records whose fields are in range and whose recordings break the
-- constraint, or whose window fails.
-- In order: fails; disobeys-exact, window-fails-exact; order.
-- Assumes nothing.
use Rattle.std.proofs.Common.{◌≡◌, ◌↔◌}
use Rattle.laws.proofs.All.{refl, sym, ap, subst, ◌∙◌, Bool, true, false, List, ℕ, T, Below}
use Rattle.answer.specs.declared.Refusal.TheVariants.{Disobeys, WindowFails}
use Rattle.answer.specs.Outcomes.{done, refused, unless}
use Rattle.answer.proofs.Outcomes.{unless-true, unless-false}
use Rattle.table.specs.Rows.{Code}
use Rattle.window.specs.Window.{Window}
use Rattle.window.specs.Works.{works}
use Rattle.record_obeys.specs.Obeys.{Obeys, Breaks, obeys}
use Rattle.table.specs.Formed.{Formed}
use Rattle.table.proofs.Formed.{formed→, →formed}
use Rattle.record_obeys.proofs.Exact.{obeys-exact}
use Rattle.record_obeys.proofs.Breaks.{breaks-exact}
use Rattle.record_check.proofs.Acceptance.{window-exact}
use Rattle.record.specs.Layout.{pack}
use Rattle.record_check.specs.Parse.{parse}
use Rattle.record_check.specs.Reasons.{code_from, Reason, disobedient, windowless}
use Rattle.record.proofs.RecordRead.{fields-again}
use Rattle.record_check.proofs.Parse.{parse-pack}
use Rattle.record_check.proofs.Reasons.{reason}

fails : (b : Bool) → (T b → ⊥) → b ≡ false
fails true f = absurd (f tt)
fails false f = refl

module _ (xs : List ℕ) (bytes : Below 256 xs) where
  -- 9: some recording breaks the constraint
  pub disobeys-exact : (parse xs ≡ refused Disobeys)
      ↔ ((c : Code) × Formed c × (pack c ≡ xs) × Breaks c)
  disobeys-exact = ((λ e. there (subst (Reason xs) e (reason xs))), here)
    where
      there : Reason xs (refused Disobeys) → (c : Code) × Formed c × (pack c ≡ xs) × Breaks c
      there (disobedient s r e) =
          let (f, k) = fields-again xs bytes s.exact s.headed r in
          let g = formed→ (code_from xs) f in
          (code_from xs, g, k, (breaks-exact (code_from xs) g).0 e)

      here : (c : Code) × Formed c × (pack c ≡ xs) × Breaks c → parse xs ≡ refused Disobeys
      here (c, f, k, n) =
          ap parse (sym k) ∙ parse-pack c (→formed c f)
          ∙ unless-false Disobeys (obeys c) (unless WindowFails (works c.table c.window) (done c))
          ((breaks-exact c f).1 n)

  -- 10: every recording obeys it, and the window fails
  pub window-fails-exact : (parse xs ≡ refused WindowFails)
      ↔ ((c : Code) × Formed c × (pack c ≡ xs) × Obeys c × (Window c.table c.window → ⊥))
  window-fails-exact = ((λ e. there (subst (Reason xs) e (reason xs))), here)
    where
      there : Reason xs (refused WindowFails)
          → (c : Code) × Formed c × (pack c ≡ xs) × Obeys c × (Window c.table c.window → ⊥)
      there (windowless s r o e) =
          let (f, k) = fields-again xs bytes s.exact s.headed r in
          let c = code_from xs in
          let g = formed→ c f in
          (c, g, k, (obeys-exact c g).0 o, λ w. subst T e ((window-exact c g).1 w))

      here : (c : Code) × Formed c × (pack c ≡ xs) × Obeys c × (Window c.table c.window → ⊥)
          → parse xs ≡ refused WindowFails
      here (c, f, k, o, n) =
          let last = unless WindowFails (works c.table c.window) (done c) in
          ap parse (sym k) ∙ parse-pack c (→formed c f)
          ∙ unless-true Disobeys (obeys c) last ((obeys-exact c f).1 o)
          ∙ unless-false WindowFails (works c.table c.window) (done c)
          (fails (works c.table c.window) (λ t. n ((window-exact c f).0 t)))

  -- every outcome with its reason, 9 and 10 by their meanings
  pub order : Reason xs (parse xs)
      × ((parse xs ≡ refused Disobeys) ↔ ((c : Code) × Formed c × (pack c ≡ xs) × Breaks c))
      × ((parse xs ≡ refused WindowFails)
      ↔ ((c : Code) × Formed c × (pack c ≡ xs) × Obeys c × (Window c.table c.window → ⊥)))
  order = (reason xs, disobeys-exact, window-fails-exact)
