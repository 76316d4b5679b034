-- A row of checks is refused with r exactly when r is the refusal of the first that fails.
-- In order: first-none, first-unless, first-onward; onward-exact; fitting-exact, fitting-done.
-- Assumes nothing.
use Rattle.std.proofs.Common.{◌≡◌, ◌⊎◌, ◌↔◌, ◌≤◌, ◌<◌}
use Rattle.laws.proofs.All.{sym, ap, ◌∙◌, inl, inr, Bool, true, false, List, [], ℕ, leb}
use Rattle.laws.proofs.All.{lt-leb, length}
use Rattle.answer.specs.declared.Refusal.{Refusal}
use Rattle.answer.specs.declared.Refusal.TheVariants.{ShortOutput}
use Rattle.answer.specs.Outcomes.{Outcome, done, refused, unless, onward, fitting}
use Rattle.answer.specs.Orders.{First}
use Rattle.answer.proofs.Outcomes.{unless-false, fitting-true, fitting→}
use Rattle.answer.proofs.RefusedOutcomes.{refused-inj, onward-refused, fitting-refused}
use Rattle.answer.proofs.Due.{Told, never_done}

-- a result is not refused
pub first-none : {A : Type 0} (a : A) (r : Refusal) → (done a ≡ refused r) ↔ First [] r
first-none a r = (never_done a r, (λ z. absurd z))

-- one check in front of a row: the test b says whether P holds, and F is what the row says
pub first-unless : {A P N F : Type 0} (s : Refusal) (b : Bool) (o : Outcome A) (r : Refusal) → Told b P N
    → (o ≡ refused r) ↔ F → (unless s b o ≡ refused r) ↔ (((s ≡ r) × (P → ⊥)) ⊎ (P × F))
first-unless s true o r t (u, v) = (
  (λ e. inr (t.passes.0 tt, u e)),
  (λ x. elim x [ inl (_, n) ↦ absurd (n (t.passes.0 tt)) | inr (_, w) ↦ v w ]),
)
first-unless s false o r t (u, v) = (
  (λ e. inl (refused-inj s r e, λ p. absurd (t.passes.1 p))),
  (λ x. elim x [ inl (e, _) ↦ ap refused e | inr (p, _) ↦ absurd (t.passes.1 p) ]),
)

-- the same, where something comes after the row's result
pub first-onward : {A B P N F : Type 0} (s : Refusal) (b : Bool) (o : Outcome A) (f : A → Outcome B) (r : Refusal)
    → Told b P N → (onward o f ≡ refused r) ↔ F
    → (onward (unless s b o) f ≡ refused r) ↔ (((s ≡ r) × (P → ⊥)) ⊎ (P × F))
first-onward s true o f r t k = first-unless s true (onward o f) r t k
first-onward s false o f r t k = first-unless s false (onward o f) r t k

-- a first step, and what comes of its result
pub onward-exact : {A B : Type 0} (o : Outcome A) (f : A → Outcome B) (r : Refusal) → (onward o f ≡ refused r)
    ↔ ((o ≡ refused r) ⊎ ((x : A) × (o ≡ done x) × (f x ≡ refused r)))
onward-exact o f r = (
  onward-refused o f r,
  (λ s. elim s [ inl e ↦ ap (λ o. onward o f) e | inr (x, e, k) ↦ ap (λ o. onward o f) e ∙ k ]),
)

-- ---- the check of the room
module _ (room : ℕ) (xs : List ℕ) where
  pub fitting-exact : (r : Refusal) → (fitting room xs ≡ refused r) ↔ ((r ≡ ShortOutput) × (room < length xs))
  fitting-exact r = (
    fitting-refused room xs r,
    (λ (e, h).
        unless-false ShortOutput (leb (length xs) room) (done xs) (lt-leb (length xs) room h) ∙ ap refused (sym e)),
  )

  pub fitting-done : (ys : List ℕ) → (fitting room xs ≡ done ys) ↔ ((length xs ≤ room) × (xs ≡ ys))
  fitting-done ys = (fitting→ room xs ys, (λ (h, e). fitting-true room xs h ∙ ap done e))
