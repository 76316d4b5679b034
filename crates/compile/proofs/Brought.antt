-- What is promised of a job that brings its weights: 17 exactly where they fail, and otherwise a record or 4, 5, 6, 13.
-- In order: as-fitted, as_before; bad-weights; brought-ends; brought-alike.
-- Assumes nothing.
use Rattle.std.proofs.Common.{◌≡◌, ◌⊎◌, ◌↔◌, ◌≤◌, ◌<◌}
use Rattle.laws.proofs.All.{refl, sym, ap, ap₂, subst, ◌∙◌, inl, inr, false, List, ℕ}
use Rattle.laws.proofs.All.{arith, sum, bool_eq}
use Rattle.answer.specs.declared.Refusal.{Refusal}
use Rattle.answer.specs.declared.Refusal.TheVariants.{BadWeights}
use Rattle.answer.specs.Refusals.{number_of}
use Rattle.answer.specs.Outcomes.{Outcome, done, refused, unless, onward}
use Rattle.answer.proofs.Outcomes.{refused-not, unless-true, unless-false}
use Rattle.answer.proofs.RefusedOutcomes.{onward-refused, fitting-refused}
use Rattle.table.specs.Rows.{Code}
use Rattle.record.specs.Layout.{pack}
use Rattle.record.specs.Parse.{pack_into}
use Rattle.compile_graph.specs.Weights.{passing, Passing}
use Rattle.compile_graph.proofs.Weights.{passing-exact}
use Rattle.compile_job.specs.Jobs.{Choice, computed, brought, Job, fit, fitted, read_job, read_run_length, held_with}
use Rattle.compile_job.specs.Jobs.{read_joined}
use Rattle.compile_job.proofs.Joining.{joins-exact}
use Rattle.compile.specs.Compile.{ways, graph_of, weights_of, component_of, compile, compile_into}
use Rattle.compile.specs.Kinds.{Kind, general, run_length, joined, held_as, read_as, compile_as}
use Rattle.compile.proofs.Compile.{Reason, reason, nothing, heavy, crowding, windowless, coded, brought-weigh}
use Rattle.compile.proofs.Early.{Before, Early, held-before, run-length-before, joined-before}
use Rattle.compile.proofs.Written.{as-onward, as-allowed, read-refused}

-- the check of the weights is the last of reading
as-fitted : (k : Kind) (xs : List ℕ) → read_as k xs ≡ onward (held_as k xs) fitted
unfolding read_job read_run_length
as-fitted general xs = refl
as-fitted run_length xs = refl
as-fitted joined xs = go (read_joined xs) refl
  where
    go : (o : Outcome Job) → read_joined xs ≡ o → o ≡ onward o fitted
    go (refused r) e = refl
    go (done j) e =
        let (c, d, _, _, q) = joins-exact xs j e in
        sym (ap (λ ch. unless BadWeights (fit j ch) (done j)) (ap (λ j. j.choice) q))

as_before : (k : Kind) (xs : List ℕ) (r : Refusal) → held_as k xs ≡ refused r → Before r
as_before general xs = held-before xs
as_before run_length xs = run-length-before xs
as_before joined xs = joined-before xs

weights-early : Early BadWeights
weights-early = ((λ l. omega arith), (λ e. omega arith))

not-before : Before BadWeights → ⊥
not-before (inl h) = omega arith
not-before (inr (inl h)) = omega arith
not-before (inr (inr h)) = omega arith

-- the weights of a job fail
failing : (j : Job) (ch : Choice) → j.choice ≡ ch → unless BadWeights (fit j ch) (done j) ≡ refused BadWeights
    → (u : List ℕ) × (j.choice ≡ brought u) × (Passing (ways j) j.cap (graph_of j) u → ⊥)
failing j computed e q = absurd (refused-not BadWeights j (sym q))
failing j (brought u) e q = (
  u,
  e,
  λ p. refused-not BadWeights j (sym q
      ∙ unless-true BadWeights (passing (ways j) j.cap (graph_of j) u) (done j)
      ((passing-exact (ways j) j.cap (graph_of j) u).1 p)),
)

-- THEOREM: 17 comes exactly when the weights that come with a job fail
pub bad-weights : (k : Kind) (xs : List ℕ) (room : ℕ) → (compile_as k xs room ≡ refused BadWeights)
    ↔ ((j : Job) × (u : List ℕ) × (held_as k xs ≡ done j) × (j.choice ≡ brought u)
    × (Passing (ways j) j.cap (graph_of j) u → ⊥))
bad-weights k xs room = (there, back)
  where
    there : compile_as k xs room ≡ refused BadWeights → (j : Job) × (u : List ℕ) × (held_as k xs ≡ done j)
        × (j.choice ≡ brought u) × (Passing (ways j) j.cap (graph_of j) u → ⊥)
    there e =
        let r = sym (as-fitted k xs) ∙ (read-refused k xs room BadWeights weights-early).0 e in
        elim (onward-refused (held_as k xs) fitted BadWeights r) [
          | inl q ↦ absurd (not-before (as_before k xs BadWeights q))
          | inr (j, p, q) ↦ let (u, c, n) = failing j j.choice refl q in (j, u, p, c, n)
        ]

    back : ((j : Job) × (u : List ℕ) × (held_as k xs ≡ done j) × (j.choice ≡ brought u)
        × (Passing (ways j) j.cap (graph_of j) u → ⊥)) → compile_as k xs room ≡ refused BadWeights
    back (j, u, p, c, n) =
        (read-refused k xs room BadWeights weights-early).1
        (as-fitted k xs ∙ ap (λ o. onward o fitted) p
        ∙ ap (λ ch. unless BadWeights (fit j ch) (done j)) c
        ∙ unless-false BadWeights (passing (ways j) j.cap (graph_of j) u) (done j)
        (bool_eq (passing (ways j) j.cap (graph_of j) u) false
        (λ t. absurd (n ((passing-exact (ways j) j.cap (graph_of j) u).0 t))) (λ f. absurd f)))

-- THEOREM: weights that pass end in a record or in 4, 5, 6 or 13
pub brought-ends : (k : Kind) (xs : List ℕ) (room : ℕ) (j : Job) (u : List ℕ) → read_as k xs ≡ done j
    → j.choice ≡ brought u → (r : Refusal) → compile_as k xs room ≡ refused r
    → ((4 ≤ number_of r) × (number_of r ≤ 6)) ⊎ (number_of r ≡ 13)
unfolding pack_into
brought-ends k xs room j u e b r q =
    let w = brought-weigh j (as-allowed k xs j e) u b in
    let s : compile_into room j ≡ refused r =
    sym (ap (λ o. onward o (compile_into room)) e) ∙ as-onward k xs room ∙ q in
    elim (onward-refused (compile j) (λ c. pack_into c room) r s) [
      | inl p ↦ inl (go w (refused r) (subst (Reason j) p (reason j)))
      | inr (c, _, p) ↦ inr (ap number_of (fitting-refused room (pack c) r p).0)
    ]
  where
    number : Outcome Code → ℕ
    number (done c) = 4
    number (refused r) = number_of r

    go : 0 < sum (component_of j).weights → (o : Outcome Code) → Reason j o → (4 ≤ number o) × (number o ≤ 6)
    go w _ (nothing z) = absurd (omega arith)
    go w _ (heavy _) = (omega arith, omega arith)
    go w _ (crowding _ _) = (omega arith, omega arith)
    go w _ (windowless _ _ _) = (omega arith, omega arith)
    go w _ (coded _ _ _ _) = (omega arith, omega arith)

-- ---- weights that are brought beside weights that are found
-- of its weights and its cap a job's code depends on the weights in use alone
by_weights : (j : Job) → compile j ≡ compile (held_with j.p j.q 0 j.constraint (brought (weights_of j)))
unfolding compile
by_weights j = refl

-- THEOREM: jobs with one p, q and constraint and the same weights in use compile alike
pub brought-alike : (k l : Kind) (xs ys : List ℕ) (room : ℕ) (i j : Job) → read_as k xs ≡ done i → read_as l ys ≡ done j
    → i.p ≡ j.p → i.q ≡ j.q → i.constraint ≡ j.constraint → weights_of i ≡ weights_of j
    → compile_as k xs room ≡ compile_as l ys room
brought-alike k l xs ys room i j e f p q c w =
    sym (as-onward k xs room) ∙ ap (λ o. onward o (compile_into room)) e
    ∙ ap (λ o. onward o (λ code. pack_into code room)) (by_weights i
    ∙ ap₂ (λ a b. compile (held_with a b 0 i.constraint (brought (weights_of i)))) p q
    ∙ ap₂ (λ a b. compile (held_with j.p j.q 0 a (brought b))) c w ∙ sym (by_weights j))
    ∙ sym (ap (λ o. onward o (compile_into room)) f) ∙ as-onward l ys room
