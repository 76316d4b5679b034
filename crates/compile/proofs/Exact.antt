-- When compiling a job is done and with what code, and exactly when it is refused with 4, 5 and 6.
-- In order: weighs-some; window-small, compile-done; compiled-code; not_none; heavy-exact, crowded-exact,
-- window-exact; compile-refused; refusals.
-- Assumes nothing.
use Rattle.std.proofs.Common.{◌≡◌, ◌↔◌, ◌≤◌, ◌<◌}
use Rattle.laws.proofs.All.{refl, sym, ap, subst, ◌∙◌, inl, inr, List, ℕ, arith, dec_lt, le-leb}
use Rattle.laws.proofs.All.{le-ltb, lt-ltb, length, get_or, sum}
use Rattle.answer.specs.declared.Refusal.{Refusal}
use Rattle.answer.specs.declared.Refusal.TheVariants.{NoCode, TooHeavy, TooManyEdges, NoWindow}
use Rattle.answer.specs.Refusals.{number_of}
use Rattle.answer.specs.Outcomes.{Outcome, done, refused}
use Rattle.table.specs.Rows.{Size, Code}
use Rattle.window.specs.Window.{Window}
use Rattle.window.specs.Search.{window}
use Rattle.window.proofs.Window.{works-complete}
use Rattle.window.proofs.WindowLeast.{window-least}
use Rattle.compile_graph.specs.Component.{component_states}
use Rattle.compile_table.specs.TableOf.{table_of}
use Rattle.compile_labels.specs.Labels.{relabelled}
use Rattle.compile_job.specs.Jobs.{Job, Allowed}
use Rattle.compile.specs.Compile.{ways, graph_of, Vector, weights_of, component_of, finished_of, table_for, code}
use Rattle.compile.specs.Compile.{compile}
use Rattle.answer.proofs.RefusedOutcomes.{refused-inj}
use Rattle.compile.proofs.Compile.{Reason, reason, nothing, heavy, crowding, windowless, coded, compile-none}
use Rattle.compile.proofs.Compile.{no-code-exact}
use Rattle.compile.proofs.CompileSteps.{compile-heavy, compile-crowded, compile-table}
use Rattle.compile.proofs.Promises.{no-window-exact}

module _ (j : Job) where
  -- a vector that is not all 0 gives the component weight
  pub weighs-some : Allowed j → (u : List ℕ) → Vector j u → (s : ℕ) → 0 < get_or u s 0
      → 0 < sum (component_of j).weights
  weighs-some a u v s h = elim (dec_lt 0 (sum (component_of j).weights)) [
    | yes k ↦ k
    | no k ↦ let z = (no-code-exact j a).0 (compile-none j (omega arith)) u v s in absurd (omega arith)
  ]

  -- where some window works, one is found
  window-small : (y : Size) → y.memory ≤ 15 → y.lookahead ≤ 15 → Window (table_for j) y
      → (window (table_for j)).memory ≤ 15
  window-small y hm ha w = elim (window-least (table_for j)) [
    | inl (s, _, _, _) ↦ omega arith
    | inr (_, f) ↦ absurd (f y (omega arith) (omega arith) (works-complete (table_for j) y w))
  ]

  -- the job's code, where none of 3 to 6 is due
  pub compile-done : 0 < sum (component_of j).weights → sum (component_of j).weights ≤ 128
      → length (finished_of j).arcs ≤ 2048
      → (y : Size) → y.memory ≤ 15 → y.lookahead ≤ 15 → Window (table_for j) y
      → compile j ≡ done (code j (table_for j))
  compile-done h l few y hm ha w =
      compile-table j h l (le-ltb 2048 (length (finished_of j).arcs) few)
      ∙ rw (le-leb (window (table_for j)).memory 15 (window-small y hm ha w))

  -- the code that compiling gives has the job's numbers and constraint, the component's first state and its table
  pub compiled-code : (c : Code) → compile j ≡ done c → (c.p ≡ j.p) × (c.q ≡ j.q)
      × (c.constraint ≡ j.constraint) × (c.start ≡ get_or (component_states (weights_of j) (graph_of j)) 0 0)
      × (c.tail ≡ 0) × (c.table ≡ relabelled (ways j) (table_of (ways j) (finished_of j)))
  compiled-code c e = go c (subst (Reason j) e (reason j))
    where
      go : (c : Code) → Reason j (done c) → (c.p ≡ j.p) × (c.q ≡ j.q)
          × (c.constraint ≡ j.constraint) × (c.start ≡ get_or (component_states (weights_of j) (graph_of j)) 0 0)
          × (c.tail ≡ 0) × (c.table ≡ relabelled (ways j) (table_of (ways j) (finished_of j)))
      go c (coded _ _ _ _) = (refl, refl, refl, refl, refl, refl)

  -- a refusal other than 3 comes only where the component weighs something
  not_none : (r : Refusal) → (number_of r ≡ 3 → ⊥) → compile j ≡ refused r → 0 < sum (component_of j).weights
  not_none r n e = elim (dec_lt 0 (sum (component_of j).weights)) [
    | yes k ↦ k
    | no k ↦ absurd (n (ap number_of (sym (refused-inj NoCode r (sym (compile-none j (omega arith)) ∙ e)))))
  ]

  -- refusal 4 comes exactly when the component's weights sum to over 128
  pub heavy-exact : (compile j ≡ refused TooHeavy) ↔ (128 < sum (component_of j).weights)
  heavy-exact = (λ e. there (subst (Reason j) e (reason j)), λ h. compile-heavy j (omega arith) h)
    where
      there : Reason j (refused TooHeavy) → 128 < sum (component_of j).weights
      there (heavy h) = h

  -- refusal 5 comes exactly when they sum to at most 128, not to 0, and there are over 2,048 edges
  pub crowded-exact : (compile j ≡ refused TooManyEdges)
      ↔ ((0 < sum (component_of j).weights) × (sum (component_of j).weights ≤ 128)
      × (2048 < length (finished_of j).arcs))
  crowded-exact = (
    (λ e. let (l, k) = there (subst (Reason j) e (reason j)) in (not_none TooManyEdges (λ n. omega arith) e, l, k)),
    (λ (h, l, k). compile-crowded j h l (lt-ltb 2048 (length (finished_of j).arcs) k)),
  )
    where
      there : Reason j (refused TooManyEdges)
          → (sum (component_of j).weights ≤ 128) × (2048 < length (finished_of j).arcs)
      there (crowding l k) = (l, k)

  -- refusal 6 comes exactly when none of 3 to 5 is due and no window up to 15 and 15 does what a window must
  pub window-exact : Allowed j → (compile j ≡ refused NoWindow)
      ↔ ((0 < sum (component_of j).weights) × (sum (component_of j).weights ≤ 128)
      × (length (finished_of j).arcs ≤ 2048)
      × ((y : Size) → y.memory ≤ 15 → y.lookahead ≤ 15 → Window (table_for j) y → ⊥))
  window-exact a = (
    (λ e.
        let h = not_none NoWindow (λ n. omega arith) e in
        let (l, few) = there (subst (Reason j) e (reason j)) in
        (h, l, few, (no-window-exact j a h l few).0 e)),
    (λ (h, l, few, f). (no-window-exact j a h l few).1 f),
  )
    where
      there : Reason j (refused NoWindow)
          → (sum (component_of j).weights ≤ 128) × (length (finished_of j).arcs ≤ 2048)
      there (windowless l few _) = (l, few)

  -- compiling alone is refused with 3 to 6 only
  pub compile-refused : (r : Refusal) → compile j ≡ refused r → (3 ≤ number_of r) × (number_of r ≤ 6)
  compile-refused r e = go (refused r) (subst (Reason j) e (reason j))
    where
      number : Outcome Code → ℕ
      number (done c) = 3
      number (refused r) = number_of r

      go : (o : Outcome Code) → Reason j o → (3 ≤ number o) × (number o ≤ 6)
      go _ (nothing _) = (omega arith, omega arith)
      go _ (heavy _) = (omega arith, omega arith)
      go _ (crowding _ _) = (omega arith, omega arith)
      go _ (windowless _ _ _) = (omega arith, omega arith)
      go _ (coded _ _ _ _) = (omega arith, omega arith)

  -- 4, 5 and 6, each exactly where it is due
  pub refusals : Allowed j → let w = sum (component_of j).weights in let e = length (finished_of j).arcs in
      ((compile j ≡ refused TooHeavy) ↔ (128 < w))
      × ((compile j ≡ refused TooManyEdges) ↔ ((0 < w) × (w ≤ 128) × (2048 < e)))
      × ((compile j ≡ refused NoWindow) ↔ ((0 < w) × (w ≤ 128) × (e ≤ 2048)
      × ((y : Size) → y.memory ≤ 15 → y.lookahead ≤ 15 → Window (table_for j) y → ⊥)))
  refusals a = (heavy-exact, crowded-exact, window-exact a)
