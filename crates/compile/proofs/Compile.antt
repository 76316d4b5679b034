-- The outcomes of compiling, each with its reason; and "no code" is said exactly when there is none.
-- In order: Reason, reason; ways-pos; weights-vector, greatest-vector; in-use-length, in-use-vector, in-use-enough;
-- job-inside, job-live, job-inv; weighs-nothing, nothing-weighs; compile-none, no-code-exact; brought-used,
-- computed-used, computed-greatest, brought-weigh.
-- Assumes nothing.
use Rattle.std.proofs.Common.{◌≡◌, ◌↔◌, ◌≤◌, ◌<◌}
use Rattle.laws.proofs.All.{le-ltb, lt-ltb, lt-leb, le-leb, sym, ap, subst, ◌∙◌, List, ℕ, arith}
use Rattle.laws.proofs.All.{dec_lt, ltb, pow_pos, le_of_eq, length, get_or, get_or-eq_default, sum, tot-zero, tot-eq}
use Rattle.laws.proofs.All.{each-always, T, elem, Each}
use Rattle.answer.specs.declared.Refusal.TheVariants.{NoCode, TooHeavy, TooManyEdges, NoWindow}
use Rattle.answer.specs.Outcomes.{Outcome, done, refused}
use Rattle.answer.proofs.Outcomes.{unless-false}
use Rattle.table.specs.Rows.{Code}
use Rattle.window.specs.Search.{window}
use Rattle.compile_graph.specs.Weights.{AtMost, Enough}
use Rattle.compile_graph.specs.Component.{live, component_states, component_graph, weight_of}
use Rattle.compile_graph.proofs.Weights.{weights-length, weights-enough, weights-greatest, weights-cap}
use Rattle.compile_job.specs.Jobs.{Choice, computed, brought, Job, Fitting, Allowed}
use Rattle.compile.specs.Compile.{greatest_of, used}
use Rattle.compile.specs.Compile.{ways, graph_of, weights_of, component_of, finished_of, table_for, code, compile}
use Rattle.compile.specs.Compile.{Vector}
use Rattle.compile.proofs.Compiled.{inside, live-some, first-inv, none-weighs}
use Rattle.compile_graph.specs.Invariant.{Inside, Inv}

-- why compiling comes to an outcome
pub data Reason (j : Job) : Outcome Code → Type 0 where
  nothing : sum (component_of j).weights ≡ 0 → Reason j (refused NoCode)
  heavy : 128 < sum (component_of j).weights → Reason j (refused TooHeavy)
  crowding : sum (component_of j).weights ≤ 128 → 2048 < length (finished_of j).arcs → Reason j (refused TooManyEdges)
  windowless : sum (component_of j).weights ≤ 128 → length (finished_of j).arcs ≤ 2048
      → 15 < (window (table_for j)).memory → Reason j (refused NoWindow)
  coded : 0 < sum (component_of j).weights → sum (component_of j).weights ≤ 128 → length (finished_of j).arcs ≤ 2048
      → (window (table_for j)).memory ≤ 15 → Reason j (done (code j (table_for j)))

pub reason : (j : Job) → Reason j (compile j)
unfolding compile
reason j =
    let w = sum (component_of j).weights in
    let e = length (finished_of j).arcs in
    let m = (window (table_for j)).memory in
    elim (dec_lt 0 w) [
      | no h ↦ rw (le-ltb 0 w (omega arith)) (nothing (omega arith))
      | yes h ↦ rw (lt-ltb 0 w h) (elim (dec_lt 128 w) [
        | yes k ↦ rw (lt-leb w 128 k) (heavy k)
        | no k ↦ rw (le-leb w 128 (omega arith)) (elim (dec_lt 2048 e) [
          | yes l ↦ rw (lt-ltb 2048 e l) (crowding (omega arith) l)
          | no l ↦ rw (le-ltb 2048 e (omega arith)) (elim (dec_lt 15 m) [
            | yes n ↦ rw (lt-leb m 15 n) (windowless (omega arith) (omega arith) n)
            | no n ↦ rw (le-leb m 15 (omega arith)) (coded h (omega arith) (omega arith) (omega arith))
          ])
        ])
      ])
    ]

pub ways-pos : (j : Job) → 0 < ways j
ways-pos j = pow_pos j.p

-- ---- weights
-- the weights are such a vector, and the greatest
pub weights-vector : (j : Job) → Vector j (greatest_of j)
weights-vector j = record {
  short = le_of_eq (weights-length (ways j) (graph_of j) j.cap (length j.constraint));
  capped = weights-cap (ways j) (graph_of j) j.cap (length j.constraint);
  enough = weights-enough (ways j) (graph_of j) j.cap (length j.constraint) (ways-pos j);
}

pub greatest-vector : (j : Job) (u : List ℕ) → Vector j u → AtMost u (greatest_of j)
greatest-vector j u v =
    weights-greatest (ways j) (graph_of j) j.cap (length j.constraint) u (ways-pos j) v.short v.capped
    v.enough

module _ (j : Job) (a : Allowed j) where
  -- the weights in use: one for each state, and they meet the inequality
  pub in-use-length : length (weights_of j) ≡ length j.constraint
  in-use-length = go j.choice a.fit
    where
      go : (ch : Choice) → Fitting j ch → length (used (greatest_of j) ch) ≡ length j.constraint
      go computed f = weights-length (ways j) (graph_of j) j.cap (length j.constraint)
      go (brought u) f = f.0

  pub in-use-vector : Vector j (weights_of j)
  in-use-vector = go j.choice a.fit
    where
      go : (ch : Choice) → Fitting j ch → Vector j (used (greatest_of j) ch)
      go computed f = weights-vector j
      go (brought u) f =
          record { short = le_of_eq f.0; capped = f.1.capped; enough = f.1.enough }

  pub in-use-enough : Enough (ways j) (graph_of j) (weights_of j)
  in-use-enough = in-use-vector.enough

  pub job-inside : Each (Inside (length (weights_of j))) (graph_of j)
  job-inside =
      inside j.constraint a.well (ways j) j.q (ways-pos j) (weights_of j) in-use-length in-use-enough

  -- the component of a job that weighs something has a state, and what splitting needs
  pub job-live : 0 < sum (component_of j).weights → (z : ℕ) × T (elem z (live (weights_of j)))
  job-live =
      live-some j.constraint a.well (ways j) j.q (ways-pos j) (weights_of j) in-use-length in-use-enough

  pub job-inv : 0 < sum (component_of j).weights → Inv (ways j) (sum (component_of j).weights) (component_of j)
  job-inv h =
      let (z, ez) = job-live h in
      first-inv j.constraint a.well (ways j) j.q (ways-pos j) (weights_of j) in-use-length in-use-enough z ez

-- ---- no code
-- all weights are 0 where the component's are
weighs-nothing : (j : Job) → Allowed j → sum (component_of j).weights ≡ 0 → (s : ℕ) → get_or (weights_of j) s 0 ≡ 0
weighs-nothing j a z s = elim (dec_lt s (length (weights_of j))) [
  | yes h ↦ none-weighs j.constraint a.well (ways j) j.q (ways-pos j) (weights_of j) (in-use-length j a)
      (in-use-enough j a) z s h
  | no h ↦ get_or-eq_default (weights_of j) 0 {n = s} (omega arith)
]

-- and the component's where all are
nothing-weighs : (j : Job) → ((s : ℕ) → get_or (weights_of j) s 0 ≡ 0) → sum (component_of j).weights ≡ 0
unfolding component_graph
nothing-weighs j h =
    let C = component_states (weights_of j) (graph_of j) in
    tot-eq (weight_of (weights_of j)) (λ s. 0) C (each-always (λ s. get_or (weights_of j) s 0 ≡ 0) h C) ∙ tot-zero C

pub compile-none : (j : Job) → sum (component_of j).weights ≡ 0 → compile j ≡ refused NoCode
unfolding compile
compile-none j z = unless-false NoCode (ltb 0 (sum (component_of j).weights)) _ (rw z)

-- refusal 3 comes exactly when the only vector is 0
pub no-code-exact : (j : Job) → Allowed j
    → (compile j ≡ refused NoCode) ↔ ((u : List ℕ) → Vector j u → (s : ℕ) → get_or u s 0 ≡ 0)
no-code-exact j a = (there, here)
  where
    zero-sum : Reason j (refused NoCode) → sum (component_of j).weights ≡ 0
    zero-sum (nothing z) = z

    there : compile j ≡ refused NoCode → (u : List ℕ) → Vector j u → (s : ℕ) → get_or u s 0 ≡ 0
    there e = none j.choice a.fit (weighs-nothing j a (zero-sum (subst (Reason j) e (reason j))))
      where
        none : (ch : Choice) → Fitting j ch → ((s : ℕ) → get_or (used (greatest_of j) ch) s 0 ≡ 0)
            → (u : List ℕ) → Vector j u → (s : ℕ) → get_or u s 0 ≡ 0
        none computed f z u v s = let q = z s in omega (arith, greatest-vector j u v s)
        none (brought w) f z u v s = let (i, h) = f.1.some in let q = z i in absurd (omega arith)

    here : ((u : List ℕ) → Vector j u → (s : ℕ) → get_or u s 0 ≡ 0) → compile j ≡ refused NoCode
    here f = compile-none j (nothing-weighs j (f (weights_of j) (in-use-vector j a)))

-- weights that come with a job are used, and weigh something
pub brought-used : (j : Job) (u : List ℕ) → j.choice ≡ brought u → weights_of j ≡ u
brought-used j u e = ap (used (greatest_of j)) e

pub computed-used : (j : Job) → j.choice ≡ computed → weights_of j ≡ greatest_of j
computed-used j e = ap (used (greatest_of j)) e

pub computed-greatest : (j : Job) → j.choice ≡ computed
    → Vector j (weights_of j) × ((u : List ℕ) → Vector j u → AtMost u (weights_of j))
computed-greatest j e =
    subst (λ v. Vector j v × ((u : List ℕ) → Vector j u → AtMost u v)) (sym (computed-used j e))
    (weights-vector j, greatest-vector j)

pub brought-weigh : (j : Job) → Allowed j → (u : List ℕ) → j.choice ≡ brought u → 0 < sum (component_of j).weights
brought-weigh j a u e = elim (dec_lt 0 (sum (component_of j).weights)) [
  | yes h ↦ h
  | no h ↦ let (i, k) = (subst (Fitting j) e a.fit).1.some in
      let z = weighs-nothing j a (omega arith) i in
      let q : get_or (weights_of j) i 0 ≡ get_or u i 0 = ap (λ v. get_or v i 0) (brought-used j u e) in
      absurd (omega arith)
]
