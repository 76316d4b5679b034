-- The compiler's code passes the checker: its fields are in range, every recording obeys, its window works.
-- In order: labelled-full; Made, made; made-obeys; Passes, compiled-passes; compiled-tail; compile-parses;
-- compiled-ready.
-- Assumes nothing.
use Rattle.std.proofs.Common.{◌≡◌, ◌^◌, ◌≤◌, ◌<◌}
use Rattle.laws.proofs.All.{sym, ap, subst, ◌∙◌, inl, inr, [], ℕ, le_trans, le_of_eq, arith}
use Rattle.laws.proofs.All.{T, ltb, eqb, lt→ltb, le→leb, eqb_refl, length, get_or, sum, all, Each, →and, →or_l}
use Rattle.laws.proofs.All.{→or_r, →all, each_at, refl}
use Rattle.answer.specs.Outcomes.{done}
use Rattle.constraint.specs.Walking.{Constraint, none, nowhere, walk, Target}
use Rattle.table.specs.Rows.{edge, Rows, edges, at, Code}
use Rattle.window.specs.Works.{works}
use Rattle.window.specs.Search.{window}
use Rattle.record_obeys.specs.Obeys.{obeys}
use Rattle.table.specs.declared.Table.{Table}
use Rattle.table.specs.Value.{code_in, ready}
use Rattle.table.specs.Paths.{Full}
use Rattle.table.specs.Formed.{head, good_state, good_next, good_edge, good_row, formed}
use Rattle.record_obeys.proofs.AnyClosure.{obeys-by}
use Rattle.record.specs.Layout.{pack}
use Rattle.record_check.specs.Parse.{parse}
use Rattle.record_check.proofs.Parse.{parse-pack-good}
use Rattle.compile_graph.specs.Arcs.{Reads}
use Rattle.compile_table.specs.TableOf.{table_of}
use Rattle.compile_table.proofs.TableOf.{Tabled}
use Rattle.compile_labels.proofs.Labels.{relabelled-length, tabled-relabelled}
use Rattle.window_least.proofs.Windowed.{window-found}
use Rattle.compile_job.specs.Jobs.{Job, Allowed}
use Rattle.compile.specs.Compile.{ways, weights_of, component_of, start_of, finished_of, table_for, code, compile}
use Rattle.compile.proofs.Compiled.{states-few, table-coded}
use Rattle.compile.proofs.Compile.{ways-pos, in-use-length, in-use-enough, job-live, Reason, reason, coded}

-- the table before its data are given: n edges a state, each a word that the constraint reads between the roots
plain-table : (j : Job) → Allowed j → 0 < sum (component_of j).weights → length (finished_of j).arcs ≤ 2048
    → (root : ℕ → ℕ) × Tabled (Reads j.constraint j.q) (ways j) (table_of (ways j) (finished_of j)) root
    × (root 0 ≡ start_of j) × (length (table_of (ways j) (finished_of j)) ≤ sum (component_of j).weights)
plain-table j a h few =
    let v = weights_of j in
    let l = in-use-length j a in
    let e = in-use-enough j a in
    let (z, ez) = job-live j a h in
    let (root, t, s) = table-coded j.constraint a.well (ways j) j.q (ways-pos j) v l e z ez few in
    (root, t, s, states-few j.constraint a.well (ways j) j.q (ways-pos j) v l e z ez)

-- the table whose data are given has n edges in each state
pub labelled-full : (j : Job) → Allowed j → 0 < sum (component_of j).weights → length (finished_of j).arcs ≤ 2048
    → Full (ways j) (table_of (ways j) (finished_of j))
labelled-full j a h few = (plain-table j a h few).1.full

-- what the table of a job is like
pub record Made (j : Job) : Type 0 where
  pub root : ℕ → ℕ
  pub table : Tabled (Reads j.constraint j.q) (ways j) (table_for j) root
  pub start : root 0 ≡ start_of j
  pub few : length (table_for j) ≤ 128

pub made : (j : Job) → Allowed j → 0 < sum (component_of j).weights → sum (component_of j).weights ≤ 128
    → length (finished_of j).arcs ≤ 2048 → Made j
made j a h light few =
    let old = table_of (ways j) (finished_of j) in
    let (root, t, s, l) = plain-table j a h few in
    record {
      root = root;
      table = tabled-relabelled (Reads j.constraint j.q) (ways j) old root t;
      start = s;
      few = le_trans (le_of_eq (relabelled-length (ways j) old)) (le_trans l light);
    }

-- ---- every recording obeys
pub made-obeys : (j : Job) → Made j → T (obeys (code j (table_for j)))
made-obeys j m =
    obeys-by (code j (table_for j)) Root (m.table.some, sym m.start) step fails
  where
    t : Rows
    t = table_for j

    Root : ℕ → ℕ → Type 0
    Root s k = (s < length (table_for j)) × (k ≡ m.root s)

    datum : (s d : ℕ) → s < length t → d < length (edges t s) → d < ways j
    datum s d hs hd = rw (m.table.full s hs) at hd

    reads : (s k d : ℕ) → Root s k → d < length (edges t s)
        → m.root (at t s d).next ≡ walk j.constraint j.q (at t s d).word k
    reads s k d (hs, e) hd =
        (m.table.over s d hs (datum s d hs hd)).1.0
        ∙ ap (walk j.constraint j.q (at t s d).word) (sym e)

    step : (s k d : ℕ) → Root s k → d < length (edges t s)
        → walk j.constraint j.q (at t s d).word k < length j.constraint
        → Root (at t s d).next (walk j.constraint j.q (at t s d).word k)
    step s k d r hd l = (m.table.next s d r.0 (datum s d r.0 hd), sym (reads s k d r hd))

    fails : (s k d : ℕ) → Root s k → d < length (edges t s)
        → (walk j.constraint j.q (at t s d).word k ≡ none) → ⊥
    fails s k d r hd e = (m.table.over s d r.0 (datum s d r.0 hd)).1.1 (reads s k d r hd ∙ e)

-- ---- its fields are in range
good-state : (K s : ℕ) → Target K s → T (good_state K s)
good-state K s (inl h) = →or_r (eqb s none) (ltb s K) (lt→ltb s K h)
good-state K s (inr e) = →or_l (eqb s none) (ltb s K) (rw e tt)

good-nexts : (c : Constraint) (K : ℕ) → Each (λ r. Target K r.zero × Target K r.one) c → T (all (good_next K) c)
good-nexts c K h =
    →all (good_next K) nowhere c
    (λ i l.
    let r = get_or c i nowhere in
    let (a, b) = each_at (λ r. Target K r.zero × Target K r.one) nowhere c h i l in
    →and (good_state K r.zero) (good_state K r.one) (good-state K r.zero a) (good-state K r.one b))

good-rows : (j : Job) (m : Made j) → T (all (good_row j.p j.q (length (table_for j))) (table_for j))
good-rows j m =
    let t = table_for j in
    →all (good_row j.p j.q (length t)) [] t
    (λ s hs.
    let full = m.table.full s hs in
    →and (eqb (length (edges t s)) (2 ^ j.p)) (all (good_edge j.q (length t)) (edges t s))
    (rw full (eqb_refl (2 ^ j.p)))
    (→all (good_edge j.q (length t)) (edge 0 0) (edges t s)
    (λ d hd.
    let l : d < ways j = rw full at hd in
    →and (ltb (at t s d).word (2 ^ j.q)) (ltb (at t s d).next (length t))
    (lt→ltb (at t s d).word (2 ^ j.q) (m.table.over s d hs l).1.2)
    (lt→ltb (at t s d).next (length t) (m.table.next s d hs l)))))

made-formed : (j : Job) → Allowed j → (m : Made j) → (window (table_for j)).memory ≤ 15
    → T (formed (code j (table_for j)))
unfolding formed
made-formed j a m w =
    let t = table_for j in
    let h = head (code j t) in
    let first : start_of j < length j.constraint =
    rw (← m.start) (m.table.over 0 0 m.table.some (ways-pos j)).0 in
    search (
      →and,
      le→leb,
      first,
      ways-pos j,
      (window-found t w).0,
      le→leb 1 (length t) m.table.some,
      lt→ltb (window t).memory 16 (omega arith),
      good-nexts j.constraint (length j.constraint) a.well,
      good-rows j m,
    ) depth 12

-- ---- the code of a job
-- what holds of the code that compiling gives
pub record Passes (c : Code) : Type 0 where
  pub formed : T (formed c)
  pub obeys : T (obeys c)
  pub works : T (works c.table c.window)

pub compiled-passes : (j : Job) → Allowed j → (c : Code) → compile j ≡ done c → Passes c
compiled-passes j a c e = go c (subst (Reason j) e (reason j))
  where
    go : (c : Code) → Reason j (done c) → Passes c
    go c (coded h light few w) =
        let m : Made j = made j a h light few in
        record {
          formed = made-formed j a m w;
          obeys = made-obeys j m;
          works = (window-found (table_for j) w).1;
        }

-- "The compiler writes 0" for the tail datum
pub compiled-tail : (j : Job) (c : Code) → compile j ≡ done c → c.tail ≡ 0
compiled-tail j c e = go c (subst (Reason j) e (reason j))
  where
    go : (c : Code) → Reason j (done c) → c.tail ≡ 0
    go c (coded _ _ _ _) = refl

-- the compiler's record always passes the checker, and loads as the code
pub compile-parses : (j : Job) → Allowed j → (c : Code) → compile j ≡ done c → parse (pack c) ≡ done c
compile-parses j a c e =
    let p : Passes c = compiled-passes j a c e in
    parse-pack-good c p.formed p.obeys p.works

-- and a table that holds the code is ready to be written
pub compiled-ready : (j : Job) → Allowed j → (t : Table) → compile j ≡ done (code_in t) → T (ready t)
unfolding ready
compiled-ready j a t e = (compiled-passes j a (code_in t) e).formed
