-- When compiling ends in a record, and exactly when it is refused with 3 to 6, with 13, and by reading, from bytes to
-- bytes.
-- In order: written_from, refused-from, short-from, early_from, none_from; kinds, as-onward, as-early,
-- as-allowed; written, calls, none, short, read-refused, never-short; passes.
-- Assumes nothing.
use Rattle.std.proofs.Common.{◌≡◌, ◌⊎◌, ◌↔◌, ◌≤◌, ◌<◌}
use Rattle.laws.proofs.All.{refl, sym, ap, ◌∙◌, inl, inr, List, ℕ, arith, lt-leb, length}
use Rattle.laws.proofs.All.{get_or, sum}
use Rattle.answer.specs.declared.Refusal.{Refusal}
use Rattle.answer.specs.declared.Refusal.TheVariants.{NoCode, ShortOutput}
use Rattle.answer.specs.Refusals.{number_of}
use Rattle.answer.specs.Outcomes.{Outcome, done, refused, onward, fitting}
use Rattle.answer.proofs.Outcomes.{onward→, fitting-true}
use Rattle.table.specs.Rows.{Size, Code}
use Rattle.table.proofs.Formed.{formed→}
use Rattle.window.specs.Window.{Window}
use Rattle.record.specs.Layout.{pack}
use Rattle.record.specs.Parse.{pack_into}
use Rattle.record_check.specs.Parse.{parse}
use Rattle.record.proofs.RecordBytes.{pack-short}
use Rattle.compile_job.specs.Jobs.{Job, read_job, read_run_length, read_joined, Allowed}
use Rattle.compile.specs.Compile.{Vector, component_of, finished_of, table_for, code, compile, compile_into}
use Rattle.compile.specs.Compile.{compile_job, compile_run_length, compile_joined}
use Rattle.compile.specs.Kinds.{Kind, general, run_length, joined, read_as, compile_as}
use Rattle.compile_job.proofs.Jobs.{read_job-allowed, read_run_length-allowed, read_joined-allowed}
use Rattle.compile.proofs.Compile.{no-code-exact}
use Rattle.compile.proofs.Accepted.{compiled-passes}
use Rattle.compile.proofs.Promises.{packed}
use Rattle.answer.proofs.RefusedOutcomes.{onward-refused, fitting-refused}
use Rattle.compile.proofs.Early.{Early, read-early, run-length-early, joined-early}
use Rattle.compile.proofs.Exact.{weighs-some, compile-done, compile-refused}

-- o is the reading of a job
module _ (o : Outcome Job) (early : (r : Refusal) → o ≡ refused r → Early r) (room : ℕ) where
  into-code : (j : Job) (c : Code) → o ≡ done j → compile j ≡ done c
      → onward o (compile_into room) ≡ fitting room (pack c)
  unfolding pack_into
  into-code j c e k = rw (e, k)

  written_from : (j : Job) → o ≡ done j → 0 < sum (component_of j).weights → sum (component_of j).weights ≤ 128
      → length (finished_of j).arcs ≤ 2048
      → (y : Size) → y.memory ≤ 15 → y.lookahead ≤ 15 → Window (table_for j) y
      → length (pack (code j (table_for j))) ≤ room
      → onward o (compile_into room) ≡ done (pack (code j (table_for j)))
  written_from j e h l few y hm ha w k =
      into-code j (code j (table_for j)) e (compile-done j h l few y hm ha w)
      ∙ fitting-true room (pack (code j (table_for j))) k

  -- a refusal that reading does not give comes from compiling or from the room
  from-refused : (r : Refusal) → (Early r → ⊥) → onward o (compile_into room) ≡ refused r
      → (j : Job) × (o ≡ done j)
      × ((compile j ≡ refused r) ⊎ ((c : Code) × (compile j ≡ done c) × (pack_into c room ≡ refused r)))
  from-refused r n e = elim (onward-refused o (compile_into room) r e) [
    | inl q ↦ absurd (n (early r q))
    | inr (j, p, q) ↦ (j, p, onward-refused (compile j) (λ c. pack_into c room) r q)
  ]

  -- 3 to 6 come from compiling
  refused-from : (r : Refusal) → 3 ≤ number_of r → number_of r ≤ 6
      → (onward o (compile_into room) ≡ refused r) ↔ ((j : Job) × (o ≡ done j) × (compile j ≡ refused r))
  unfolding pack_into
  refused-from r l h = (there, (λ (j, p, q). rw (p, q)))
    where
      there : onward o (compile_into room) ≡ refused r → (j : Job) × (o ≡ done j) × (compile j ≡ refused r)
      there e =
          let (j, p, s) = from-refused r (λ k. omega (arith, k.0 l)) e in elim s [
            | inl q ↦ (j, p, q)
            | inr (c, _, q) ↦ absurd (let n = ap number_of (fitting-refused room (pack c) r q).0 in omega arith)
          ]

  -- 13 comes from the room
  short-from : (onward o (compile_into room) ≡ refused ShortOutput)
      ↔ ((j : Job) × (c : Code) × (o ≡ done j) × (compile j ≡ done c) × (room < length (pack c)))
  unfolding pack_into
  short-from = (there, (λ (j, c, p, q, h). rw (p, q, lt-leb (length (pack c)) room h)))
    where
      there : onward o (compile_into room) ≡ refused ShortOutput
          → (j : Job) × (c : Code) × (o ≡ done j) × (compile j ≡ done c) × (room < length (pack c))
      there e =
          let (j, p, s) = from-refused ShortOutput (λ k. k.1 refl) e in
          elim s [
            | inl q ↦ absurd (omega (arith, compile-refused j ShortOutput q))
            | inr (c, q, k) ↦ (j, c, p, q, (fitting-refused room (pack c) ShortOutput k).1)
          ]

  -- all others come from reading
  early_from : (r : Refusal) → Early r → (onward o (compile_into room) ≡ refused r) ↔ (o ≡ refused r)
  unfolding pack_into
  early_from r (h, n) = (there, (λ e. rw e))
    where
      there : onward o (compile_into room) ≡ refused r → o ≡ refused r
      there e = elim (onward-refused o (compile_into room) r e) [
        | inl q ↦ q
        | inr (j, p, q) ↦ elim (onward-refused (compile j) (λ c. pack_into c room) r q) [
          | inl u ↦ let (a, b) = compile-refused j r u in absurd (omega (arith, h a))
          | inr (c, _, u) ↦ absurd (n (ap number_of (fitting-refused room (pack c) r u).0))
        ]
      ]

  module _ (allowed : (j : Job) → o ≡ done j → Allowed j) where
    none_from : (onward o (compile_into room) ≡ refused NoCode)
        ↔ ((j : Job) × (o ≡ done j) × ((u : List ℕ) → Vector j u → (s : ℕ) → get_or u s 0 ≡ 0))
    none_from =
        let (f, g) = refused-from NoCode (omega arith) (omega arith) in (
          (λ e. let (j, p, q) = f e in (j, p, (no-code-exact j (allowed j p)).0 q)),
          (λ (j, p, q). g (j, p, (no-code-exact j (allowed j p)).1 q)),
        )

-- ---- all kinds of job
-- what each kind is read and compiled by
pub kinds : (xs : List ℕ) (room : ℕ) → ((read_as general xs ≡ read_job xs)
    × (compile_as general xs room ≡ compile_job xs room)) × ((read_as run_length xs ≡ read_run_length xs)
    × (compile_as run_length xs room ≡ compile_run_length xs room)) × ((read_as joined xs ≡ read_joined xs)
    × (compile_as joined xs room ≡ compile_joined xs room))
kinds xs room = ((refl, refl), (refl, refl), (refl, refl))

pub as-onward : (k : Kind) (xs : List ℕ) (room : ℕ) → onward (read_as k xs) (compile_into room) ≡ compile_as k xs room
unfolding compile_job compile_run_length compile_joined
as-onward general xs room = refl
as-onward run_length xs room = refl
as-onward joined xs room = refl

as-early : (k : Kind) (xs : List ℕ) (r : Refusal) → read_as k xs ≡ refused r → Early r
as-early general xs = read-early xs
as-early run_length xs = run-length-early xs
as-early joined xs = joined-early xs

-- a job that is read is allowed
pub as-allowed : (k : Kind) (xs : List ℕ) (j : Job) → read_as k xs ≡ done j → Allowed j
as-allowed general xs = read_job-allowed xs
as-allowed run_length xs = read_run_length-allowed xs
as-allowed joined xs = read_joined-allowed xs

module _ (k : Kind) (xs : List ℕ) (room : ℕ) where
  -- the record is written where none of the refusals is due
  pub written : (j : Job) → read_as k xs ≡ done j → (u : List ℕ) → Vector j u → (s : ℕ) → 0 < get_or u s 0
      → sum (component_of j).weights ≤ 128 → length (finished_of j).arcs ≤ 2048
      → (y : Size) → y.memory ≤ 15 → y.lookahead ≤ 15 → Window (table_for j) y
      → length (pack (code j (table_for j))) ≤ room → compile_as k xs room ≡ done (pack (code j (table_for j)))
  written j e u v s g l few y hm ha w f =
      let h = weighs-some j (as-allowed k xs j e) u v s g in
      sym (as-onward k xs room) ∙ written_from (read_as k xs) (as-early k xs) room j e h l few y hm ha w f

  -- 3 to 6 are those of compiling the job
  pub calls : (r : Refusal) → 3 ≤ number_of r → number_of r ≤ 6
      → (compile_as k xs room ≡ refused r) ↔ ((j : Job) × (read_as k xs ≡ done j) × (compile j ≡ refused r))
  calls r l h = rw (as-onward k xs room) at (refused-from (read_as k xs) (as-early k xs) room r l h)

  -- 3 and 13, each exactly where it is due
  pub none : (compile_as k xs room ≡ refused NoCode)
      ↔ ((j : Job) × (read_as k xs ≡ done j) × ((u : List ℕ) → Vector j u → (s : ℕ) → get_or u s 0 ≡ 0))
  none = rw (as-onward k xs room) at (none_from (read_as k xs) (as-early k xs) room (as-allowed k xs))

  pub short : (compile_as k xs room ≡ refused ShortOutput)
      ↔ ((j : Job) × (c : Code) × (read_as k xs ≡ done j) × (compile j ≡ done c) × (room < length (pack c)))
  short = rw (as-onward k xs room) at (short-from (read_as k xs) (as-early k xs) room)

  -- 1, 2, 8, 14 and 17 are those of reading the job
  pub read-refused : (r : Refusal) → Early r → (compile_as k xs room ≡ refused r) ↔ (read_as k xs ≡ refused r)
  read-refused r h = rw (as-onward k xs room) at (early_from (read_as k xs) (as-early k xs) room r h)

  -- with room for the longest record 13 never comes
  pub never-short : 3865 ≤ room → compile_as k xs room ≡ refused ShortOutput → ⊥
  never-short h e =
      let (j, c, p, q, l) = short.0 e in
      let f = formed→ c (compiled-passes j (as-allowed k xs j p) c q).formed in
      omega (arith, pack-short c f)

-- the record of a job passes the checker, and is read as the code that was compiled
pub passes : (k : Kind) (xs : List ℕ) (room : ℕ) (r : List ℕ) → compile_as k xs room ≡ done r
    → (j : Job) × (c : Code) × (read_as k xs ≡ done j) × (compile j ≡ done c) × (pack c ≡ r) × (parse r ≡ done c)
passes k xs room r e =
    let (j, q, f) = onward→ (read_as k xs) (compile_into room) r (as-onward k xs room ∙ e) in
    let (c, p, s, t) = packed j (as-allowed k xs j q) room r f in
    (j, c, q, p, s, t)
