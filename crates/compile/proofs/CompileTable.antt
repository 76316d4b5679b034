-- The table that compiling in code makes.
-- In order: table_by, table-rows, table-ready, table-code.
-- Assumes nothing.
use Rattle.std.proofs.Common.{◌≡◌, ◌^◌, ◌≤◌, ◌<◌}
use Rattle.laws.proofs.All.{sym, ap, ap₂, subst, ◌∙◌, ℕ, leb, length}
use Rattle.answer.specs.declared.Refusal.TheVariants.{NoWindow}
use Rattle.answer.specs.Outcomes.{done, unless}
use Rattle.table.specs.declared.Table.{Table}
use Rattle.table.specs.Rows.{edge, at}
use Rattle.window.specs.Search.{window}
use Rattle.table.specs.Edges.{lent}
use Rattle.table.specs.Value.{word_at, next_at, rows_in, code_in, Ready}
use Rattle.table.proofs.RowsOf.{length-rows, edge-at}
use Rattle.compile_graph.specs.declared.Graph.{Graph}
use Rattle.window_least.specs.Windowed.{windowed}
use Rattle.compile_table.specs.declared.finish_table.TableRows.{TableRows}
use Rattle.compile_table.specs.TableOf.{table_of}
use Rattle.compile_split.specs.SplitParts.{SplitAllTo}
use Rattle.compile_table.specs.Finishing.{TableIn, rows_of_table}
use Rattle.compile_labels.specs.Labels.{relabelled}
use Rattle.compile_job.specs.declared.JobValue.{JobValue}
use Rattle.compile.specs.Compile.{table_for, compile}
use Rattle.compile_job.specs.JobValues.{job_in, JobReady}
use Rattle.compile.specs.Stages.{Begun}
use Rattle.compile.proofs.Accepted.{Made, made}
use Rattle.compile.proofs.CompileSteps.{compile-table, begun-room, begun-work, begun-short}

-- the table with these rows, and no window yet
abbrev pub table_by : JobValue → ℕ → TableRows → Table
table_by j start rows = record {
  p = j.p;
  q = j.q;
  states = rows.states;
  memory = 0;
  lookahead = 0;
  constraint = j.constraint;
  start = start;
  tail = 0;
  word = rows.word;
  next = rows.next;
}

module _ (j : JobValue) (a : JobReady j) (n : ℕ) (g : Graph) (start : ℕ) (b : Begun (job_in j) n g start)
    (r : Graph) (s : SplitAllTo n g r) (old : TableRows) (i : TableIn n r old) (rows : TableRows)
    (u : (rows_of_table n rows ≡ relabelled n (rows_of_table n old)) × (rows.states ≡ old.states))
  where
    abbrev t : Table
    t = table_by j start rows

    table-rows : rows_in t ≡ table_for (job_in j)
    table-rows =
        ap (λ m. rows_of_table m rows) (sym b.count) ∙ u.0 ∙ ap (relabelled n) i.rows
        ∙ ap₂ (λ m x. relabelled m (table_of m x)) b.count (begun-work (job_in j) a.allowed n g start b r s)

    made_so : Made (job_in j)
    made_so =
        made (job_in j) a.allowed b.some b.light (begun-short (job_in j) a.allowed n g start b r s)

    long : length (table_for (job_in j)) ≡ rows.states
    long = ap length (sym table-rows) ∙ length-rows (lent t)

    at-is : (x d : ℕ) → x < rows.states → d < 2 ^ j.p → at (table_for (job_in j)) x d ≡ edge (word_at t x d)
        (next_at t x d)
    at-is x d h l = ap (λ T. at T x d) (sym table-rows) ∙ edge-at (lent t) x d h l

    -- THEOREM: the table can be searched, written and listed
    pub table-ready : Ready t
    table-ready =
        let m = made_so in
        record {
          some = subst (λ k. 1 ≤ k) long m.table.some;
          few = rw u.1 i.few;
          narrow = a.allowed.p₂;
          short = a.allowed.q₂;
          reading = λ x d h l. subst (λ z. z.word < 2 ^ j.q) (at-is x d h l)
              (m.table.over x d (subst (λ k. x < k) (sym long) h) l).1.2;
          inside = λ x d h l. subst (λ k. next_at t x d < k) long (subst (λ z. z.next < length (table_for (job_in j)))
              (at-is x d h l) (m.table.next x d (subst (λ k. x < k) (sym long) h) l));
          limits = a.limits;
        }

    -- THEOREM: what compiling comes to is the table with its window
    pub table-code : windowed (code_in t) ≡ compile (job_in j)
    table-code =
        ap₂ (λ z T. unless NoWindow (leb (window T).memory 15) (done (record {
          p = j.p;
          q = j.q;
          window = window T;
          constraint = (job_in j).constraint;
          start = z;
          tail = t.tail;
          table = T;
        }))) b.first
        table-rows
        ∙ sym (compile-table (job_in j) b.some b.light (begun-room (job_in j) a.allowed n g start b r s))
