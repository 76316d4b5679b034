-- A code with the least window of its table, and a table by value that has it.
-- In order: windowed, the check of the window; with_size, a table with a window; Whole.
-- Assumes nothing.
use Rattle.std.specs.Prelude.{ℕ, ◌≤◌, leb}
use Rattle.answer.specs.declared.Refusal.TheVariants.{NoWindow}
use Rattle.answer.specs.Outcomes.{Outcome, done, unless}
use Rattle.table.specs.declared.Table.{Table}
use Rattle.table.specs.Rows.{Code}
use Rattle.table.specs.Value.{Ready}
use Rattle.window.specs.Search.{window}

-- the code with the least window of its table, or "no window up to 15 and 15"
abbrev pub windowed : Code → Outcome Code
windowed c =
    unless NoWindow (leb (window c.table).memory 15) (done (record {
      p = c.p;
      q = c.q;
      window = window c.table;
      constraint = c.constraint;
      start = c.start;
      tail = c.tail;
      table = c.table;
    }))

-- the table with memory m and lookahead a
abbrev pub with_size : Table → ℕ → ℕ → Table
with_size t m a = record {
  p = t.p;
  q = t.q;
  states = t.states;
  memory = m;
  lookahead = a;
  constraint = t.constraint;
  start = t.start;
  tail = t.tail;
  word = t.word;
  next = t.next;
}

-- a table that has its window: its fields are in range, and the window is at most 15 and 15
pub record Whole (t : Table) : Type 0 where
  pub ready : Ready t
  pub memory : t.memory ≤ 15
  pub lookahead : t.lookahead ≤ 15
