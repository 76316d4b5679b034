-- `ask` meets its contract. Edge by edge; what the lowest earlier state with the word gave it is read off the columns.
use Rattle.std.proofs.Common.{◌≡◌, ◌≤◌}
use Rattle.laws.proofs.All.{[], length, take}
use Rattle.laws.proofs.All.{extend}
use Rattle.table.specs.Rows.{Rows}
use Rattle.compile_labels.specs.Labels.{asked}
use Rattle.compile_labels.specs.Parts.{Worded, Homes}
use Rattle.compile_labels.proofs.ask.Given as goal

abbrev pub invariant-loop-k : goal.invariant-loop-k
invariant-loop-k l =
    (l.k ≤ l.n) × (length l.ds ≡ 16)
    × ((t : Rows) → Worded l.n t l.column → Homes t l.home → take l.k l.ds ≡ extend (asked l.n t) [] (take l.k l.words))
