-- `relabel` meets its contract. State by state: those passed have their data, and the homes are theirs.
use Rattle.std.proofs.Common.{◌≤◌}
use Rattle.table.specs.Edges.{arrays, rows_of}
use Rattle.compile_labels.proofs.Relabelling.{Relabels}
use Rattle.compile_labels.proofs.relabel.Given as goal

abbrev pub invariant-loop-i : goal.invariant-loop-i
invariant-loop-i l =
    (1 ≤ l.i) × (l.n ≤ 16) × (l.count ≤ 128) × Relabels l.n l.count
    (rows_of (arrays l.count l.n l.initial.word l.initial.next)) l.i l.word l.next l.home
