-- `reorder` meets its contract. Entry by entry.
use Rattle.std.proofs.Common.{◌≤◌, ◌<◌}
use Rattle.laws.proofs.All.{take}
use Rattle.compile_labels.specs.Parts.{Reordered}
use Rattle.compile_labels.proofs.reorder.Given as goal

abbrev pub invariant-loop-d : goal.invariant-loop-d
invariant-loop-d l = (l.d ≤ l.n) × (l.n ≤ 16) × (l.i < 128) × Reordered l.d l.i (take l.n l.ds) l.column l.r
