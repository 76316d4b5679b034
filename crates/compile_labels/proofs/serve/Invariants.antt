-- `serve` meets its contract. Edge by edge: those passed have their data, and all others what they asked for.
use Rattle.std.proofs.Common.{◌≡◌, ◌≤◌}
use Rattle.laws.proofs.All.{[], length, take, drop}
use Rattle.compile_labels.specs.Parts.{served}
use Rattle.compile_labels.proofs.serve.Given as goal

abbrev pub invariant-loop-k : goal.invariant-loop-k
invariant-loop-k l =
    (l.k ≤ l.n) × (l.n ≤ 16) × (length l.ds ≡ 16) × (served l.n (take l.k l.ds) (drop l.k (take l.n l.ds)) ≡ served l.n
    [] (take l.n l.initial.ds))
