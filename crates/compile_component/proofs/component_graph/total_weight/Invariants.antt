-- The weights are summed one by one.
use Rattle.std.proofs.Common.{◌≡◌, ◌*◌, ◌≤◌}
use Rattle.laws.proofs.All.{map, get_or, take, sum}
use Rattle.compile_component.proofs.component_graph.total_weight.Given as goal

abbrev pub invariant-loop-i : goal.invariant-loop-i
invariant-loop-i l =
    (l.total ≤ 128 * l.i)
    × (l.total ≡ sum (map (λ t. get_or l.v t 0) (take l.i l.list.state)))
