-- Place i gets the weight of the component's state i.
use Rattle.laws.proofs.All.{get_or, Filled}
use Rattle.compile_component.proofs.component_graph.with_weights.Given as goal

abbrev pub invariant-loop-i : goal.invariant-loop-i
invariant-loop-i l =
    Filled 0 (λ x. get_or l.v (get_or l.list.state x 0) 0) 128 l.i l.weight
