-- Row after row, in rising order of the states that are reached.
use Rattle.std.proofs.Common.{◌≡◌, ◌<◌}
use Rattle.laws.proofs.All.{ℕ, get_or, member}
use Rattle.compile_graph.specs.Component.{reachings, reaches}
use Rattle.compile_table.specs.TableOf.{first_edges}
use Rattle.compile_graph.specs.Value.{work_in}
use Rattle.compile_table.specs.Finishing.{Finished, rank}
use Rattle.compile_table.proofs.Tables.{Laid}
use Rattle.compile_table.proofs.finish_table.finish_table.Given as goal

abbrev pub invariant-loop-t : goal.invariant-loop-t
invariant-loop-t l =
    (f : Finished l.n l.g)
    × (reach : (x : ℕ) → x < l.g.states → member l.set x ≡ reaches
    (reachings l.g.states (first_edges l.n (work_in l.g))) 0 x)
    × (ranked : (x : ℕ) → x < l.g.states → get_or l.index x 0 ≡ rank l.set x)
    × Laid l.n l.g f l.set reach l.index ranked l.t l.count l.rows
