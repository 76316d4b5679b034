-- Each word that leads into the component is appended; that there would be too many edges is said before a store.
use Rattle.std.proofs.Common.{◌≡◌, ◌≤◌}
use Rattle.laws.proofs.All.{get_or}
use Rattle.compile_component.proofs.AppendedRows.{Rowed}
use Rattle.compile_component.proofs.component_graph.add_words.Given as goal

abbrev pub invariant-loop-w : goal.invariant-loop-w
invariant-loop-w l =
    (l.m ≤ 2048) × (l.from ≡ get_or l.index l.s 0) × Rowed l.power l.index l.s l.fn.g l.h l.m l.w
