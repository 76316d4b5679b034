-- The search goes from the first entry of the state on.
use Rattle.std.proofs.Common.{◌≡◌}
use Rattle.codec_groups.specs.Groups.{first_edge}
use Rattle.codec_groups.proofs.FirstEdges.{sought_from}
use Rattle.codec_groups.proofs.laying.first_edge.Given as goal

abbrev pub invariant-loop-e : goal.invariant-loop-e
invariant-loop-e l = first_edge l.edges.ways l.edges.word.now l.w l.s ≡ sought_from l.edges.word.now l.w l.end l.e
