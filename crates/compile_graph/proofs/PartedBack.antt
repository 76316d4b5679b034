-- Parting a state: how many edges there will be.
-- In order: parted-count.
-- Assumes nothing.
use Rattle.std.proofs.Common.{◌≡◌, ◌+◌}
use Rattle.laws.proofs.All.{ap, List, map, ℕ, length, length-append, length-map, filter, filter_map}
use Rattle.laws.proofs.All.{filter_same, each-always}
use Rattle.compile_graph.specs.Arcs.{Arc, enters}
use Rattle.compile_graph.specs.Splitting.{moved, doubled}
use Rattle.compile_graph.proofs.PartedSums.{goes, stays, fate}

-- how many edges there will be
pub parted-count : (s K : ℕ) (keep g : List Arc)
    → length (doubled s K (map (moved s K keep) g)) ≡ length g + length (filter (enters s) g)
parted-count s K keep g = simp (length-append, length-map, filter_map (enters s) (moved s K keep))
    (ap (λ l. length g + length l) (filter_same _ (enters s) g
    (each-always (λ e. enters s (moved s K keep e) ≡ enters s e)
    (λ e. elim (fate s K keep e) [ goes p u q ↦ rw q | stays u q ↦ rw q ]) g)))
