-- The line of a trace that says why weights that are brought fail.
-- In order: over_line, zero_line, short_line; fail_line, the first of them that holds.
-- Assumes nothing.
use Rattle.std.specs.Prelude.{if◌then◌else◌, List, [], ◌∷◌, ℕ, ◌*◌, length, get_or}
use Rattle.laws.specs.Lists.{range, all, any, first}
use Rattle.text.specs.Texts.{bytes}
use Rattle.sentences.specs.Sentences.{said}
use Rattle.compile_graph.specs.Arcs.{Arc}
use Rattle.compile_graph.specs.Weights.{product, low, weighty}
use Rattle.compile_weights.specs.Failures.{over, unmet}

-- "weight 17 of state 3 is over cap 16"
unfoldable pub over_line : ℕ → ℕ → ℕ → List ℕ
over_line weight s cap = said "weight # of state # is over cap #\n" (weight ∷ s ∷ cap ∷ [])

-- "all weights are 0"
unfoldable pub zero_line : List ℕ
zero_line = bytes "all weights are 0\n"

-- "state 6: 2 times weight 2 is 4, its words lead to weight 3"
unfoldable pub short_line : ℕ → ℕ → ℕ → ℕ → List ℕ
short_line s n weight sum =
    said "state #: # times weight # is #, its words lead to weight #\n" (s ∷ n ∷ weight ∷ n * weight ∷ sum ∷ [])

-- weights that are brought "must be at most cap, not all 0, and meet the inequality at each state of the constraint":
-- the first of these that fails, with the first state at which it does
unfoldable pub fail_line : ℕ → ℕ → List Arc → List ℕ → List ℕ
fail_line n cap g v =
    let S = range (length v) in
    let s = first (over cap v) 0 S in
    let t = first (unmet n g v) 0 S in
    if all (low cap v) S then (if any (weighty v) S then short_line t n (get_or v t 0) (product g v t) else zero_line)
    else over_line (get_or v s 0) s cap
