-- "Splitting, while some state has fewer than n edges out."
-- In order: earlier, insert, sort; same, among; greatest, lighter, splittable, chosen; other, candidates; stretch,
-- runs_to, runs, divisible, first_run, kept; moved, redirected, doubled, parted; split; few_edges, unfinished, crowded,
-- goes_on, splits, split_all.
-- Assumes nothing.
use Rattle.std.specs.Prelude.{if◌then◌else◌, Bool, true, false, not, ◌&&◌, ◌||◌, List, [], ◌∷◌, ◌++◌, map, ℕ, zero, suc}
use Rattle.std.specs.Prelude.{◌+◌, ◌-◌, ◌/◌, ◌%◌, max, ltb, eqb, length, get_or, take, drop, set}
use Rattle.laws.specs.Lists.{range, sum, filter, any, first, concat}
use Rattle.laws.specs.Sorted.{insert_by, sort_by}
use Rattle.compile_graph.specs.Arcs.{Arc, arc, Work, leaves, enters, out}
use Rattle.compile_graph.specs.Weights.{weight, total}

-- "Order its edges by word, then target": e stands before f
abbrev pub earlier : Arc → Arc → Bool
earlier e f = ltb e.word f.word || (eqb e.word f.word && ltb e.target f.target)

-- an edge put into edges in order
abbrev pub insert : Arc → List Arc → List Arc
insert = insert_by earlier

-- edges by word, then target
abbrev pub sort : List Arc → List Arc
sort = sort_by earlier

-- e and f are one edge
abbrev pub same : Arc → Arc → Bool
same e f = eqb e.source f.source && (eqb e.word f.word && eqb e.target f.target)

-- e is one of es
abbrev pub among : List Arc → Arc → Bool
among es e = any (same e) es

-- the greatest of weights
abbrev pub greatest : List ℕ → ℕ
greatest [] = 0
greatest (x ∷ xs) = max x (greatest xs)

-- the edge leads to a state lighter than M
abbrev pub lighter : List ℕ → ℕ → Arc → Bool
lighter v M e = ltb (weight v e) M

-- of "greatest weight M" and with "an edge to a lighter state"
abbrev pub splittable : List ℕ → List Arc → ℕ → Bool
splittable v g s = eqb (get_or v s 0) (greatest v) && any (lighter v (greatest v)) (out g s)

-- "the lowest state s among those of greatest weight M that have an edge to a lighter state"
abbrev pub chosen : List ℕ → List Arc → ℕ
chosen v g = first (splittable v g) 0 (range (length v))

-- e is another edge than l
abbrev pub other : Arc → Arc → Bool
other l e = not (same e l)

-- "its first edge to a lighter state, then its first n − 1 other edges"; es is in order
abbrev pub candidates : ℕ → List ℕ → ℕ → List Arc → List Arc
candidates n v M es =
    let l = first (lighter v M) (arc 0 0 0) es in
    l ∷ take (n - 1) (filter (other l) es)

-- the consecutive run of i + 1 edges that ends at place j
abbrev pub stretch : List Arc → ℕ → ℕ → List Arc
stretch es j i = take (i + 1) (drop (j - i) es)

-- the runs that end at place j, the shortest in front
abbrev pub runs_to : List Arc → ℕ → List (List Arc)
runs_to es j = map (stretch es j) (range (j + 1))

-- all consecutive runs: those that end first in front, of those the shortest
abbrev pub runs : List Arc → List (List Arc)
runs es = concat (map (runs_to es) (range (length es)))

-- "whose targets' weights sum to a multiple of n"
abbrev pub divisible : ℕ → List ℕ → List Arc → Bool
divisible n v r = eqb (total v r % n) 0

-- of the runs whose weights sum to a multiple of n "the one that ends first, and of those the shortest"
abbrev pub first_run : ℕ → List ℕ → List Arc → List Arc
first_run n v es = first (divisible n v) [] (runs es)

-- the run's edges, which state s keeps
abbrev pub kept : ℕ → List ℕ → List Arc → ℕ → List Arc
kept n v g s = first_run n v (candidates n v (get_or v s 0) (sort (out g s)))

-- "a new last state takes all other edges of s"
abbrev pub moved : ℕ → ℕ → List Arc → Arc → Arc
moved s new keep e = if leaves s e && not (among keep e) then arc new e.word e.target else e

-- the edge, to the new state
abbrev pub redirected : ℕ → Arc → Arc
redirected new e = arc e.source e.word new

-- "every edge into s becomes two, to s and to the new state"
abbrev pub doubled : ℕ → ℕ → List Arc → List Arc
doubled s new g = g ++ map (redirected new) (filter (enters s) g)

-- "s keeps the run's edges and weight w; a new last state takes all other edges of s and weight M − w"
abbrev pub parted : ℕ → List Arc → ℕ → Work → Work
parted s keep w x =
    let v = x.weights in
    let g = map (moved s (length v) keep) x.arcs in
    record { weights = set v s w ++ ((get_or v s 0 - w) ∷ []); arcs = doubled s (length v) g }

-- one split: "With sum n × w, s keeps the run's edges and weight w"
unfoldable pub split : ℕ → Work → Work
split n x =
    let s = chosen x.weights x.arcs in
    let keep = kept n x.weights x.arcs s in
    parted s keep (total x.weights keep / n) x

-- state s "has fewer than n edges out"
abbrev pub few_edges : ℕ → List Arc → ℕ → Bool
few_edges n g s = ltb (length (out g s)) n

-- "some state has fewer than n edges out"
abbrev pub unfinished : ℕ → Work → Bool
unfinished n x = any (few_edges n x.arcs) (range (length x.weights))

-- "over 2,048 edges, before any split or after one"
abbrev pub crowded : Work → Bool
crowded x = ltb 2048 (length x.arcs)

-- splitting goes on while some state has fewer than n edges, unless there are too many
abbrev pub goes_on : ℕ → Work → Bool
goes_on n x = not (crowded x) && unfinished n x

-- up to k splits
unfoldable pub splits : ℕ → ℕ → Work → Work
splits zero n x = x
splits (suc k) n x = elim (goes_on n x) [ true ↦ splits k n (split n x) | false ↦ x ]

-- all splits: each makes one more state, and no state weighs 0, so there are no more than the weights' sum
unfoldable pub split_all : ℕ → Work → Work
split_all n x = splits (sum x.weights) n x
