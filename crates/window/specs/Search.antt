-- "Window. Memory m and lookahead a, each 0 to 15: the working pair with least m + a, then least a."
-- In order: in_bounds, sized, diagonal, sizes, all windows in the order of preference; no_size, the mark for none;
-- window; then the search's own way: hit, hit_from, hits, the pairs that a clash leads to; union, starts, pasts, the
-- pairs that must not clash; empty.
-- Assumes nothing.
use Rattle.std.specs.Prelude.{Bool, false, not, ◌&&◌, ◌||◌, List, map, ℕ, zero, suc, ◌+◌, ◌-◌, leb, eqb, length}
use Rattle.laws.specs.Lists.{range, filter, all, any, first, concat}
use Rattle.laws.specs.Sets.{Pairs, has, grid}
use Rattle.table.specs.Rows.{Rows, edges, at, Size}
use Rattle.window.specs.Works.{past, started, works}

-- "each 0 to 15": lookahead a and memory k - a
abbrev pub in_bounds : ℕ → ℕ → Bool
in_bounds k a = leb a 15 && leb (k - a) 15

-- the window with lookahead a and memory k - a
abbrev pub sized : ℕ → ℕ → Size
sized k a = record { memory = k - a; lookahead = a }

-- all windows with m + a = k, by lookahead
abbrev pub diagonal : ℕ → List Size
diagonal k = map (sized k) (filter (in_bounds k) (range (k + 1)))

-- all windows up to 15 and 15, by m + a, then by a
unfoldable pub sizes : List Size
sizes = concat (map diagonal (range 31))

-- the mark for "no window up to 15 and 15"
abbrev pub no_size : Size
no_size = record { memory = 16; lookahead = 16 }

-- the working window with least m + a, then least a, or the mark
unfoldable pub window : Rows → Size
window t = first (works t) no_size sizes

-- from s and u, edges with one word and the different data d and e lead to x and y
abbrev pub hit : Rows → ℕ → ℕ → ℕ → ℕ → ℕ → ℕ → Bool
hit t x y s u d e =
    not (eqb d e) && (eqb (at t s d).word (at t u e).word && (eqb (at t s d).next x && eqb (at t u e).next y))

-- from s and u, some two edges with one word and different data lead to x and y
abbrev pub hit_from : Rows → ℕ → ℕ → ℕ → ℕ → Bool
hit_from t x y s u = any (λ d. any (hit t x y s u d) (range (length (edges t u)))) (range (length (edges t s)))

-- the pairs that a clash leads to from a pair of P
abbrev pub hits : Rows → Pairs → Pairs
hits t P =
    grid (length t) (length t)
    (λ x y. any (λ s. any (λ u. has P s u && hit_from t x y s u) (range (length t))) (range (length t)))

-- the pairs of P and those of Q
abbrev pub union : Rows → Pairs → Pairs → Pairs
union t P Q = grid (length t) (length t) (λ s u. has P s u || has Q s u)

-- the pairs that fewer than m common words lead to from the start
abbrev pub starts : Rows → ℕ → Pairs
starts t zero = grid (length t) (length t) (λ s u. false)
starts t (suc m) = union t (starts t m) (started t m)

-- all pairs whose next edges must agree under memory m
abbrev pub pasts : Rows → ℕ → Pairs
pasts t m = union t (past t m) (starts t m)

-- no pair is in P
abbrev pub empty : Rows → Pairs → Bool
empty t P = all (λ s. all (λ u. not (has P s u)) (range (length t))) (range (length t))
