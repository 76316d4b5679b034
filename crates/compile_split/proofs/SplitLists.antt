-- What a split does to the lists of a graph.
-- In order: entering-moved; each-parted.
-- Assumes nothing.
use Rattle.std.proofs.Common.{◌≡◌, ◌&&◌, ◌∷◌, ◌+◌, ◌<◌, if◌then◌else◌}
use Rattle.laws.proofs.All.{refl, ap, Bool, true, false, not, List, [], map, ℕ, suc}
use Rattle.laws.proofs.All.{arith, T, length, filter, Each, each_map, each_append, each-filter}
use Rattle.laws.proofs.All.{each-image}
use Rattle.compile_graph.specs.Arcs.{Arc, arc, leaves, enters}
use Rattle.compile_graph.specs.Splitting.{among, moved, redirected, doubled}
use Rattle.compile_parts.specs.Parts.{entering}
use Rattle.compile_graph.proofs.Values.{Bounded}

-- ---- moving edges changes no target
target-moved : (s K : ℕ) (keep : List Arc) (e : Arc) → (moved s K keep e).target ≡ e.target
target-moved s K keep e = go (leaves s e && not (among keep e))
  where
    go : (b : Bool) → (if b then arc K e.word e.target else e).target ≡ e.target
    go true = refl
    go false = refl

pub entering-moved : (s K : ℕ) (keep l : List Arc) → entering (map (moved s K keep) l) s ≡ entering l s
entering-moved s K keep [] = refl
entering-moved s K keep (e ∷ l) =
    rw (target-moved s K keep e) (go (enters s e) (entering-moved s K keep l))
  where
    go : (b : Bool) → entering (map (moved s K keep) l) s ≡ entering l s
        → length (if b then moved s K keep e ∷ filter (enters s) (map (moved s K keep) l)
        else filter (enters s) (map (moved s K keep) l))
        ≡ length (if b then e ∷ filter (enters s) l else filter (enters s) l)
    go true q = ap suc q
    go false q = q

pub each-parted : (s K : ℕ) (keep l : List Arc) → Each (Bounded K) l
    → Each (Bounded (K + 1)) (doubled s K (map (moved s K keep) l))
each-parted s K keep l h =
    let m : Each (λ e. (e.source < K + 1) × (e.target < K) × (e.word < 256)) (map (moved s K keep) l) =
    each-image (λ e. (e.source < K + 1) × (e.target < K) × (e.word < 256)) (moved s K keep) l
    (each_map (Bounded K) _ (λ e b. go e b (leaves s e && not (among keep e))) l h) in
    each_append (Bounded (K + 1)) (map (moved s K keep) l)
    (map (redirected K) (filter (enters s) (map (moved s K keep) l)))
    (each_map _ (Bounded (K + 1)) (λ e b. (b.0, omega (arith, b.1), b.2)) (map (moved s K keep) l) m)
    (each-image (Bounded (K + 1)) (redirected K) (filter (enters s) (map (moved s K keep) l))
    (each-filter (λ e. Bounded (K + 1) (redirected K e)) (enters s) (map (moved s K keep) l)
    (each_map _ (λ e. T (enters s e) → Bounded (K + 1) (redirected K e)) (λ e b t. (b.0, omega arith, b.2))
    (map (moved s K keep) l) m)))
  where
    go : (e : Arc) → Bounded K e → (b : Bool)
        → ((if b then arc K e.word e.target else e).source < K + 1)
        × ((if b then arc K e.word e.target else e).target < K)
        × ((if b then arc K e.word e.target else e).word < 256)
    go e b true = (omega arith, b.1, b.2)
    go e b false = (omega (arith, b.0), b.1, b.2)
