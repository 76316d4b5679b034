-- The weights of the component's states.
-- In order: weights-filled.
-- Assumes nothing.
use Rattle.std.proofs.Common.{◌≡◌, ◌≤◌}
use Rattle.laws.proofs.All.{sym, ap, ◌∙◌, List, map, ℕ, length, get_or, take, length-take-le, get_or-take}
use Rattle.laws.proofs.All.{range, map-places, map-range-same, Filled}

pub weights-filled : (v S : List ℕ) (n : ℕ) (W : List ℕ) → n ≤ length S
    → Filled 0 (λ i. get_or v (get_or S i 0) 0) 128 n W
    → map (λ i. get_or W i 0) (range n) ≡ map (λ t. get_or v t 0) (take n S)
weights-filled v S n W h f =
    map-range-same (λ i. get_or W i 0) (λ i. get_or v (get_or (take n S) i 0) 0) n
    (λ i l. f.holds i l ∙ ap (λ t. get_or v t 0) (sym (get_or-take n S i 0 l)))
    ∙ ap (λ k. map (λ i. get_or v (get_or (take n S) i 0) 0) (range k)) (sym (length-take-le n S h))
    ∙ sym (map-places 0 0 (λ t. get_or v t 0) (take n S))
