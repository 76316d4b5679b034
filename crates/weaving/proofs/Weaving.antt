-- Weaving and unweaving: where each word goes, and that each undoes the other.
-- In order: part_at, part-past, length_part, one recording of several; depth→, a good depth; length-woven,
-- length-unwoven; weave-places, unweave-places; weaving.
-- Assumes nothing.
use Rattle.std.proofs.Common.{◌≡◌, ◌+◌, ◌*◌, ◌/◌, ◌%◌, ◌≤◌, ◌<◌, ◌&&◌}
use Rattle.laws.proofs.All.{sym, ap, ◌∙◌, List, ℕ, arith, T, leb, eqb}
use Rattle.laws.proofs.All.{leb→le, eqb→eq, mul_comm, mul-le-mul_right, div-add-mod', length, get_or, drop, and→}
use Rattle.laws.proofs.All.{length-drop, length-take, length-take-le, get_or-take, get_or-drop, get_or-eq_default}
use Rattle.laws.proofs.All.{min-le_left}
use Rattle.weaving.specs.Weaving.{transposed, woven, unwoven, part, good_depth}
use Rattle.weaving.proofs.Transposed.{length-transposed, transposed-at, transposed-back}

module _ (k r : ℕ) (ws : List ℕ) where
  -- word j of recording r
  pub part_at : (j : ℕ) → j < k → get_or (part k r ws) j 0 ≡ get_or ws (r * k + j) 0
  part_at j h = get_or-take k (drop (r * k) ws) j 0 h ∙ get_or-drop (r * k) ws j 0

  pub part-past : (j : ℕ) → k ≤ j → get_or (part k r ws) j 0 ≡ 0
  part-past j h =
      let l : length (part k r ws) ≤ j =
      omega (arith, length-take k (drop (r * k) ws), min-le_left k (length (drop (r * k) ws))) in
      get_or-eq_default (part k r ws) 0 l

  -- of D recordings
  pub length_part : (D : ℕ) → length ws ≡ D * k → r < D → length (part k r ws) ≡ k
  length_part D e h =
      length-take-le k (drop (r * k) ws)
      (omega (arith, e, length-drop (r * k) ws, mul-le-mul_right {m = r + 1} {n = D} k (omega arith)))

-- a good depth is 2 to 16, and the words are that many recordings of equal length
pub depth→ : (D n : ℕ) → T (good_depth D n) → (2 ≤ D) × (D ≤ 16) × (n ≡ D * (n / D))
unfolding good_depth
depth→ D n t =
    let (r, z) = and→ (leb 2 D && leb D 16) (eqb (n % D) 0) t in
    let (l, u) = and→ (leb 2 D) (leb D 16) r in
    let m : n % D ≡ 0 = eqb→eq (n % D) 0 z in
    (leb→le 2 D l, leb→le D 16 u, omega (arith, m, div-add-mod' n D, mul_comm D (n / D)))

module _ (D : ℕ) (ws : List ℕ) (good : T (good_depth D (length ws))) where
  abbrev k : ℕ
  k = length ws / D

  whole : length ws ≡ D * k
  whole = (depth→ D (length ws) good).2

  pub length-woven : length (woven D ws) ≡ length ws
  unfolding woven
  length-woven = length-transposed D k ws ∙ sym whole

  pub length-unwoven : length (unwoven D ws) ≡ length ws
  unfolding unwoven
  length-unwoven = length-transposed k D ws ∙ mul_comm k D ∙ sym whole

  -- "word j of recording r goes to place j × D + r"
  pub weave-places : (r j : ℕ) → r < D → j < k → get_or (woven D ws) (j * D + r) 0 ≡ get_or ws (r * k + j) 0
  unfolding woven
  weave-places r j h g = transposed-at D k ws r j h g

  -- and comes back from there
  pub unweave-places : (r j : ℕ) → r < D → j < k → get_or (unwoven D ws) (r * k + j) 0 ≡ get_or ws (j * D + r) 0
  unfolding unwoven
  unweave-places r j h g = transposed-at k D ws j r g h

  -- "Each undoes the other"
  pub weaving : (unwoven D (woven D ws) ≡ ws) × (woven D (unwoven D ws) ≡ ws)
  unfolding woven unwoven
  weaving = (
    ap (λ n. transposed (n / D) D (transposed D k ws)) length-woven ∙ transposed-back D k ws whole,
    ap (λ n. transposed D (n / D) (transposed k D ws)) length-unwoven
        ∙ transposed-back k D ws (whole ∙ mul_comm D k),
  )
