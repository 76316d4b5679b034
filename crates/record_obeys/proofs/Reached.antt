-- If the test `obeys` passes, every path from the start finds a next state at every word.
-- In order: Obey, Safe, fixed, reached-lt, reached-start, reached-step, found, obeys→.
-- Assumes nothing.
use Rattle.std.proofs.Common.{◌≡◌, ◌⊎◌, ◌&&◌, ◌∷◌, ◌*◌, ◌<◌}
use Rattle.laws.proofs.All.{sym, subst, inl, inr, List, [], ℕ, T, T_not, eqb}
use Rattle.laws.proofs.All.{eqb_refl, length, all, any, →and, →or_l, →or_r, imp→, all→, →any, all-below→, →any-below}
use Rattle.laws.proofs.All.{has, grid, iterate-keeps, grid→, →grid, rests}
use Rattle.constraint.specs.Walking.{none, walk}
use Rattle.table.specs.Rows.{edge, edges, at, Code}
use Rattle.record_obeys.specs.Obeys.{carries, arrive, reach_more, reached_pairs, finds, obeys, reached_from}
use Rattle.table.specs.Paths.{Closed, Path}
use Rattle.table.proofs.Shape.{WalksInside}

-- from table state s and constraint state k, every word of the path finds a next state
abbrev pub Obey : Code → ℕ → ℕ → List ℕ → Type 0
Obey c s k [] = Unit {0}
Obey c s k (x ∷ xs) =
    ((walk c.constraint c.q (at c.table s x).word k ≡ none) → ⊥)
    × Obey c (at c.table s x).next (walk c.constraint c.q (at c.table s x).word k) xs

abbrev pub Safe : Code → ℕ → ℕ → Type 0
Safe c s k = (xs : List ℕ) → Path c.table s xs → Obey c s k xs

module _ (c : Code) where
  pub fixed : reach_more c (reached_pairs c) ≡ reached_pairs c
  fixed = rests (length c.table) (length c.constraint) (reached_from c)
      (λ P s k h l u. →or_l (has P s k) _ u) (λ t k. eqb t 0 && eqb k c.start)

  pub reached-lt : (s k : ℕ) → T (has (reached_pairs c) s k) → (s < length c.table) × (k < length c.constraint)
  reached-lt s k u =
      let (a, b, v) = grid→ (length c.table) (length c.constraint)
      (reached_from c (reached_pairs c)) s k
      (subst (λ P. T (has P s k)) (sym fixed) u) in
      (a, b)

  -- the start is reached
  pub reached-start : 0 < length c.table → c.start < length c.constraint
      → T (has (reached_pairs c) 0 c.start)
  reached-start h l =
      iterate-keeps (reach_more c) (λ P. T (has P 0 c.start))
      (λ P u. →grid (length c.table) (length c.constraint) _ 0 c.start h l
      (→or_l (has P 0 c.start) _ u))
      (length c.table * length c.constraint)
      (grid (length c.table) (length c.constraint) (λ t k. eqb t 0 && eqb k c.start))
      (→grid (length c.table) (length c.constraint) (λ t k. eqb t 0 && eqb k c.start) 0 c.start h l
      (eqb_refl c.start))

  -- and what an edge leads to from there
  pub reached-step : (s k x : ℕ) → T (has (reached_pairs c) s k) → x < length (edges c.table s)
      → (at c.table s x).next < length c.table
      → walk c.constraint c.q (at c.table s x).word k < length c.constraint
      → T (has (reached_pairs c) (at c.table s x).next (walk c.constraint c.q (at c.table s x).word k))
  reached-step s k x u a h l =
      let t = (at c.table s x).next in
      let j = walk c.constraint c.q (at c.table s x).word k in
      let (hs, hk) = reached-lt s k u in
      subst (λ P. T (has P t j)) fixed
      (→grid (length c.table) (length c.constraint) _ t j h l
      (→or_r (has (reached_pairs c) t j) (arrive c (reached_pairs c) t j)
      (→any-below _ (length c.table) s hs (→any-below _ (length c.constraint) k hk
      (→and (has (reached_pairs c) s k) (any (carries c t j k) (edges c.table s)) u
      (→any (carries c t j k) (edge 0 0) (edges c.table s) x a
      (→and (eqb t t) (eqb j j) (eqb_refl t) (eqb_refl j))))))))

  pub found : T (obeys c) → (s k x : ℕ) → T (has (reached_pairs c) s k) → x < length (edges c.table s)
      → (walk c.constraint c.q (at c.table s x).word k ≡ none) → ⊥
  unfolding obeys
  found t s k x u a e =
      let (hs, hk) = reached-lt s k u in
      let v = imp→ (has (reached_pairs c) s k) (all (finds c k) (edges c.table s))
      (all-below→ _ (length c.constraint) (all-below→ _ (length c.table) t s hs) k hk) u in
      T_not (eqb (walk c.constraint c.q (at c.table s x).word k) none)
      (all→ (finds c k) (edge 0 0) (edges c.table s) v x a) (rw e tt)

  safe : Closed c.table → WalksInside c.constraint → T (obeys c) → (xs : List ℕ) (s k : ℕ)
      → T (has (reached_pairs c) s k) → Path c.table s xs → Obey c s k xs
  safe cl ins t [] s k u p = tt
  safe cl ins t (x ∷ xs) s k u (a, p) =
      go (ins c.q (at c.table s x).word k (reached-lt s k u).1)
      (λ v. safe cl ins t xs (at c.table s x).next
      (walk c.constraint c.q (at c.table s x).word k) v p)
    where
      go : (walk c.constraint c.q (at c.table s x).word k ≡ none)
          ⊎ (walk c.constraint c.q (at c.table s x).word k < length c.constraint)
          → (T (has (reached_pairs c) (at c.table s x).next
          (walk c.constraint c.q (at c.table s x).word k))
          → Obey c (at c.table s x).next (walk c.constraint c.q (at c.table s x).word k) xs)
          → Obey c s k (x ∷ xs)
      go (inl e) f = absurd (found t s k x u a e)
      go (inr l) f = (found t s k x u a, f (reached-step s k x u a (cl s x a) l))

  pub obeys→ : Closed c.table → WalksInside c.constraint → 0 < length c.table
      → c.start < length c.constraint → T (obeys c) → Safe c 0 c.start
  obeys→ cl ins h l t xs p = safe cl ins t xs 0 c.start (reached-start h l) p
