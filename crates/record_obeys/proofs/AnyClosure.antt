-- Any set of pairs that holds the start, is closed and holds only reached pairs decides `obeys`: a loop may add pairs
-- in any order.
-- In order: then', reached-in, obeys-by, disobeys-by; →obeys.
-- Assumes nothing.
use Rattle.std.proofs.Common.{◌≡◌, ◌&&◌, ◌∷◌, ◌*◌, ◌<◌}
use Rattle.laws.proofs.All.{sym, subst, subst₂, inl, inr, [], ℕ, T, not_T, eqb, eqb→eq}
use Rattle.laws.proofs.All.{length, all, any, and→, or→, →imp, any→, any-below→, →all, →all-below, Pairs, has, grid}
use Rattle.laws.proofs.All.{iterate-keeps, grid→}
use Rattle.constraint.specs.Walking.{none, walk}
use Rattle.table.specs.Rows.{edge, edges, at, Code}
use Rattle.record_obeys.specs.Obeys.{carries, arrive, reach_more, reached_pairs, finds, obeys, reached_from}
use Rattle.record_obeys.proofs.Reached.{Safe, found}

-- the constraint state after datum x of table state s
abbrev pub then' : Code → ℕ → ℕ → ℕ → ℕ
then' c s k x = walk c.constraint c.q (at c.table s x).word k

module _ (c : Code) (Q : ℕ → ℕ → Type 0)
    (start : Q 0 c.start)
    (step : (s k x : ℕ) → Q s k → x < length (edges c.table s) → then' c s k x < length c.constraint
    → Q (at c.table s x).next (then' c s k x)) where
  arrived : (P : Pairs) (t k : ℕ) → ((s k : ℕ) → T (has P s k) → Q s k) → k < length c.constraint
      → T (arrive c P t k) → Q t k
  arrived P t k f h v =
      let (s, hs, v₁) = any-below→ _ (length c.table) v in
      let (j, hj, v₂) = any-below→ _ (length c.constraint) v₁ in
      let (a, b) = and→ (has P s j) (any (carries c t k j) (edges c.table s)) v₂ in
      let (x, i, w) = any→ (carries c t k j) (edge 0 0) (edges c.table s) b in
      let (y, z) = and→ (eqb (at c.table s x).next t) (eqb (then' c s j x) k) w in
      let e : then' c s j x ≡ k = eqb→eq (then' c s j x) k z in
      subst₂ (λ t k. Q t k) (eqb→eq (at c.table s x).next t y) e
      (step s j x (f s j a) i (subst (λ n. n < length c.constraint) (sym e) h))

  -- what is reached is in the set
  pub reached-in : (s k : ℕ) → T (has (reached_pairs c) s k) → Q s k
  reached-in = iterate-keeps (reach_more c) (λ P. (s k : ℕ) → T (has P s k) → Q s k) next
      (length c.table * length c.constraint)
      (grid (length c.table) (length c.constraint) (λ t k. eqb t 0 && eqb k c.start)) base
    where
      base : (s k : ℕ) → T (has
          (grid (length c.table) (length c.constraint) (λ t k. eqb t 0 && eqb k c.start)) s k) → Q s k
      base s k u =
          let (a, b) = and→ (eqb s 0) (eqb k c.start)
          (grid→ (length c.table) (length c.constraint) (λ t k. eqb t 0 && eqb k c.start) s k u).2 in
          subst₂ (λ s k. Q s k) (sym (eqb→eq s 0 a)) (sym (eqb→eq k c.start b)) start

      next : (P : Pairs) → ((s k : ℕ) → T (has P s k) → Q s k) → (s k : ℕ) → T (has (reach_more c P) s k) → Q s k
      next P f s k u =
          let (h, l, v) = grid→ (length c.table) (length c.constraint)
          (reached_from c P) s k u in
          elim (or→ (has P s k) (arrive c P s k) v) [ inl a ↦ f s k a | inr b ↦ arrived P s k f l b ]

  -- no pair of the set fails, so the table is allowed
  pub obeys-by : ((s k x : ℕ) → Q s k → x < length (edges c.table s) → (then' c s k x ≡ none) → ⊥) → T (obeys c)
  unfolding obeys
  obeys-by f =
      →all-below _ (length c.table)
      (λ s hs. →all-below _ (length c.constraint)
      (λ k hk. →imp (has (reached_pairs c) s k) (all (finds c k) (edges c.table s)) (λ u.
      →all (finds c k) (edge 0 0) (edges c.table s)
      (λ x a. not_T (eqb (then' c s k x) none)
      (λ v. f s k x (reached-in s k u) a (eqb→eq (then' c s k x) none v))))))

-- a reached pair that fails refutes it
pub disobeys-by : (c : Code) (s k x : ℕ) → T (has (reached_pairs c) s k) → x < length (edges c.table s)
    → then' c s k x ≡ none → T (obeys c) → ⊥
disobeys-by c s k x u a e t = found c t s k x u a e

-- every path is safe: the test passes
pub →obeys : (c : Code) → Safe c 0 c.start → T (obeys c)
→obeys c f =
    obeys-by c (Safe c) f (λ s k x g a h xs p. (g (x ∷ xs) (a, p)).1) (λ s k x g a. (g (x ∷ []) (a, tt)).0)
