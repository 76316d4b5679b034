-- Where the test of obeying fails, some recording breaks the constraint.
-- In order: some-fails, below_fails; Bad, bad-back, bad-start; breaks-exact.
-- Assumes nothing.
use Rattle.std.proofs.Common.{◌≡◌, ◌↔◌, ◌&&◌, ◌||◌, ◌∷◌, ◌^◌, ◌≤◌, ◌<◌}
use Rattle.laws.proofs.All.{refl, sym, ap, subst, ◌∙◌, Bool, true, false, not, List, []}
use Rattle.laws.proofs.All.{ℕ, suc, zero-le, suc-le-suc, arith, T, eqb, eqb→eq, length, get_or}
use Rattle.laws.proofs.All.{range, all, has, length_from, range_at}
use Rattle.constraint.specs.Walking.{none, walk}
use Rattle.constraint.specs.Follow.{Finds, channel}
use Rattle.constraint.proofs.Follow.{finds-split, channel-append}
use Rattle.table.specs.Rows.{edge, edges, at, Code}
use Rattle.table.specs.Paths.{Path, spells, closing, ends}
use Rattle.table.specs.Formed.{Formed}
use Rattle.table.proofs.Shape.{full, targets}
use Rattle.table.proofs.Paths.{spells-append, path→blocks}
use Rattle.record_obeys.specs.Obeys.{Breaks, reached_pairs, finds, obeys}
use Rattle.record_obeys.proofs.Reached.{Obey}
use Rattle.record_obeys.proofs.AnyClosure.{reached-in}
use Rattle.record_obeys.proofs.Exact.{finds→obey, obeys-exact}

-- a test over a list that fails fails somewhere
some-fails : {A : Type 0} (p : A → Bool) (d : A) (l : List A) → all p l ≡ false
    → (i : ℕ) × (i < length l) × (p (get_or l i d) ≡ false)
some-fails p d [] e = absurd (subst T e tt)
some-fails p d (x ∷ l) e = go (p x) refl e (some-fails p d l)
  where
    go : (b : Bool) → p x ≡ b → (b && all p l) ≡ false
        → (all p l ≡ false → (i : ℕ) × (i < length l) × (p (get_or l i d) ≡ false))
        → (i : ℕ) × (i < suc (length l)) × (p (get_or (x ∷ l) i d) ≡ false)
    go false q e f = (0, suc-le-suc zero-le, q)
    go true q e f = let (i, h, k) = f e in (suc i, suc-le-suc h, k)

below_fails : (p : ℕ → Bool) (n : ℕ) → all p (range n) ≡ false → (i : ℕ) × (i < n) × (p i ≡ false)
below_fails p n e =
    let (i, h, k) = some-fails p 0 (range n) e in
    let l : i < n = rw (length_from 0 n) at h in
    (i, l, ap p (sym (range_at n i l)) ∙ k)

imp-fails : (a b : Bool) → (not a || b) ≡ false → T a × (b ≡ false)
imp-fails true b e = (tt, e)
imp-fails false b e = absurd (subst T e tt)

not-fails : (b : Bool) → not b ≡ false → T b
not-fails true e = tt
not-fails false e = absurd (subst T e tt)

-- from table state s and constraint state k some path meets a word that finds no next state
abbrev Bad : Code → ℕ → ℕ → Type 0
Bad c s k = (xs : List ℕ) × Path c.table s xs × (Obey c s k xs → ⊥)

module _ (c : Code) where
  -- from a reached pair such a path goes back to one from the start
  bad-back : (s k : ℕ) → T (has (reached_pairs c) s k) → Bad c s k → Bad c 0 c.start
  bad-back = reached-in c (λ s k. Bad c s k → Bad c 0 c.start) (λ b. b)
      (λ s k x f a h (xs, p, n). f (x ∷ xs, (a, p), λ (_, o). n o))

  bad-start : obeys c ≡ false → Bad c 0 c.start
  unfolding obeys
  bad-start e =
      let P = reached_pairs c in
      let (s, _, e₁) = below_fails _ (length c.table) e in
      let (k, _, e₂) = below_fails _ (length c.constraint) e₁ in
      let (u, e₃) = imp-fails (has P s k) (all (finds c k) (edges c.table s)) e₂ in
      let (x, h, e₄) = some-fails (finds c k) (edge 0 0) (edges c.table s) e₃ in
      let z = eqb→eq (walk c.constraint c.q (at c.table s x).word k) none
      (not-fails (eqb (walk c.constraint c.q (at c.table s x).word k) none) e₄) in
      bad-back s k u (x ∷ [], (h, tt), λ (n, _). n z)

-- the test fails exactly where some recording breaks the constraint
pub breaks-exact : (c : Code) → Formed c → (obeys c ≡ false) ↔ Breaks c
breaks-exact c f = ((λ e. there (bad-start c e)), here)
  where
    there : Bad c 0 c.start → Breaks c
    there (xs, p, n) =
        let r = f.range in
        let g = c.table in
        let cl = targets c.p c.q (length g) g f.rows in
        let fu = full c.p c.q (length g) g f.rows in
        let short : length c.constraint ≤ 255 = omega (arith, r.k₂) in
        let begin : (c.start ≡ none) → ⊥ = λ e. omega (arith, r.start, r.k₂) in (
          xs,
          path→blocks g (2 ^ c.p) cl fu xs 0 r.s₁ p,
          (λ o. n (finds→obey c short xs 0 c.start begin
              (finds-split c.constraint (channel c.q (spells g 0 xs))
              (channel c.q (spells g (ends g 0 xs) (closing c))) c.start
              (subst (λ bs. Finds c.constraint c.start bs)
              (ap (channel c.q) (spells-append g xs (closing c) 0)
              ∙ channel-append c.q (spells g 0 xs) (spells g (ends g 0 xs) (closing c))) o)).0)),
        )

    here : Breaks c → obeys c ≡ false
    here (ds, b, n) = go (obeys c) refl
      where
        go : (t : Bool) → obeys c ≡ t → obeys c ≡ false
        go true e = absurd (n ((obeys-exact c f).0 (subst T (sym e) tt) ds b))
        go false e = e
