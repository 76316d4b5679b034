-- Every recording, followed bit by bit from the constraint start, always finds a next state exactly when `obeys`
-- passes.
-- In order: obey→finds, finds→obey, words and their bits; obeys-exact.
-- Assumes nothing.
use Rattle.std.proofs.Common.{◌≡◌, ◌↔◌, ◌∷◌, ◌++◌, ◌^◌, ◌≤◌, ◌<◌}
use Rattle.laws.proofs.All.{sym, ap, subst, ◌∙◌, List, [], ℕ, arith, T, length}
use Rattle.constraint.specs.Walking.{none, walk}
use Rattle.table.specs.Rows.{at, Code}
use Rattle.bits.specs.Fields.{bits}
use Rattle.table.specs.Paths.{spells, closing, Closed, ends}
use Rattle.record_obeys.specs.Obeys.{obeys, Obeys}
use Rattle.record_obeys.proofs.Reached.{Obey, obeys→}
use Rattle.record_obeys.proofs.AnyClosure.{→obeys}
use Rattle.table.specs.Formed.{Formed}
use Rattle.table.proofs.Shape.{full, targets, inside}
use Rattle.constraint.proofs.Follow.{finds→, →finds, finds-split, channel-append, finds-join, walk-follow}
use Rattle.table.proofs.Paths.{spells-append, closed-blocks, blocks→path, path→blocks}
use Rattle.constraint.specs.Follow.{channel, Finds}

-- ---- paths by words and by bits
module _ (c : Code) (short : length c.constraint ≤ 255) where
  obey→finds : (xs : List ℕ) (s k : ℕ) → Obey c s k xs
      → Finds c.constraint k (channel c.q (spells c.table s xs))
  obey→finds [] s k o = tt
  obey→finds (x ∷ xs) s k (n, o) =
      let w = (at c.table s x).word in
      let e = walk-follow c.constraint c.q w k in
      finds-join c.constraint (bits c.q w)
      (channel c.q (spells c.table (at c.table s x).next xs)) k
      (→finds c.constraint short (bits c.q w) k (λ z. n (e ∙ z)))
      (subst (λ j. Finds c.constraint j (channel c.q (spells c.table (at c.table s x).next xs))) e
      (obey→finds xs (at c.table s x).next (walk c.constraint c.q w k) o))

  pub finds→obey : (xs : List ℕ) (s k : ℕ) → ((k ≡ none) → ⊥)
      → Finds c.constraint k (channel c.q (spells c.table s xs)) → Obey c s k xs
  finds→obey [] s k h f = tt
  finds→obey (x ∷ xs) s k h f =
      let w = (at c.table s x).word in
      let e = walk-follow c.constraint c.q w k in
      let (f₁, f₂) = finds-split c.constraint (bits c.q w)
      (channel c.q (spells c.table (at c.table s x).next xs)) k f in
      let n : (walk c.constraint c.q w k ≡ none) → ⊥ =
      λ z. finds→ c.constraint short (bits c.q w) k h f₁ (sym e ∙ z) in (
        n,
        finds→obey xs (at c.table s x).next (walk c.constraint c.q w k) n
            (subst (λ j. Finds c.constraint j (channel c.q (spells c.table (at c.table s x).next xs)))
            (sym e) f₂),
      )

-- ---- data and paths

-- the test is exact
pub obeys-exact : (c : Code) → Formed c → T (obeys c) ↔ Obeys c
obeys-exact c f =
    let r = f.range in
    let g = c.table in
    let C = c.constraint in
    let short : length C ≤ 255 = omega (arith, r.k₂) in
    let cl : Closed g = targets c.p c.q (length g) g f.rows in
    let fu = full c.p c.q (length g) g f.rows in
    let some : 0 < length g = r.s₁ in
    let begin : (c.start ≡ none) → ⊥ = λ e. omega (arith, r.start, r.k₂) in (
      (λ t ds b. obey→finds c short (ds ++ closing c) 0 c.start
          (obeys→ c cl (inside C short f.nexts) some r.start t (ds ++ closing c)
          (blocks→path g (2 ^ c.p) cl fu (ds ++ closing c) 0 some (closed-blocks c r.tail ds b)))),
      (λ o. →obeys c (λ xs p. finds→obey c short xs 0 c.start begin
          (finds-split C (channel c.q (spells g 0 xs))
          (channel c.q (spells g (ends g 0 xs) (closing c))) c.start
          (subst (λ bs. Finds C c.start bs)
          (ap (channel c.q) (spells-append g xs (closing c) 0)
          ∙ channel-append c.q (spells g 0 xs) (spells g (ends g 0 xs) (closing c)))
          (o xs (path→blocks g (2 ^ c.p) cl fu xs 0 some p)))).0)),
    )
