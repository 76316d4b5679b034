-- Two constraints joined allow what both allow, and are a lawful constraint.
-- In order: joined-after; goes, leads; there, back, joined-finds, joint; length-joined, joined-lawful; Leads,
-- joined-steps; joined-pairs, more-pairs.
-- Assumes nothing.
use Rattle.std.proofs.Common.{◌≡◌, ◌↔◌, ◌⊎◌, ◌∷◌, ◌+◌, ◌*◌, ◌/◌, ◌%◌, ◌≤◌, ◌<◌, if◌then◌else◌}
use Rattle.laws.proofs.All.{refl, sym, ap, subst, ◌∙◌, inl, inr, Bool, true, false, List, []}
use Rattle.laws.proofs.All.{ℕ, arith, T, eqb, length, get_or, length-map, get_or-map-lt}
use Rattle.laws.proofs.All.{elem, T→true, Each, Once, each_map, each-elem, each-image, index-lt}
use Rattle.laws.proofs.All.{at-index, each_at, div-add-mod', dec_lt, ℕ_discrete, eq-eqb, ne_eqb, once-fits}
use Rattle.constraint.specs.Walking.{Constraint, nowhere, after, Target, Well, Lawful}
use Rattle.constraint.specs.Follow.{Finds}
use Rattle.constraint.proofs.Walking.{after_small}
use Rattle.joining.specs.Joined.{pair_of, allowed, leads_to, pairs, next_pair, joined_state, joined, Reachable}
use Rattle.joining.proofs.Lists.{grows_at, grows-long}
use Rattle.joining.proofs.Pairs.{pair-back, allowed-both, both-allowed}
use Rattle.joining.proofs.Pairs.{pairs-walks, pairs-closed, pairs-all}

module _ (c d : Constraint) where
  -- a bit leads from pair number i to the number of the pair to which it leads
  pub joined-after : (i b : ℕ) → i < length (pairs c d)
      → after (joined c d) i b ≡ next_pair c d (pairs c d) b (get_or (pairs c d) i 0)
  unfolding joined
  joined-after i b h =
      ap (λ r. if eqb b 0 then r.zero else r.one)
      (get_or-map-lt (joined_state c d (pairs c d)) (pairs c d) i 0 nowhere h)
      ∙ go (ℕ_discrete b 0)
    where
      z : ℕ
      z = get_or (pairs c d) i 0

      go : Dec (b ≡ 0)
          → (if eqb b 0 then next_pair c d (pairs c d) 0 z else next_pair c d (pairs c d) 1 z)
          ≡ next_pair c d (pairs c d) b z
      go (yes e) = rw (eq-eqb b 0 e)
      go (no n) = rw (ne_eqb b 0 n)

  module _ (lc : Lawful c) (ld : Lawful d) (few : length (pairs c d) ≤ 16) where
    abbrev ps : List ℕ
    ps = pairs c d

    -- an allowed bit leads from a pair to the number of a pair
    goes : (z b : ℕ) → T (elem z ps) → T (allowed c d b z) → next_pair c d ps b z < length ps
    goes z b u t =
        rw (T→true (allowed c d b z) t)
        (index-lt (leads_to c d b z) ps (pairs-closed c d lc ld few z b u t))

    -- and that number stands for the pair to which the bit leads
    leads : (z b : ℕ) → T (elem z ps) → T (allowed c d b z) → let y = get_or ps (next_pair c d ps b z) 0 in
        (y / 16 ≡ after c (z / 16) b) × (y % 16 ≡ after d (z % 16) b)
    leads z b u t =
        let e = at-index (leads_to c d b z) ps (pairs-closed c d lc ld few z b u t) in
        rw (T→true (allowed c d b z) t, e)
        (pair-back (after c (z / 16) b) (after d (z % 16) b)
        (after_small d ld (z % 16) b (allowed-both c d b z t).1))

    -- ---- strings from pair number i
    at : (i : ℕ) → i < length ps → T (elem (get_or ps i 0) ps)
    at i h = each_at (λ z. T (elem z ps)) 0 ps (each-elem ps) i h

    there : (bs : List ℕ) (i : ℕ) → i < length ps → Finds (joined c d) i bs
        → Finds c (get_or ps i 0 / 16) bs × Finds d (get_or ps i 0 % 16) bs
    there [] i h f = (tt, tt)
    there (b ∷ bs) i h (n, f) = go (allowed c d b z) refl (there bs)
      where
        z : ℕ
        z = get_or ps i 0

        go : (t : Bool) → allowed c d b z ≡ t → ((j : ℕ) → j < length ps → Finds (joined c d) j bs
            → Finds c (get_or ps j 0 / 16) bs × Finds d (get_or ps j 0 % 16) bs)
            → Finds c (z / 16) (b ∷ bs) × Finds d (z % 16) (b ∷ bs)
        go true e on =
            let t : T (allowed c d b z) = subst T (sym e) tt in
            let (p, q) = allowed-both c d b z t in
            let (k, l) = leads z b (at i h) t in
            let (f', g) = on (next_pair c d ps b z) (goes z b (at i h) t)
            (subst (λ j. Finds (joined c d) j bs) (joined-after i b h) f) in
            ((p, rw k at f'), (q, rw l at g))
        go false e on = absurd (n (joined-after i b h ∙ rw e))

    back : (bs : List ℕ) (i : ℕ) → i < length ps → Finds c (get_or ps i 0 / 16) bs → Finds d (get_or ps i 0 % 16) bs
        → Finds (joined c d) i bs
    back [] i h f g = tt
    back (b ∷ bs) i h (p, f) (q, g) =
        let z = get_or ps i 0 in
        let t : T (allowed c d b z) = both-allowed c d b z p q in
        let (k, l) = leads z b (at i h) t in
        let m = goes z b (at i h) t in
        rw (joined-after i b h) ((λ e. omega arith), back bs (next_pair c d ps b z) m (rw k f) (rw l g))

    -- a string is allowed from a pair exactly when both constraints allow it from their states of the pair
    pub joined-finds : (i : ℕ) → i < length ps → (bs : List ℕ)
        → Finds (joined c d) i bs ↔ (Finds c (get_or ps i 0 / 16) bs × Finds d (get_or ps i 0 % 16) bs)
    joined-finds i h bs = (there bs i h, (λ (f, g). back bs i h f g))

    pos : 0 < length ps
    pos = grows-long (0 ∷ []) ps (pairs-walks c d lc ld).start

    -- THEOREM: a string is allowed from the joint start exactly when both allow it from their states 0
    pub joint : (bs : List ℕ) → Finds (joined c d) 0 bs ↔ (Finds c 0 bs × Finds d 0 bs)
    joint bs =
        let e : get_or ps 0 0 ≡ 0 = grows_at (0 ∷ []) ps (pairs-walks c d lc ld).start 0 0 (omega arith) in
        rw e at (joined-finds 0 pos bs)

    -- ---- the joined constraint
    pub length-joined : length (joined c d) ≡ length ps
    unfolding joined
    length-joined = length-map ps (joined_state c d ps)

    target : (z b : ℕ) → T (elem z ps) → Target (length ps) (next_pair c d ps b z)
    target z b u = go (allowed c d b z) refl
      where
        go : (t : Bool) → allowed c d b z ≡ t → Target (length ps) (next_pair c d ps b z)
        go true e = inl (goes z b u (subst T (sym e) tt))
        go false e = inr (rw e)

    pub joined-lawful : Lawful (joined c d)
    unfolding joined
    joined-lawful = record { some = rw length-joined pos; few = rw length-joined few; well = well }
      where
        well : Well (joined c d)
        well =
            rw length-joined
            (each-image (λ r. Target (length ps) r.zero × Target (length ps) r.one) (joined_state c d ps) ps
            (each_map (λ z. T (elem z ps)) _ (λ z u. (target z 0 u, target z 1 u)) ps (each-elem ps)))

    -- ---- one bit
    -- where bit b leads from the pair z, if the number that it leads to is j
    abbrev Leads : ℕ → ℕ → ℕ → Type 0
    Leads z b j =
        let x = after c (z / 16) b in let y = after d (z % 16) b in ((j ≡ 255) ↔ ((x ≡ 255) ⊎ (y ≡ 255)))
        × ((j ≡ 255 → ⊥) → (j < length ps) × (get_or ps j 0 ≡ x * 16 + y))

    leads-on : (z b : ℕ) → T (elem z ps) → Leads z b (next_pair c d ps b z)
    leads-on z b u = go (allowed c d b z) refl
      where
        x : ℕ
        x = after c (z / 16) b

        y : ℕ
        y = after d (z % 16) b

        missing : allowed c d b z ≡ false → Dec (x ≡ 255) → Dec (y ≡ 255) → (x ≡ 255) ⊎ (y ≡ 255)
        missing e (yes p) q = inl p
        missing e (no p) (yes q) = inr q
        missing e (no p) (no q) = absurd (subst T e (both-allowed c d b z p q))

        go : (t : Bool) → allowed c d b z ≡ t → Leads z b (next_pair c d ps b z)
        go true e =
            let t : T (allowed c d b z) = subst T (sym e) tt in
            let (p, q) = allowed-both c d b z t in
            let n = goes z b u t in (
              ((λ k. absurd (omega arith)), (λ s. elim s [ inl k ↦ absurd (p k) | inr k ↦ absurd (q k) ])),
              (λ _. (n, rw e (at-index (leads_to c d b z) ps (pairs-closed c d lc ld few z b u t)))),
            )
        go false e = (
          ((λ _. missing e (ℕ_discrete x 255) (ℕ_discrete y 255)), (λ _. rw e)),
          (λ f. absurd (f (rw e))),
        )

    -- THEOREM: from a pair a bit leads to the pair of the next states, and nowhere where one of these is missing
    pub joined-steps : (length (joined c d) ≡ length ps) × ((i b : ℕ) → i < length ps → let z = get_or ps i 0 in
        let x = after c (z / 16) b in let y = after d (z % 16) b in let j = after (joined c d) i b in
        ((j ≡ 255) ↔ ((x ≡ 255) ⊎ (y ≡ 255)))
        × ((j ≡ 255 → ⊥) → (j < length ps) × (get_or ps j 0 ≡ x * 16 + y)))
    joined-steps = (
      length-joined,
      λ i b h. subst (Leads (get_or ps i 0) b) (sym (joined-after i b h)) (leads-on (get_or ps i 0) b (at i h)),
    )

  module _ (lc : Lawful c) (ld : Lawful d) where
    -- THEOREM: the pairs are the reachable ones, each once, the pair of both states 0 first
    pub joined-pairs : Once (pairs c d) × Each (λ z. Reachable c d (z / 16) (z % 16)) (pairs c d)
        × (get_or (pairs c d) 0 1 ≡ 0)
        × (length (pairs c d) ≤ 16 → (x y : ℕ) → Reachable c d x y → T (elem (pair_of x y) (pairs c d)))
    joined-pairs =
        let w = pairs-walks c d lc ld in
        (w.once, w.reach, grows_at (0 ∷ []) (pairs c d) w.start 0 1 (omega arith), pairs-all c d lc ld)

    -- there are more than 16 exactly when more than 16 pairs are reachable
    pub more-pairs : (16 < length (pairs c d))
        ↔ ((zs : List ℕ) × Once zs × Each (λ z. Reachable c d (z / 16) (z % 16)) zs × (16 < length zs))
    more-pairs = (
      (λ h. let w = pairs-walks c d lc ld in (pairs c d, w.once, w.reach, h)),
      (λ (zs, o, r, h). elim (dec_lt 16 (length (pairs c d))) [
        | yes k ↦ k
        | no k ↦
            let few : length (pairs c d) ≤ 16 = omega arith in
            let all = each_map _ (λ z. T (elem z (pairs c d))) (found few) zs r in
            absurd (omega (arith, once-fits zs (pairs c d) o all))
      ]),
    )
      where
        found : length (pairs c d) ≤ 16 → (z : ℕ) → Reachable c d (z / 16) (z % 16) → T (elem z (pairs c d))
        found few z r =
            subst (λ k. T (elem k (pairs c d))) (div-add-mod' z 16) (pairs-all c d lc ld few (z / 16) (z % 16) r)
