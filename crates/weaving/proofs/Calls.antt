-- What weaving and unweaving answer, exactly, with the documents' numbers written out: when each is done, and when each
-- of its refusals comes.
-- In order: told-depth, depth-numbers, the check of 16; into, both ways; weave-calls, unweave-calls; weave-spreads,
-- unweave-spreads; weave-returns, unweave-returns.
-- Assumes nothing.
use Rattle.std.proofs.Common.{◌≡◌, ◌↔◌, ◌⊎◌, ◌&&◌, ◌+◌, ◌*◌, ◌/◌, ◌%◌, ◌≤◌, ◌<◌}
use Rattle.laws.proofs.All.{sym, ap, subst, ◌∙◌, List, ℕ, arith, T}
use Rattle.laws.proofs.All.{refl, inl, inr, leb, eqb, length, get_or}
use Rattle.answer.specs.declared.Refusal.TheVariants.{Depth, ShortOutput}
use Rattle.answer.specs.Outcomes.{Outcome, done, refused, unless, onward}
use Rattle.answer.proofs.Due.{Told, told-le, told-eq, told_and, done-past, refused-past, refused-here, never-past}
use Rattle.answer.proofs.Due.{done-exact, never_done, done-onward, refused-first}
use Rattle.weaving.specs.Weaving.{woven, unwoven, good_depth, checked, weave_into, unweave_into}
use Rattle.weaving.proofs.Weaving.{length-woven, length-unwoven, weave-places, unweave-places, weaving}

-- "D out of range or a length that D does not divide"
told-depth : (D k : ℕ) → Told (good_depth D k) (((2 ≤ D) × (D ≤ 16)) × (k % D ≡ 0))
    (((D < 2) ⊎ (16 < D)) ⊎ (k % D ≡ 0 → ⊥))
unfolding good_depth
told-depth D k =
    told_and (leb 2 D && leb D 16) (eqb (k % D) 0)
    (told_and (leb 2 D) (leb D 16) (told-le 2 D) (told-le D 16)) (told-eq (k % D) 0)

pub depth-numbers : (D k : ℕ) → T (good_depth D k) ↔ ((2 ≤ D) × (D ≤ 16) × (k % D ≡ 0))
depth-numbers D k =
    let p = (told-depth D k).passes in
    (λ t. let ((a, b), c) = p.0 t in (a, b, c), λ (a, b, c). p.1 ((a, b), c))

-- ---- both ways: k words with these checks, then the result
module _ (D k room : ℕ) (result : List ℕ) where
  abbrev fits : Outcome ℕ
  fits = unless ShortOutput (leb k room) (done k)

  abbrev out : Outcome (List ℕ)
  out = onward (checked D k room) (λ n. done result)

  into : ((W : List ℕ) → (out ≡ done W) ↔ ((2 ≤ D) × (D ≤ 16) × (k % D ≡ 0) × (k ≤ room) × (result ≡ W)))
      × ((out ≡ refused Depth) ↔ ((D < 2) ⊎ ((16 < D) ⊎ (k % D ≡ 0 → ⊥))))
      × ((out ≡ refused ShortOutput) ↔ ((2 ≤ D) × (D ≤ 16) × (k % D ≡ 0) × (room < k)))
  into = (
    λ W. let e = done-onward (checked D k room) (λ n. done result) W (λ n. done-exact result W) in (
      λ q. let (n, p, w) = e.0 q in let (((a, b), c), (d, _)) = (passed n).0 p in (a, b, c, d, w),
      λ (a, b, c, d, w). e.1 (k, (passed k).1 (((a, b), c), (d, refl)), w),
    ),
    let e = refused-first (checked D k room) (λ n. done result) Depth (λ n. never_done result Depth) in
        let h = refused-here Depth (good_depth D k) fits (told-depth D k)
        (never-past ShortOutput (leb k room) (done k) Depth (λ e. omega arith) (never_done k Depth)) in
        (λ q. split (h.0 (e.0 q)), λ o. e.1 (h.1 (join o))),
    let e = refused-first (checked D k room) (λ n. done result) ShortOutput (λ n. never_done result ShortOutput) in
        let h = refused-past Depth (good_depth D k) fits (told-depth D k) ShortOutput (λ e. omega arith)
        (refused-here ShortOutput (leb k room) (done k) (told-le k room) (never_done k ShortOutput)) in (
          λ q. let (((a, b), c), d) = h.0 (e.0 q) in (a, b, c, d),
          λ (a, b, c, d). e.1 (h.1 (((a, b), c), d)),
        ),
  )
    where
      passed : (n : ℕ) → (checked D k room ≡ done n)
          ↔ ((((2 ≤ D) × (D ≤ 16)) × (k % D ≡ 0)) × ((k ≤ room) × (k ≡ n)))
      passed n =
          done-past Depth (good_depth D k) fits (told-depth D k) n
          (done-past ShortOutput (leb k room) (done k) (told-le k room) n (done-exact k n))

      split : ((D < 2) ⊎ (16 < D)) ⊎ (k % D ≡ 0 → ⊥) → (D < 2) ⊎ ((16 < D) ⊎ (k % D ≡ 0 → ⊥))
      split (inl (inl a)) = inl a
      split (inl (inr b)) = inr (inl b)
      split (inr c) = inr (inr c)

      join : (D < 2) ⊎ ((16 < D) ⊎ (k % D ≡ 0 → ⊥)) → ((D < 2) ⊎ (16 < D)) ⊎ (k % D ≡ 0 → ⊥)
      join (inl a) = inl (inl a)
      join (inr (inl b)) = inl (inr b)
      join (inr (inr c)) = inr c

module _ (D room : ℕ) (ws : List ℕ) where
  pub weave-calls : let k = length ws in let o = weave_into D room ws in
      ((W : List ℕ) → (o ≡ done W) ↔ ((2 ≤ D) × (D ≤ 16) × (k % D ≡ 0) × (k ≤ room) × (woven D ws ≡ W)))
      × ((o ≡ refused Depth) ↔ ((D < 2) ⊎ ((16 < D) ⊎ (k % D ≡ 0 → ⊥))))
      × ((o ≡ refused ShortOutput) ↔ ((2 ≤ D) × (D ≤ 16) × (k % D ≡ 0) × (room < k)))
  unfolding weave_into
  weave-calls = into D (length ws) room (woven D ws)

  pub unweave-calls : let k = length ws in let o = unweave_into D room ws in
      ((W : List ℕ) → (o ≡ done W) ↔ ((2 ≤ D) × (D ≤ 16) × (k % D ≡ 0) × (k ≤ room) × (unwoven D ws ≡ W)))
      × ((o ≡ refused Depth) ↔ ((D < 2) ⊎ ((16 < D) ⊎ (k % D ≡ 0 → ⊥))))
      × ((o ≡ refused ShortOutput) ↔ ((2 ≤ D) × (D ≤ 16) × (k % D ≡ 0) × (room < k)))
  unfolding unweave_into
  unweave-calls = into D (length ws) room (unwoven D ws)

-- ---- where the words go
module _ (D room : ℕ) (ws W : List ℕ) where
  -- "word j of recording r goes to place j × D + r"
  pub weave-spreads : weave_into D room ws ≡ done W → (length W ≡ length ws)
      × ((r j : ℕ) → r < D → j < length ws / D → get_or W (j * D + r) 0 ≡ get_or ws (r * (length ws / D) + j) 0)
  weave-spreads e =
      let (a, b, c, _, w) = ((weave-calls D room ws).0 W).0 e in
      let g = (depth-numbers D (length ws)).1 (a, b, c) in (
        ap length (sym w) ∙ length-woven D ws g,
        λ r j h l. ap (λ X. get_or X (j * D + r) 0) (sym w) ∙ weave-places D ws g r j h l,
      )

  -- and comes back from there
  pub unweave-spreads : unweave_into D room ws ≡ done W → (length W ≡ length ws)
      × ((r j : ℕ) → r < D → j < length ws / D → get_or W (r * (length ws / D) + j) 0 ≡ get_or ws (j * D + r) 0)
  unweave-spreads e =
      let (a, b, c, _, w) = ((unweave-calls D room ws).0 W).0 e in
      let g = (depth-numbers D (length ws)).1 (a, b, c) in (
        ap length (sym w) ∙ length-unwoven D ws g,
        λ r j h l. ap (λ X. get_or X (r * (length ws / D) + j) 0) (sym w) ∙ unweave-places D ws g r j h l,
      )

  -- ---- "Each undoes the other"
  module _ (room' : ℕ) (h : length ws ≤ room') where
    pub weave-returns : weave_into D room ws ≡ done W → unweave_into D room' W ≡ done ws
    weave-returns e =
        let (a, b, c, _, w) = ((weave-calls D room ws).0 W).0 e in
        let g = (depth-numbers D (length ws)).1 (a, b, c) in
        let n = (weave-spreads e).0 in
        ((unweave-calls D room' W).0 ws).1 (
          a,
          b,
          subst (λ k. k % D ≡ 0) (sym n) c,
          subst (λ k. k ≤ room') (sym n) h,
          ap (unwoven D) (sym w) ∙ (weaving D ws g).0,
        )

    pub unweave-returns : unweave_into D room ws ≡ done W → weave_into D room' W ≡ done ws
    unweave-returns e =
        let (a, b, c, _, w) = ((unweave-calls D room ws).0 W).0 e in
        let g = (depth-numbers D (length ws)).1 (a, b, c) in
        let n = (unweave-spreads e).0 in
        ((weave-calls D room' W).0 ws).1 (
          a,
          b,
          subst (λ k. k % D ≡ 0) (sym n) c,
          subst (λ k. k ≤ room') (sym n) h,
          ap (woven D) (sym w) ∙ (weaving D ws g).1,
        )
