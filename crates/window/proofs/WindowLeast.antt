-- The search gives the working window with least m + a, then least a; or none up to 15 and 15 works.
-- In order: rank, rising, same, Least, first-least, Chosen, window-least.
-- Assumes nothing.
use Rattle.std.proofs.Common.{◌≡◌, ◌⊎◌, ◌&&◌, ◌∷◌, ◌+◌, ◌*◌, ◌≤◌, ◌<◌, if◌then◌else◌}
use Rattle.laws.proofs.All.{refl, sym, ap, ap₂, subst, ◌∙◌, inl, inr, Bool, true, false, List, []}
use Rattle.laws.proofs.All.{ℕ, suc, le_refl, arith, dec_lt, T, leb, leb→le, ltb, ltb→lt}
use Rattle.laws.proofs.All.{eqb, eqb→eq, eqb_refl, length, get_or, range, all, any, first, and→, →and}
use Rattle.laws.proofs.All.{or→, →or_l, →or_r, all→, any→, all-below→}
use Rattle.table.specs.Rows.{Rows, Size}
use Rattle.window.specs.Works.{works}
use Rattle.window.specs.Search.{sizes, window, no_size}
use Rattle.window.specs.Window.{NoLater}

-- the order of the search as one number
abbrev pub rank : Size → ℕ
rank z = (z.memory + z.lookahead) * 16 + z.lookahead

-- each rank is at least n and above the one before
abbrev pub rising : ℕ → List Size → Bool
rising n [] = true
rising n (z ∷ zs) = let r = rising (suc (rank z)) zs in leb n (rank z) && r

abbrev pub same : Size → Size → Bool
same z w = eqb z.memory w.memory && eqb z.lookahead w.lookahead

same→ : (z w : Size) → T (same z w) → z ≡ w
same→ z w t =
    let (a, b) = and→ (eqb z.memory w.memory) (eqb z.lookahead w.lookahead) t in
    ap₂ (λ m a. record { memory = m; lookahead = a }) (eqb→eq z.memory w.memory a)
    (eqb→eq z.lookahead w.lookahead b)

same_refl : (z : Size) → T (same z z)
same_refl z = →and (eqb z.memory z.memory) (eqb z.lookahead z.lookahead) (eqb_refl z.memory)
    (eqb_refl z.lookahead)

-- a rank in the list is at least the bound
lower : (n : ℕ) (zs : List Size) (w : Size) → T (rising n zs) → T (any (same w) zs) → n ≤ rank w
lower n [] w r t = absurd t
lower n (z ∷ zs) w r t =
    let (a, b) = and→ (leb n (rank z)) (rising (suc (rank z)) zs) r in
    go (leb→le n (rank z) a) (or→ (same w z) (any (same w) zs) t) (λ u. lower (suc (rank z)) zs w b u)
  where
    go : n ≤ rank z → T (same w z) ⊎ T (any (same w) zs) → (T (any (same w) zs) → suc (rank z) ≤ rank w) → n ≤ rank w
    go l (inl u) f = subst (λ v. n ≤ rank v) (sym (same→ w z u)) l
    go l (inr u) f = omega (arith, f u)

module _ (p : Size → Bool) (d : Size) where
  abbrev pub Least : List Size → Size → Type 0
  Least zs z = (T (any (same z) zs) × T (p z) × ((w : Size) → T (any (same w) zs) → T (p w) → rank z ≤ rank w))
      ⊎ ((z ≡ d) × ((w : Size) → T (any (same w) zs) → T (p w) → ⊥))

  -- the first that passes in a list of rising ranks is the least that passes
  pub first-least : (n : ℕ) (zs : List Size) → T (rising n zs) → Least zs (first p d zs)
  first-least n [] r = inr (refl, λ w t u. t)
  first-least n (z ∷ zs) r = go (p z) refl (first-least (suc (rank z)) zs b)
    where
      b : T (rising (suc (rank z)) zs)
      b = (and→ (leb n (rank z)) (rising (suc (rank z)) zs) r).1

      split : (w : Size) → T (any (same w) (z ∷ zs)) → (w ≡ z) ⊎ T (any (same w) zs)
      split w t = elim (or→ (same w z) (any (same w) zs) t) [ inl u ↦ inl (same→ w z u) | inr u ↦ inr u ]

      here : T (p z) → (w : Size) → (w ≡ z) ⊎ T (any (same w) zs) → rank z ≤ rank w
      here t w (inl e) = subst (λ v. rank z ≤ rank v) (sym e) (le_refl (rank z))
      here t w (inr u) = omega (arith, lower (suc (rank z)) zs w b u)

      apart : p z ≡ false → (w : Size) → T (p w) → w ≡ z → ⊥
      apart e w t q = subst T (ap p q ∙ e) t

      there : p z ≡ false → Least zs (first p d zs) → Least (z ∷ zs) (first p d zs)
      there e (inl (i, t, f)) =
          inl (
            →or_r (same (first p d zs) z) (any (same (first p d zs)) zs) i,
            t,
            λ w u v. elim (split w u)
                [ inl q ↦ absurd (apart e w v q) | inr k ↦ f w k v ],
          )
      there e (inr (q₀, f)) = inr (q₀, λ w u v. elim (split w u) [ inl q ↦ absurd (apart e w v q) | inr k ↦ f w k v ])

      go : (x : Bool) → p z ≡ x → Least zs (first p d zs) → Least (z ∷ zs) (if x then z else first p d zs)
      go true e h = inl (
        →or_l (same z z) (any (same z) zs) (same_refl z),
        subst T (sym e) tt,
        λ w u v. here
            (subst T (sym e) tt) w (split w u),
      )
      go false e h = there e h

-- ---- the sizes of the search, by computing
sizes-rise : T (rising 0 sizes)
unfolding sizes
sizes-rise = tt

sizes-full : T (all (λ m. all (λ a. any (same (record { memory = m; lookahead = a })) sizes) (range 16)) (range 16))
unfolding sizes
sizes-full = tt

in-sizes : (z : Size) → z.memory < 16 → z.lookahead < 16 → T (any (same z) sizes)
in-sizes z h l = all-below→ (λ a. any (same (record { memory = z.memory; lookahead = a })) sizes) 16
    (all-below→ (λ m. all (λ a. any (same (record { memory = m; lookahead = a })) sizes) (range 16)) 16 sizes-full
    z.memory h) z.lookahead l

small : Size → Bool
small z = ltb z.memory 16 && ltb z.lookahead 16

sizes-small : T (all small sizes)
unfolding small sizes
sizes-small = tt

size-lt : (z : Size) → T (any (same z) sizes) → (z.memory < 16) × (z.lookahead < 16)
unfolding small
size-lt z t = go (any→ (same z) no_size sizes t)
  where
    go : (i : ℕ) × (i < length sizes) × T (same z (get_or sizes i no_size))
        → (z.memory < 16) × (z.lookahead < 16)
    go (i, h, u) =
        let w = get_or sizes i no_size in
        let (a, b) = and→ (ltb w.memory 16) (ltb w.lookahead 16)
        (all→ small no_size sizes sizes-small i h) in
        subst (λ v. (v.memory < 16) × (v.lookahead < 16)) (sym (same→ z w u))
        (ltb→lt w.memory 16 a, ltb→lt w.lookahead 16 b)

no-later : (z w : Size) → z.lookahead < 16 → w.lookahead < 16 → rank z ≤ rank w → NoLater z w
no-later z w h l r = go (dec_lt (z.memory + z.lookahead) (w.memory + w.lookahead))
  where
    go : Dec (z.memory + z.lookahead < w.memory + w.lookahead) → NoLater z w
    go (yes k) = inl k
    go (no k) = inr (omega arith, omega arith)

-- z is the working window that comes no later than any other; or it is the mark, and none works
abbrev pub Chosen : Rows → Size → Type 0
Chosen t z =
    ((z.memory < 16) × (z.lookahead < 16) × T (works t z)
    × ((y : Size) → y.memory < 16 → y.lookahead < 16 → T (works t y) → NoLater z y))
    ⊎ ((z ≡ no_size) × ((y : Size) → y.memory < 16 → y.lookahead < 16 → T (works t y) → ⊥))

pub window-least : (t : Rows) → Chosen t (window t)
unfolding window
window-least t = go (window t) (first-least (works t) no_size 0 sizes sizes-rise)
  where
    go : (z : Size) → Least (works t) no_size sizes z → Chosen t z
    go z (inl (i, k, f)) =
        let (a, b) = size-lt z i in
        inl (a, b, k, λ y h l u. no-later z y b l (f y (in-sizes y h l) u))
    go z (inr (e, f)) = inr (e, λ y h l u. f y (in-sizes y h l) u)
