-- The search for the least window, memory by memory.
-- In order: later_trans; lead-start, lead-take, lead-skip, lead-done, lead-rest.
-- Assumes nothing.
use Rattle.std.proofs.Common.{◌≡◌, ◌⊎◌, ◌+◌, ◌-◌, ◌≤◌, ◌<◌}
use Rattle.laws.proofs.All.{refl, sym, ap, subst, ◌∙◌, inl, inr, ℕ, arith}
use Rattle.laws.proofs.All.{dec_lt, T, iterate}
use Rattle.table.specs.Rows.{Rows, Size}
use Rattle.window.specs.Works.{into, reversed, works}
use Rattle.table.specs.Paths.{Closed}
use Rattle.window.specs.Window.{NoLater}
use Rattle.window.specs.Search.{no_size, window, hits, pasts, empty}
use Rattle.window.proofs.Search.{works-by-hits}
use Rattle.window.proofs.WindowOnly.{window-only, window-none}
use Rattle.window.specs.Steps.{size, Leading, Room}
use Rattle.window.proofs.PastSets.{pasts-rest}

later_trans : (x y z : Size) → NoLater x y → NoLater y z → NoLater x z
later_trans x y z (inl h) (inl k) = inl (omega arith)
later_trans x y z (inl h) (inr k) = inl (omega (arith, k.0))
later_trans x y z (inr h) (inl k) = inl (omega (arith, h.0))
later_trans x y z (inr h) (inr k) = inr (h.0 ∙ k.0, omega (arith, h.1, k.1))

module _ (t : Rows) where
  pub lead-start : Leading t 0 no_size
  lead-start = record { better = λ w h l k. absurd (omega arith); known = inl refl }

  module _ (m : ℕ) (z : Size) (hm : m ≤ 15) (h : Leading t m z) where
    module _ (r : ℕ) (f : Room z m r) where
      before : (a : ℕ) → a ≤ r → NoLater (size m a) z
      before a l = go h.known (dec_lt (m + a) (z.memory + z.lookahead))
        where
          go : (z ≡ no_size) ⊎ ((z.memory < m) × (z.lookahead < 16) × T (works t z))
              → Dec (m + a < z.memory + z.lookahead) → NoLater (size m a) z
          go k (yes d) = inl d
          go (inl e) (no d) =
              let p : z.memory ≡ 16 = ap (λ s. s.memory) e in
              let q : z.lookahead ≡ 16 = ap (λ s. s.lookahead) e in
              absurd (d (omega (arith, f.small)))
          go (inr k) (no d) = inr (omega (arith, f.fits), omega (arith, f.fits, k.0))

      pub lead-take : (a : ℕ) → a ≤ r → T (works t (size m a)) → ((k : ℕ) → k < a → T (works t (size m k)) → ⊥)
          → Leading t (m + 1) (size m a)
      lead-take a l s n = record {
        better = λ w hw lw k. go w lw k (dec_lt w.memory m) hw;
        known = inr (omega arith, omega (arith, f.small), s);
      }
        where
          same : (w : Size) → w.memory ≡ m → T (works t w) → Dec (w.lookahead < a) → Dec (a < w.lookahead)
              → NoLater (size m a) w
          same w e k (yes d) y = absurd (n w.lookahead d (subst (λ j. T (works t (size j w.lookahead))) e k))
          same w e k (no d) (yes y) = inl (omega arith)
          same w e k (no d) (no y) = inr (omega arith, omega arith)

          go : (w : Size) → w.lookahead < 16 → T (works t w) → Dec (w.memory < m) → w.memory < m + 1
              → NoLater (size m a) w
          go w lw k (yes d) hw = later_trans (size m a) z w (before a l) (h.better w d lw k)
          go w lw k (no d) hw = same w (omega arith) k (dec_lt w.lookahead a) (dec_lt a w.lookahead)

      pub lead-skip : ((k : ℕ) → k ≤ r → T (works t (size m k)) → ⊥) → Leading t (m + 1) z
      lead-skip n = record {
        better = λ w hw lw k. go w lw k (dec_lt w.memory m) hw;
        known = keep h.known;
      }
        where
          keep : (z ≡ no_size) ⊎ ((z.memory < m) × (z.lookahead < 16) × T (works t z))
              → (z ≡ no_size) ⊎ ((z.memory < m + 1) × (z.lookahead < 16) × T (works t z))
          keep (inl e) = inl e
          keep (inr k) = inr (omega (arith, k.0), k.1, k.2)

          over : (w : Size) → w.memory ≡ m → w.lookahead < 16 → T (works t w) → Dec (w.lookahead < r + 1)
              → (r ≡ 15) ⊎ (m + r ≡ z.memory + z.lookahead) → NoLater z w
          over w e lw k (yes d) y =
              absurd (n w.lookahead (omega arith) (subst (λ j. T (works t (size j w.lookahead))) e k))
          over w e lw k (no d) (inl y) = absurd (omega arith)
          over w e lw k (no d) (inr y) = inl (omega arith)

          go : (w : Size) → w.lookahead < 16 → T (works t w) → Dec (w.memory < m) → w.memory < m + 1 → NoLater z w
          go w lw k (yes d) hw = h.better w d lw k
          go w lw k (no d) hw = over w (omega arith) lw k (dec_lt w.lookahead (r + 1)) f.most

-- ---- no larger memory can be better
not-before : (w : Size) → w.memory < 16 → w.lookahead < 16 → NoLater no_size w → ⊥
not-before w a b (inl k) = omega arith
not-before w a b (inr k) = omega (arith, k.0)

abbrev Known : Rows → ℕ → Size → Type 0
Known t m z = (z ≡ no_size) ⊎ ((z.memory < m) × (z.lookahead < 16) × T (works t z))

-- what is no later than all is the search's
lead-all : (t : Rows) (z : Size) → Known t 16 z
    → ((w : Size) → w.memory < 16 → w.lookahead < 16 → T (works t w) → NoLater z w) → window t ≡ z
lead-all t z (inl q) f =
    window-none t (λ w a b k. not-before w a b (subst (λ s. NoLater s w) q (f w a b k))) ∙ sym q
lead-all t z (inr k) f = window-only t z k.0 k.1 k.2 f

known_up : (t : Rows) (m : ℕ) (z : Size) → m ≤ 16 → Known t m z → Known t 16 z
known_up t m z l (inl q) = inl q
known_up t m z l (inr k) = inr (omega (arith, k.0), k.1, k.2)

module _ (t : Rows) (m : ℕ) (z : Size) (h : Leading t m z) (l : m ≤ 16) where
  pub lead-done : (16 ≤ m) ⊎ (z.memory + z.lookahead < m) → window t ≡ z
  lead-done e = lead-all t z (known_up t m z l h.known) (λ w a b k. over w a b k (dec_lt w.memory m) e)
    where
      over : (w : Size) → w.memory < 16 → w.lookahead < 16 → T (works t w) → Dec (w.memory < m)
          → (16 ≤ m) ⊎ (z.memory + z.lookahead < m) → NoLater z w
      over w a b k (yes d) x = h.better w d b k
      over w a b k (no d) (inl x) = absurd (omega arith)
      over w a b k (no d) (inr x) = inl (omega arith)

-- ---- memory with which the same pairs must agree does not help
memory-rest : (t : Rows) → Closed t → (m j a : ℕ) → pasts t (m + 1) ≡ pasts t m → m ≤ j → T (works t (size j a))
    → T (works t (size m a))
memory-rest t c m j a e l k =
    let d : m + (j - m) ≡ j = omega arith in
    let q : pasts t j ≡ pasts t m = ap (pasts t) (sym d) ∙ pasts-rest t c m e (j - m) in
    (works-by-hits t c m a).1
    (subst (λ P. T (empty t (iterate (into (reversed t)) a (hits t P)))) q ((works-by-hits t c j a).0 k))

pub lead-rest : (t : Rows) → Closed t → (m : ℕ) (z : Size) → Leading t (m + 1) z → m < 16
    → pasts t (m + 1) ≡ pasts t m → window t ≡ z
lead-rest t c m z h l e =
    lead-all t z (known_up t (m + 1) z (omega arith) h.known) (λ w a b k. over w a b k (dec_lt w.memory (m + 1)))
  where
    over : (w : Size) → w.memory < 16 → w.lookahead < 16 → T (works t w) → Dec (w.memory < m + 1) → NoLater z w
    over w a b k (yes d) = h.better w d b k
    over w a b k (no d) =
        later_trans z (size m w.lookahead) w
        (h.better (size m w.lookahead) (omega arith) b
        (memory-rest t c m w.memory w.lookahead e (omega arith) k)) (inl (omega arith))
