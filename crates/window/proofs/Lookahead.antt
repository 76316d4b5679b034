-- The lookahead at which the pairs of a clash are gone is the least that works.
-- In order: works-further, fails-sooner, works-there; works-emptied.
-- Assumes nothing.
use Rattle.std.proofs.Common.{◌≡◌, ◌+◌, ◌-◌, ◌≤◌, ◌<◌}
use Rattle.laws.proofs.All.{sym, subst, ◌∙◌, Bool, true, false, ℕ, zero, suc, arith}
use Rattle.laws.proofs.All.{add-zero, dec_lt, le-leb, lt-leb, T, leb, length, T→true}
use Rattle.table.specs.Rows.{Rows}
use Rattle.table.specs.Paths.{Closed}
use Rattle.window.specs.Works.{works}
use Rattle.window.specs.Search.{hits, pasts}
use Rattle.window.proofs.Search.{works-by-hits}
use Rattle.window.proofs.WindowGrows.{works-grows}
use Rattle.window.specs.Steps.{size, Emptied}

module _ (t : Rows) (c : Closed t) (p : 0 < length t) (m : ℕ) where
  further : (a k : ℕ) → T (works t (size m a)) → T (works t (size m (a + k)))
  further a zero h = subst (λ b. T (works t (size m b))) (sym (add-zero a)) h
  further a (suc k) h =
      let e : suc (a + k) ≡ a + suc k = omega arith in
      subst (λ b. T (works t (size m b))) e (works-grows t c p m (a + k) (further a k h)).1

  pub works-further : (a b : ℕ) → a ≤ b → T (works t (size m a)) → T (works t (size m b))
  works-further a b l h =
      let e : a + (b - a) ≡ b = omega arith in
      subst (λ k. T (works t (size m k))) e (further a (b - a) h)

  module _ (most r : ℕ) (h : Emptied t (hits t (pasts t m)) most r) where
    pub fails-sooner : (k : ℕ) → k < r → T (works t (size m k)) → ⊥
    fails-sooner k l w = subst T (h.sooner k l) ((works-by-hits t c m k).0 w)

    pub works-there : r ≤ most → T (works t (size m r))
    works-there l = (works-by-hits t c m r).1 (subst T (sym (h.there l)) tt)

    pub works-emptied : leb r most ≡ works t (size m most)
    works-emptied = go (dec_lt most r) (works t (size m most)) (works-further r most) (fails-sooner most)
      where
        go : Dec (most < r) → (b : Bool) → (r ≤ most → T (works t (size m r)) → T b) → (most < r → T b → ⊥)
            → leb r most ≡ b
        go (yes l) true f g = absurd (g l tt)
        go (yes l) false f g = lt-leb r most l
        go (no l) b f g = le-leb r most (omega arith) ∙ sym (T→true b (f (omega arith) (works-there (omega arith))))
