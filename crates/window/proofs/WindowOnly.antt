-- Whatever finds a working window that comes no later than any other has found the search's; and if none works the
-- search says so.
-- In order: window-only; window-none.
-- Assumes nothing.
use Rattle.std.proofs.Common.{◌≡◌, ◌<◌}
use Rattle.laws.proofs.All.{ap₂, inl, inr, arith, T}
use Rattle.table.specs.Rows.{Rows, Size}
use Rattle.window.specs.Window.{NoLater}
use Rattle.window.specs.Works.{works}
use Rattle.window.specs.Search.{no_size, window}
use Rattle.window.proofs.WindowLeast.{Chosen, window-least}

antisym : (z y : Size) → NoLater z y → NoLater y z → z ≡ y
antisym z y (inl h) (inl k) = absurd (omega arith)
antisym z y (inl h) (inr (k, l)) = absurd (omega arith)
antisym z y (inr (h, l)) (inl k) = absurd (omega arith)
antisym z y (inr (h, l)) (inr (h', l')) =
    let a : z.lookahead ≡ y.lookahead = omega arith in
    let m : z.memory ≡ y.memory = omega arith in
    ap₂ (λ m a. record { memory = m; lookahead = a }) m a

pub window-only : (t : Rows) (z : Size) → z.memory < 16 → z.lookahead < 16 → T (works t z)
    → ((y : Size) → y.memory < 16 → y.lookahead < 16 → T (works t y) → NoLater z y) → window t ≡ z
window-only t z hm ha k f = go (window-least t)
  where
    go : Chosen t (window t) → window t ≡ z
    go (inl (m, a, w, f')) = antisym (window t) z (f' z hm ha k) (f (window t) m a w)
    go (inr (e, f')) = absurd (f' z hm ha k)

pub window-none : (t : Rows) → ((y : Size) → y.memory < 16 → y.lookahead < 16 → T (works t y) → ⊥)
    → window t ≡ no_size
window-none t f = go (window-least t)
  where
    go : Chosen t (window t) → window t ≡ no_size
    go (inl (m, a, w, f')) = absurd (f (window t) m a w)
    go (inr (e, f')) = e
