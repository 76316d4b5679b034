-- What compiling promises of its outcomes: where splitting ends, the least window, and records from bytes to bytes.
-- In order: split-ends; made-closed; least-window; no-window-exact; packed.
-- Assumes nothing.
use Rattle.std.proofs.Common.{◌≡◌, ◌↔◌, ◌≤◌, ◌<◌}
use Rattle.laws.proofs.All.{refl, sym, ap, subst, ◌∙◌, inl, inr, List, [], ℕ, arith, dec_lt}
use Rattle.laws.proofs.All.{length, get_or-eq_default, sum}
use Rattle.answer.specs.declared.Refusal.TheVariants.{NoWindow}
use Rattle.answer.specs.Outcomes.{Outcome, done, refused}
use Rattle.answer.proofs.Outcomes.{onward→, fitting→}
use Rattle.table.specs.Rows.{Rows, edges, at, Size, Code}
use Rattle.table.specs.Paths.{Closed}
use Rattle.window.specs.Window.{Window, NoLater}
use Rattle.window.specs.Search.{window}
use Rattle.window.proofs.Window.{works-sound, works-complete}
use Rattle.window.proofs.WindowLeast.{Chosen, window-least}
use Rattle.record.specs.Layout.{pack}
use Rattle.record.specs.Parse.{pack_into}
use Rattle.record_check.specs.Parse.{parse}
use Rattle.compile_graph.specs.Arcs.{out}
use Rattle.compile_graph.proofs.Loop.{states-le, splitted-end, splitted-full}
use Rattle.window_least.proofs.Windowed.{window-found}
use Rattle.compile_job.specs.Jobs.{Job, Allowed}
use Rattle.compile.specs.Compile.{ways, component_of, finished_of, table_for, code, compile, compile_into}
use Rattle.compile.proofs.Compile.{ways-pos, job-inv, Reason, reason, nothing, heavy, crowding, windowless}
use Rattle.compile.proofs.Compile.{coded}
use Rattle.compile.proofs.Accepted.{Made, made, compile-parses}

-- ---- splitting ends with n edges a state or too many edges, and with no more states than the weights sum to
pub split-ends : (j : Job) → Allowed j → 0 < sum (component_of j).weights
    → (length (finished_of j).weights ≤ sum (component_of j).weights)
    × (length (finished_of j).arcs ≤ 2048
    → (s : ℕ) → s < length (finished_of j).weights → ways j ≤ length (out (finished_of j).arcs s))
split-ends j a h =
    let n = ways j in
    let S = sum (component_of j).weights in
    let inv = job-inv j a h in (
      states-le n S (ways-pos j) (finished_of j) (splitted-end n S (ways-pos j) (component_of j) inv).0,
      splitted-full n S (ways-pos j) (component_of j) inv,
    )

-- ---- the window
pub made-closed : (j : Job) → Made j → Closed (table_for j)
made-closed j m s d hd = go (dec_lt s (length (table_for j)))
  where
    t : Rows
    t = table_for j

    go : Dec (s < length t) → (at t s d).next < length t
    go (yes h) = m.table.next s d h (rw (m.table.full s h) at hd)
    go (no h) = absurd (let z : edges t s ≡ [] = get_or-eq_default t [] {n = s} (omega arith) in empty (rw z at hd))
      where
        empty : d < 0 → ⊥
        empty l = omega arith

-- the window of a compiled code does what a window must, and no other up to 15 and 15 that does comes before it
pub least-window : (j : Job) → Allowed j → (c : Code) → compile j ≡ done c
    → Window c.table c.window
    × ((y : Size) → y.memory ≤ 15 → y.lookahead ≤ 15 → Window c.table y → NoLater c.window y)
least-window j a c e = go c (subst (Reason j) e (reason j))
  where
    Least : Code → Type 0
    Least c =
        Window c.table c.window
        × ((y : Size) → y.memory ≤ 15 → y.lookahead ≤ 15 → Window c.table y → NoLater c.window y)

    go : (c : Code) → Reason j (done c) → Least c
    go c (coded h light few w) = found (window-least (table_for j))
      where
        m : Made j
        m = made j a h light few

        t : Rows
        t = table_for j

        found : Chosen t (window t) → Least (code j t)
        found (inl (_, _, k, f)) = (
          works-sound t (window t) (made-closed j m) m.table.some k,
          λ y hm ha u. f y (omega arith) (omega arith) (works-complete t y u),
        )
        found (inr (q, f)) = let z : (window t).memory ≡ 16 = ap (λ z. z.memory) q in absurd (omega arith)

-- refusal 6 comes exactly when no window up to 15 and 15 does what a window must
pub no-window-exact : (j : Job) → Allowed j → 0 < sum (component_of j).weights → sum (component_of j).weights ≤ 128
    → length (finished_of j).arcs ≤ 2048
    → (compile j ≡ refused NoWindow)
    ↔ ((y : Size) → y.memory ≤ 15 → y.lookahead ≤ 15 → Window (table_for j) y → ⊥)
no-window-exact j a h light few = (there, here)
  where
    t : Rows
    t = table_for j

    m : Made j
    m = made j a h light few

    wide : Reason j (refused NoWindow) → 15 < (window t).memory
    wide (windowless _ _ w) = w

    none : Chosen t (window t) → 15 < (window t).memory
        → (y : Size) → y.memory ≤ 15 → y.lookahead ≤ 15 → Window t y → ⊥
    none (inl (s, _, _, _)) w = absurd (omega arith)
    none (inr (_, f)) w = λ y hm ha u. f y (omega arith) (omega arith) (works-complete t y u)

    there : compile j ≡ refused NoWindow → (y : Size) → y.memory ≤ 15 → y.lookahead ≤ 15 → Window t y → ⊥
    there e = none (window-least t) (wide (subst (Reason j) e (reason j)))

    pick : (o : Outcome Code) → Reason j o → ((y : Size) → y.memory ≤ 15 → y.lookahead ≤ 15 → Window t y → ⊥)
        → o ≡ refused NoWindow
    pick _ (nothing z) f = absurd (omega arith)
    pick _ (heavy k) f = absurd (omega arith)
    pick _ (crowding _ k) f = absurd (omega arith)
    pick _ (windowless _ _ _) f = refl
    pick _ (coded _ _ _ w) f =
        let (l, k) = window-found t w in
        absurd (f (window t) w (omega arith) (works-sound t (window t) (made-closed j m) m.table.some k))

    here : ((y : Size) → y.memory ≤ 15 → y.lookahead ≤ 15 → Window t y → ⊥) → compile j ≡ refused NoWindow
    here f = pick (compile j) (reason j) f

-- ---- from bytes to bytes
pub packed : (j : Job) → Allowed j → (room : ℕ) (r : List ℕ) → compile_into room j ≡ done r
    → (c : Code) × (compile j ≡ done c) × (pack c ≡ r) × (parse r ≡ done c)
unfolding pack_into
packed j a room r e =
    let (c, q, f) = onward→ (compile j) (λ c. pack_into c room) r e in
    let (_, p) = fitting→ room (pack c) r f in
    (c, q, p, ap parse (sym p) ∙ compile-parses j a c q)
