-- The sentence on two paths, said of paths step by step; and the test of a window is exact.
-- In order: same→path, same→words, →same; window→same, same→window; works-sound, works-complete.
-- Assumes nothing.
use Rattle.std.proofs.Common.{◌≡◌, ◌∷◌, ◌++◌, ◌+◌, ◌<◌}
use Rattle.laws.proofs.All.{refl, sym, ap, ap₂, subst₂, ◌∙◌, List, [], ℕ, zero, suc}
use Rattle.laws.proofs.All.{arith, T, length, get_or, take, drop, length-append, length-drop, take-append-drop}
use Rattle.laws.proofs.All.{length-take-le, drop-cons}
use Rattle.table.specs.Rows.{Rows, at, Size}
use Rattle.table.specs.Paths.{Path, spells, Closed}
use Rattle.window.specs.Window.{Agree, Window}
use Rattle.window.specs.Works.{works}
use Rattle.window.proofs.Same.{Same, AgreeSame, WindowSame, works→}
use Rattle.window.proofs.Complete.{→works}

-- ---- two paths with equal words, step by step
pub same→path : (t : Rows) (s u : ℕ) (ds es : List ℕ) → Same t s u ds es → Path t s ds × Path t u es
same→path t s u [] [] h = (tt, tt)
same→path t s u [] (e ∷ es) h = absurd h
same→path t s u (d ∷ ds) [] h = absurd h
same→path t s u (d ∷ ds) (e ∷ es) (a, b, w, h) =
    let (p, q) = same→path t (at t s d).next (at t u e).next ds es h in
    ((a, p), (b, q))

pub same→words : (t : Rows) (s u : ℕ) (ds es : List ℕ) → Same t s u ds es → spells t s ds ≡ spells t u es
same→words t s u [] [] h = refl
same→words t s u [] (e ∷ es) h = absurd h
same→words t s u (d ∷ ds) [] h = absurd h
same→words t s u (d ∷ ds) (e ∷ es) (a, b, w, h) =
    ap₂ ◌∷◌ w (same→words t (at t s d).next (at t u e).next ds es h)

pub →same : (t : Rows) (s u : ℕ) (ds es : List ℕ) → length ds ≡ length es → Path t s ds → Path t u es
    → spells t s ds ≡ spells t u es → Same t s u ds es
→same t s u [] [] l p q e = tt
→same t s u [] (y ∷ es) l p q e = absurd (omega arith)
→same t s u (x ∷ ds) [] l p q e = absurd (omega arith)
→same t s u (x ∷ ds) (y ∷ es) l (a, p) (b, q) e =
    let word : (at t s x).word ≡ (at t u y).word = ap (λ ws. get_or ws 0 0) e in
    let rest : spells t (at t s x).next ds ≡ spells t (at t u y).next es = ap (drop 1) e in
    (a, b, word, →same t (at t s x).next (at t u y).next ds es (omega arith) p q rest)

-- ---- agreement
get_or-middle : (us vs : List ℕ) (x i : ℕ) → length us ≡ i → get_or (us ++ x ∷ vs) i 0 ≡ x
get_or-middle [] vs x zero l = refl
get_or-middle [] vs x (suc i) l = absurd (omega arith)
get_or-middle (u ∷ us) vs x zero l = absurd (omega arith)
get_or-middle (u ∷ us) vs x (suc i) l = get_or-middle us vs x i (omega arith)

length-middle : (us vs : List ℕ) (x i a : ℕ) → length us ≡ i → length vs ≡ a → length (us ++ x ∷ vs) ≡ i + 1 + a
length-middle us vs x i a l n = length-append us (x ∷ vs) ∙ omega arith

agree→same : (t : Rows) (i a s u : ℕ) → Agree t i a s u → AgreeSame t i a s u
agree→same t i a s u f us us' vs vs' x y l l' n n' h =
    let ds = us ++ x ∷ vs in
    let es = us' ++ y ∷ vs' in
    let (p, q) = same→path t s u ds es h in
    sym (get_or-middle us vs x i l)
    ∙ f ds es (length-middle us vs x i a l n) (length-middle us' vs' y i a l' n') p q (same→words t s u ds es h)
    ∙ get_or-middle us' vs' y i l'

-- a list cut at place i
cut : (ds : List ℕ) (i : ℕ) → i < length ds → take i ds ++ get_or ds i 0 ∷ drop (suc i) ds ≡ ds
cut ds i h = ap (λ l. take i ds ++ l) (sym (drop-cons ds i 0 h)) ∙ take-append-drop i ds

same→agree : (t : Rows) (i a s u : ℕ) → AgreeSame t i a s u → Agree t i a s u
same→agree t i a s u f ds es l n p q e =
    f (take i ds) (take i es) (drop (suc i) ds) (drop (suc i) es) (get_or ds i 0) (get_or es i 0)
    (length-take-le i ds (omega arith)) (length-take-le i es (omega arith))
    (length-drop (suc i) ds ∙ omega arith) (length-drop (suc i) es ∙ omega arith)
    (subst₂ (λ x y. Same t s u x y) (sym (cut ds i (omega arith))) (sym (cut es i (omega arith)))
    (→same t s u ds es (l ∙ sym n) p q e))

-- ---- windows
pub window→same : (t : Rows) (z : Size) → Window t z → WindowSame t z
window→same t z w = record {
  later = λ s u i j. agree→same t z.memory z.lookahead s u (w.later s u i j);
  early = λ i h. agree→same t i z.lookahead 0 0 (w.early i h);
}

pub same→window : (t : Rows) (z : Size) → WindowSame t z → Window t z
same→window t z w = record {
  later = λ s u i j. same→agree t z.memory z.lookahead s u (w.later s u i j);
  early = λ i h. same→agree t i z.lookahead 0 0 (w.early i h);
}

-- the test passes only where the window does what a window must
pub works-sound : (t : Rows) (z : Size) → Closed t → 0 < length t → T (works t z) → Window t z
works-sound t z c h k = same→window t z (works→ t z c h k)

-- and everywhere where it does
pub works-complete : (t : Rows) (z : Size) → Window t z → T (works t z)
works-complete t z w = →works t z (window→same t z w)
