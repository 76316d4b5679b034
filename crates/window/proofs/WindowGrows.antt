-- A window that works goes on working with more memory and with more lookahead.
-- In order: more-memory; more-lookahead; works-grows.
-- Assumes nothing.
use Rattle.std.proofs.Common.{◌≡◌, ◌∷◌, ◌++◌, ◌<◌}
use Rattle.laws.proofs.All.{sym, ap, subst, subst₂, ◌∙◌, List, [], append_assoc, ℕ, suc, arith}
use Rattle.laws.proofs.All.{dec_lt, T, length, take, drop, take-append-drop, length-append, length-take-le}
use Rattle.table.specs.Rows.{Rows, at}
use Rattle.window.specs.Works.{works}
use Rattle.window.proofs.Same.{Same, AgreeSame, WindowSame, same-append, works→}
use Rattle.table.specs.Paths.{Closed}
use Rattle.window.proofs.Complete.{→works}

-- ---- more memory
agree-memory : (g : Rows) → Closed g → (m a : ℕ) → ((s t : ℕ) → s < length g → t < length g → AgreeSame g m a s t)
    → (s t : ℕ) → AgreeSame g (suc m) a s t
agree-memory g c m a f s t [] us' vs vs' x y l l' n n' h = absurd (omega arith)
agree-memory g c m a f s t (u ∷ us) [] vs vs' x y l l' n n' h = absurd (omega arith)
agree-memory g c m a f s t (u ∷ us) (u' ∷ us') vs vs' x y l l' n n' (h, h', w, k) =
    f (at g s u).next (at g t u').next (c s u h) (c t u' h') us us' vs vs' x y (omega arith) (omega arith) n n' k

pub more-memory : (g : Rows) → Closed g → 0 < length g → (m a : ℕ)
    → WindowSame g (record { memory = m; lookahead = a }) → WindowSame g (record { memory = suc m; lookahead = a })
more-memory g c p m a w = record {
  later = λ s t i j. agree-memory g c m a w.later s t;
  early = λ i h. go i h (dec_lt i m);
}
  where
    go : (i : ℕ) → i < suc m → Dec (i < m) → AgreeSame g i a 0 0
    go i h (yes k) = w.early i k
    go i h (no k) = let e : m ≡ i = omega arith in subst (λ n. AgreeSame g n a 0 0) e (w.later 0 0 p p)

-- ---- more lookahead
same-front : (g : Rows) (a : ℕ) (s t x y : ℕ) (us us' vs vs' : List ℕ) → length us ≡ length us' → length vs ≡ suc a
    → length vs' ≡ suc a → Same g s t (us ++ x ∷ vs) (us' ++ y ∷ vs')
    → Same g s t (us ++ x ∷ take a vs) (us' ++ y ∷ take a vs')
same-front g a s t x y us us' vs vs' l n n' h =
    let e : us ++ x ∷ vs ≡ (us ++ x ∷ take a vs) ++ drop a vs =
    ap (λ r. us ++ x ∷ r) (sym (take-append-drop a vs)) ∙ sym (append_assoc us (x ∷ take a vs) (drop a vs)) in
    let e' : us' ++ y ∷ vs' ≡ (us' ++ y ∷ take a vs') ++ drop a vs' =
    ap (λ r. us' ++ y ∷ r) (sym (take-append-drop a vs'))
    ∙ sym (append_assoc us' (y ∷ take a vs') (drop a vs')) in
    let q : length (take a vs) ≡ a = length-take-le a vs (omega arith) in
    let q' : length (take a vs') ≡ a = length-take-le a vs' (omega arith) in
    (same-append g (us ++ x ∷ take a vs) (us' ++ y ∷ take a vs') (drop a vs) (drop a vs') s t
    (length-append us (x ∷ take a vs) ∙ omega arith ∙ sym (length-append us' (y ∷ take a vs')))
    (subst₂ (λ u v. Same g s t u v) e e' h)).0

agree-lookahead : (g : Rows) (m a s t : ℕ) → AgreeSame g m a s t → AgreeSame g m (suc a) s t
agree-lookahead g m a s t f us us' vs vs' x y l l' n n' h =
    f us us' (take a vs) (take a vs') x y l l' (length-take-le a vs (omega arith))
    (length-take-le a vs' (omega arith)) (same-front g a s t x y us us' vs vs' (l ∙ sym l') n n' h)

pub more-lookahead : (g : Rows) (m a : ℕ) → WindowSame g (record { memory = m; lookahead = a })
    → WindowSame g (record { memory = m; lookahead = suc a })
more-lookahead g m a w = record {
  later = λ s t i j. agree-lookahead g m a s t (w.later s t i j);
  early = λ i h. agree-lookahead g i a 0 0 (w.early i h);
}

-- ---- of the sentence on two paths
-- the same of the test
pub works-grows : (g : Rows) → Closed g → 0 < length g → (m a : ℕ)
    → T (works g (record { memory = m; lookahead = a }))
    → T (works g (record { memory = suc m; lookahead = a })) × T (works g (record { memory = m; lookahead = suc a }))
works-grows g c p m a t =
    let w = works→ g (record { memory = m; lookahead = a }) c p t in (
      →works g (record { memory = suc m; lookahead = a }) (more-memory g c p m a w),
      →works g
          (record { memory = m; lookahead = suc a }) (more-lookahead g m a w),
    )
