-- Two paths with equal words, step by step, and where the sets of pairs lead them.
-- In order: has-into, any-reversed; Same, same-append, two paths with equal words; has_all, same_ahead, ahead;
-- onward, same-past, the past; clear_at; AgreeSame, WindowSame, end_lt, works→, the window.
-- Assumes nothing.
use Rattle.std.proofs.Common.{◌≡◌, ◌&&◌, ◌∷◌, ◌++◌, ◌<◌}
use Rattle.laws.proofs.All.{refl, sym, ap, subst, ◌∙◌, Bool, true, false, not, List, [], map}
use Rattle.laws.proofs.All.{ℕ, zero, suc, not-suc-le-zero, arith, T, T_not, eqb, eqb→eq, eqb_refl, length}
use Rattle.laws.proofs.All.{get_or, get_or-map, range, any, all, iterate, and→, →and, imp→, →any, all-below→}
use Rattle.laws.proofs.All.{→any-below, get_or-map-lt, map-range-at, Pairs, has, any-concat, any_none, any-map}
use Rattle.laws.proofs.All.{any-filter, iterate-suc}
use Rattle.table.specs.Rows.{Edge, edge, Rows, edges, at, Size}
use Rattle.window.specs.Works.{meet, into, entering, reversed, all_pairs, start_pair, clash, clear, works}
use Rattle.table.specs.Paths.{Closed, ends}

-- ---- `any` over the lists that `map`, `filter` and `concat` make

-- ---- a pair of a set that `map` makes
module _ (Q : List Edge → List Edge → Bool) (zl : (fs : List Edge) → Q [] fs ≡ false)
    (zr : (es : List Edge) → Q es [] ≡ false) where
  has-map : (g h : Rows) (s t : ℕ) → has (map (λ es. map (λ fs. Q es fs) g) h) s t ≡ Q (edges h s) (edges g t)
  has-map g [] s t = sym (zl (edges g t))
  has-map g (es ∷ h) zero t =
      subst (λ d. get_or (map (Q es) g) t d ≡ Q es (edges g t)) (zr es) (get_or-map (Q es) g t [])
  has-map g (es ∷ h) (suc s) t = has-map g h s t

pub has-into : (g : Rows) (P : Pairs) (s t : ℕ) → has (into g P) s t ≡ meet P (edges g s) (edges g t)
has-into g P s t = has-map (meet P) (λ fs. refl) (λ es. any_none es) g g s t

-- the edges turned round: those into t
pub any-reversed : (p : Edge → Bool) (g : Rows) (t : ℕ) → t < length g
    → any p (edges (reversed g) t) ≡ any (λ s. any (λ e. eqb e.next t && p (edge e.word s)) (edges g s))
    (range (length g))
any-reversed p g t h =
    ap (any p) (map-range-at (entering g) (length g) t [] h) ∙ simp (any-concat, any-map, any-filter)

-- ---- two paths with equal words
-- from s by the data xs, and from t by ys: all edges are there, and the words agree
abbrev pub Same : Rows → ℕ → ℕ → List ℕ → List ℕ → Type 0
Same g s t [] [] = Unit {0}
Same g s t [] (y ∷ ys) = ⊥
Same g s t (x ∷ xs) [] = ⊥
Same g s t (x ∷ xs) (y ∷ ys) =
    (x < length (edges g s)) × (y < length (edges g t)) × ((at g s x).word ≡ (at g t y).word)
    × Same g (at g s x).next (at g t y).next xs ys

pub same-append : (g : Rows) (us us' vs vs' : List ℕ) (s t : ℕ) → length us ≡ length us'
    → Same g s t (us ++ vs) (us' ++ vs')
    → Same g s t us us' × Same g (ends g s us) (ends g t us') vs vs'
same-append g [] [] vs vs' s t l h = (tt, h)
same-append g [] (y ∷ us') vs vs' s t l h = absurd (omega arith)
same-append g (x ∷ us) [] vs vs' s t l h = absurd (omega arith)
same-append g (x ∷ us) (y ∷ us') vs vs' s t l (a, b, c, h) =
    let (k, m) = same-append g us us' vs vs' (at g s x).next (at g t y).next (omega arith) h in
    ((a, b, c, k), m)

-- ---- ahead: what two equal readings lead through

into-intro : (g : Rows) (P : Pairs) (s t x y : ℕ) → x < length (edges g s) → y < length (edges g t)
    → (at g s x).word ≡ (at g t y).word
    → T (has P (at g s x).next (at g t y).next) → T (has (into g P) s t)
into-intro g P s t x y a b w h =
    rw has-into (→any _ (edge 0 0) (edges g s) x a (→any _ (edge 0 0) (edges g t) y b
    (→and (eqb (at g s x).word (at g t y).word) (has P (at g s x).next (at g t y).next)
    (rw w (eqb_refl (at g t y).word)) h)))

pub has_all : (g : Rows) (s t : ℕ) → s < length g → t < length g → T (has (all_pairs g) s t)
has_all g s t i j = subst T
    (sym (ap (λ r. get_or r t false) (get_or-map-lt (λ es. map (λ fs. true) g) g s [] [] i)
    ∙ get_or-map-lt (λ fs. true) g t [] false j)) tt

pub same_ahead : (g : Rows) → Closed g → (xs ys : List ℕ) (s t : ℕ) → s < length g → t < length g → Same g s t xs ys
    → T (has (iterate (into g) (length xs) (all_pairs g)) s t)
same_ahead g c [] [] s t i j h = has_all g s t i j
same_ahead g c [] (y ∷ ys) s t i j h = absurd h
same_ahead g c (x ∷ xs) [] s t i j h = absurd h
same_ahead g c (x ∷ xs) (y ∷ ys) s t i j (a, b, w, h) =
    let ih = same_ahead g c xs ys (at g s x).next (at g t y).next (c s x a) (c t y b) h in
    rw (iterate-suc (into g) (length xs) (all_pairs g))
    (into-intro g (iterate (into g) (length xs) (all_pairs g)) s t x y a b w ih)

-- ---- the past: where two equal readings lead
reversed-intro : (p : Edge → Bool) (g : Rows) (s x : ℕ) → Closed g → s < length g → x < length (edges g s)
    → T (p (edge (at g s x).word s)) → T (any p (edges (reversed g) (at g s x).next))
reversed-intro p g s x c i a h =
    rw (any-reversed p g (at g s x).next (c s x a)) (→any-below _ (length g) s i (→any _ (edge 0 0) (edges g s) x a
    (→and (eqb (at g s x).next (at g s x).next) (p (edge (at g s x).word s)) (eqb_refl (at g s x).next) h)))

pub onward : (g : Rows) (Q : Pairs) (s t x y : ℕ) → Closed g → s < length g → t < length g → x < length (edges g s)
    → y < length (edges g t) → (at g s x).word ≡ (at g t y).word
    → T (has Q s t) → T (has (into (reversed g) Q) (at g s x).next (at g t y).next)
onward g Q s t x y c i j a b w h =
    rw has-into (reversed-intro _ g s x c i a (reversed-intro _ g t y c j b
    (→and (eqb (at g s x).word (at g t y).word) (has Q s t) (rw w (eqb_refl (at g t y).word)) h)))

pub same-past : (g : Rows) → Closed g → (Q : Pairs) (xs ys : List ℕ) (s t : ℕ) → s < length g → t < length g
    → Same g s t xs ys → T (has Q s t)
    → T (has (iterate (into (reversed g)) (length xs) Q) (ends g s xs) (ends g t ys))
same-past g c Q [] [] s t i j h q = q
same-past g c Q [] (y ∷ ys) s t i j h q = absurd h
same-past g c Q (x ∷ xs) [] s t i j h q = absurd h
same-past g c Q (x ∷ xs) (y ∷ ys) s t i j (a, b, w, h) q =
    same-past g c (into (reversed g) Q) xs ys (at g s x).next (at g t y).next (c s x a) (c t y b) h
    (onward g Q s t x y c i j a b w q)

-- ---- no clash
pub clear_at : (g : Rows) (F P : Pairs) → T (clear g F P) → (s t x y : ℕ) → s < length g → t < length g
    → x < length (edges g s) → y < length (edges g t)
    → T (has P s t) → (at g s x).word ≡ (at g t y).word → T (has F (at g s x).next (at g t y).next) → x ≡ y
clear_at g F P k s t x y i j a b p w f = go (eqb x y) refl
  where
    no-clash : T (not (clash g F s t))
    no-clash = imp→ (has P s t) (not (clash g F s t)) (all-below→ _ (length g) (all-below→ _ (length g) k s i) t j) p

    go : (q : Bool) → eqb x y ≡ q → x ≡ y
    go true e = eqb→eq x y (rw e tt)
    go false e = absurd (T_not (clash g F s t) no-clash
        (→any-below _ (length (edges g s)) x a (→any-below _ (length (edges g t)) y b
        (→and (not (eqb x y)) (eqb (at g s x).word (at g t y).word && has F (at g s x).next (at g t y).next)
        (rw e tt)
        (→and (eqb (at g s x).word (at g t y).word) (has F (at g s x).next (at g t y).next)
        (rw w (eqb_refl (at g t y).word)) f)))))

-- ---- the window
-- two paths from s and t that agree in m words, in one more and in a more carry the same data on that one
abbrev pub AgreeSame : Rows → ℕ → ℕ → ℕ → ℕ → Type 0
AgreeSame g m a s t =
    (us us' vs vs' : List ℕ) (x y : ℕ) → length us ≡ m → length us' ≡ m → length vs ≡ a → length vs' ≡ a
    → Same g s t (us ++ x ∷ vs) (us' ++ y ∷ vs') → x ≡ y

pub record WindowSame (g : Rows) (z : Size) : Type 0 where
  pub later : (s t : ℕ) → s < length g → t < length g → AgreeSame g z.memory z.lookahead s t
  pub early : (i : ℕ) → i < z.memory → AgreeSame g i z.lookahead 0 0

pub end_lt : (g : Rows) → Closed g → (xs ys : List ℕ) (s t : ℕ) → s < length g → t < length g → Same g s t xs ys
    → (ends g s xs < length g) × (ends g t ys < length g)
end_lt g c [] [] s t i j h = (i, j)
end_lt g c [] (y ∷ ys) s t i j h = absurd h
end_lt g c (x ∷ xs) [] s t i j h = absurd h
end_lt g c (x ∷ xs) (y ∷ ys) s t i j (a, b, w, h) =
    end_lt g c xs ys (at g s x).next (at g t y).next (c s x a) (c t y b) h

agree : (g : Rows) → Closed g → (m a : ℕ) (Q : Pairs)
    → T (clear g (iterate (into g) a (all_pairs g)) (iterate (into (reversed g)) m Q))
    → (s t : ℕ) → s < length g → t < length g → T (has Q s t) → AgreeSame g m a s t
agree g c m a Q k s t i j q us us' vs vs' x y l l' n n' h =
    go (same-append g us us' (x ∷ vs) (y ∷ vs') s t (l ∙ sym l') h)
  where
    go : Same g s t us us' × Same g (ends g s us) (ends g t us') (x ∷ vs) (y ∷ vs') → x ≡ y
    go (h₁, (a', b', w, h₂)) =
        let e = end_lt g c us us' s t i j h₁ in
        let s' = ends g s us in
        let t' = ends g t us' in
        clear_at g (iterate (into g) a (all_pairs g)) (iterate (into (reversed g)) m Q) k s' t' x y e.0 e.1 a' b'
        (subst (λ n. T (has (iterate (into (reversed g)) n Q) s' t')) l (same-past g c Q us us' s t i j h₁ q)) w
        (subst (λ n. T (has (iterate (into g) n (all_pairs g)) (at g s' x).next (at g t' y).next)) n
        (same_ahead g c vs vs' (at g s' x).next (at g t' y).next (c s' x a') (c t' y b') h₂))

has-start : (g : Rows) → 0 < length g → T (has (start_pair g) 0 0)
has-start [] h = absurd (not-suc-le-zero h)
has-start (es ∷ g) h = tt

pub works→ : (g : Rows) (z : Size) → Closed g → 0 < length g → T (works g z) → WindowSame g z
unfolding works
works→ g z c p k =
    let F = iterate (into g) z.lookahead (all_pairs g) in
    let (k₁, k₂) = and→ (clear g F (iterate (into (reversed g)) z.memory (all_pairs g)))
    (all (λ i. clear g F (iterate (into (reversed g)) i (start_pair g))) (range z.memory)) k in
    record {
      later = λ s t i j. agree g c z.memory z.lookahead (all_pairs g) k₁ s t i j (has_all g s t i j);
      early = λ i h. agree g c i z.lookahead (start_pair g) (all-below→ _ z.memory k₂ i h) 0 0 p p
          (has-start g p);
    }
