-- The other way round: where no two paths disagree, the test `works` passes.
-- In order: same-join; Step, into→, AheadSame, ahead-same, words ahead; reversed→, Back, back_one, past_same, words
-- before; no-clash, →clear, start_is, →works.
-- Assumes nothing.
use Rattle.std.proofs.Common.{◌≡◌, ◌&&◌, ◌∷◌, ◌++◌, ◌<◌}
use Rattle.laws.proofs.All.{refl, sym, ap, subst, subst₂, ◌∙◌, Bool, false, not, List, []}
use Rattle.laws.proofs.All.{map, ℕ, zero, suc, T, T_not, not_T, eqb, eqb→eq, eqb_refl, length, get_or, range}
use Rattle.laws.proofs.All.{any, all, iterate, and→, →and, →imp, any→, any-below→, →all-below, map-range-at, Pairs}
use Rattle.laws.proofs.All.{has, iterate-suc}
use Rattle.table.specs.Rows.{Edge, edge, Rows, edges, at, Size}
use Rattle.window.specs.Works.{into, reversed, all_pairs, start_pair, clash, clear, works}
use Rattle.window.proofs.Same.{any-reversed, has-into, Same, AgreeSame, WindowSame}
use Rattle.table.specs.Paths.{ends}

same-join : (g : Rows) (us us' vs vs' : List ℕ) (s t : ℕ) → Same g s t us us'
    → Same g (ends g s us) (ends g t us') vs vs' → Same g s t (us ++ vs) (us' ++ vs')
same-join g [] [] vs vs' s t h k = k
same-join g [] (y ∷ us') vs vs' s t h k = absurd h
same-join g (x ∷ us) [] vs vs' s t h k = absurd h
same-join g (x ∷ us) (y ∷ us') vs vs' s t (a, b, w, h) k =
    (a, b, w, same-join g us us' vs vs' (at g s x).next (at g t y).next h k)

-- ---- ahead
pub record Step (g : Rows) (P : Pairs) (s t : ℕ) : Type 0 where
  pub x : ℕ
  pub y : ℕ
  pub hx : x < length (edges g s)
  pub hy : y < length (edges g t)
  pub word : (at g s x).word ≡ (at g t y).word
  pub inside : T (has P (at g s x).next (at g t y).next)

into→ : (g : Rows) (P : Pairs) (s t : ℕ) → T (has (into g P) s t) → Step g P s t
into→ g P s t h = go (any→ (λ e. any (λ f. eqb e.word f.word && has P e.next f.next) (edges g t))
    (edge 0 0) (edges g s) (rw has-into at h))
  where
    go : (x : ℕ) × (x < length (edges g s))
        × T (any (λ f. eqb (at g s x).word f.word && has P (at g s x).next f.next) (edges g t)) → Step g P s t
    go (x, a, u) =
        let (y, b, v) = any→ (λ f. eqb (at g s x).word f.word && has P (at g s x).next f.next) (edge 0 0)
        (edges g t) u in
        let (w, p) = and→ (eqb (at g s x).word (at g t y).word) (has P (at g s x).next (at g t y).next) v in
        record { x = x; y = y; hx = a; hy = b; word = eqb→eq (at g s x).word (at g t y).word w; inside = p }

abbrev pub AheadSame : Rows → ℕ → ℕ → ℕ → Type 0
AheadSame g a s t = (vs : List ℕ) × (vs' : List ℕ) × (length vs ≡ a) × (length vs' ≡ a) × Same g s t vs vs'

pub ahead-same : (g : Rows) (a s t : ℕ) → T (has (iterate (into g) a (all_pairs g)) s t) → AheadSame g a s t
ahead-same g zero s t h = ([], [], refl, refl, tt)
ahead-same g (suc a) s t h =
    let e : Step g (iterate (into g) a (all_pairs g)) s t =
    into→ g (iterate (into g) a (all_pairs g)) s t (rw (iterate-suc (into g) a (all_pairs g)) at h) in
    let (vs, vs', l, l', k) = ahead-same g a (at g s e.x).next (at g t e.y).next e.inside in
    (e.x ∷ vs, e.y ∷ vs', ap suc l, ap suc l', (e.hx, e.hy, e.word, k))

-- ---- the past
reversed→ : (p : Edge → Bool) (g : Rows) (t : ℕ) → t < length g → T (any p (edges (reversed g) t))
    → (s : ℕ) × (x : ℕ) × (s < length g) × (x < length (edges g s)) × ((at g s x).next ≡ t)
    × T (p (edge (at g s x).word s))
reversed→ p g t h u = go (any-below→ _ (length g) (rw (any-reversed p g t h) at u))
  where
    go : (s : ℕ) × (s < length g) × T (any (λ e. eqb e.next t && p (edge e.word s)) (edges g s))
        → (s : ℕ) × (x : ℕ) × (s < length g) × (x < length (edges g s)) × ((at g s x).next ≡ t)
        × T (p (edge (at g s x).word s))
    go (s, i, v) =
        let (x, a, w) = any→ (λ e. eqb e.next t && p (edge e.word s)) (edge 0 0) (edges g s) v in
        let (b, c) = and→ (eqb (at g s x).next t) (p (edge (at g s x).word s)) w in
        (s, x, i, a, eqb→eq (at g s x).next t b, c)

pub record Back (g : Rows) (Q : Pairs) (k s t : ℕ) : Type 0 where
  pub s₀ : ℕ
  pub t₀ : ℕ
  pub us : List ℕ
  pub us' : List ℕ
  pub hs : s₀ < length g
  pub ht : t₀ < length g
  pub len : length us ≡ k
  pub len' : length us' ≡ k
  pub inside : T (has Q s₀ t₀)
  pub same : Same g s₀ t₀ us us'
  pub stop : ends g s₀ us ≡ s
  pub stop' : ends g t₀ us' ≡ t

pub back_one : (g : Rows) (Q : Pairs) (s t : ℕ) → s < length g → t < length g → T (has (into (reversed g) Q) s t)
    → (s₀ : ℕ) × (t₀ : ℕ) × (x : ℕ) × (y : ℕ) × (s₀ < length g) × (t₀ < length g) × T (has Q s₀ t₀)
    × (x < length (edges g s₀)) × (y < length (edges g t₀)) × ((at g s₀ x).word ≡ (at g t₀ y).word)
    × ((at g s₀ x).next ≡ s) × ((at g t₀ y).next ≡ t)
back_one g Q s t i j h =
    let (s₀, x, i₀, a, e, u) =
    reversed→ (λ e. any (λ f. eqb e.word f.word && has Q e.next f.next) (edges (reversed g) t)) g s i
    (rw has-into at h) in
    let (t₀, y, j₀, b, e', v) = reversed→ (λ f. eqb (at g s₀ x).word f.word && has Q s₀ f.next) g t j u in
    let (w, q) = and→ (eqb (at g s₀ x).word (at g t₀ y).word) (has Q s₀ t₀) v in
    (s₀, t₀, x, y, i₀, j₀, q, a, b, eqb→eq (at g s₀ x).word (at g t₀ y).word w, e, e')

pub past_same : (g : Rows) (k : ℕ) (Q : Pairs) (s t : ℕ) → s < length g → t < length g
    → T (has (iterate (into (reversed g)) k Q) s t) → Back g Q k s t
past_same g zero Q s t i j h =
    record {
      s₀ = s;
      t₀ = t;
      us = [];
      us' = [];
      hs = i;
      ht = j;
      len = refl;
      len' = refl;
      inside = h;
      same = tt;
      stop =
          refl;
      stop' = refl;
    }
past_same g (suc k) Q s t i j h =
    let b : Back g (into (reversed g) Q) k s t = past_same g k (into (reversed g) Q) s t i j h in
    let (s₀, t₀, x, y, i₀, j₀, q, a, a', w, e, e') = back_one g Q b.s₀ b.t₀ b.hs b.ht b.inside in
    record {
      s₀ = s₀;
      t₀ = t₀;
      us = x ∷ b.us;
      us' = y ∷ b.us';
      hs = i₀;
      ht = j₀;
      len = ap suc b.len;
      len' =
          ap suc b.len';
      inside = q;
      same = (a, a', w, subst₂ (λ u v. Same g u v b.us b.us') (sym e) (sym e') b.same);
      stop = rw e b.stop;
      stop' = rw e' b.stop';
    }

no-clash : (g : Rows) (m a : ℕ) (Q : Pairs)
    → ((s t : ℕ) → s < length g → t < length g → T (has Q s t) → AgreeSame g m a s t)
    → (s t : ℕ) → s < length g → t < length g → T (has (iterate (into (reversed g)) m Q) s t)
    → T (clash g (iterate (into g) a (all_pairs g)) s t) → ⊥
no-clash g m a Q agree s t i j p c = outer (any-below→ _ (length (edges g s)) c)
  where
    F : Pairs
    F = iterate (into g) a (all_pairs g)

    b : Back g Q m s t
    b = past_same g m Q s t i j p

    bad : (x y : ℕ) → x < length (edges g s) → y < length (edges g t) → T (not (eqb x y))
        → (at g s x).word ≡ (at g t y).word → AheadSame g a (at g s x).next (at g t y).next → ⊥
    bad x y hx hy ne w (vs, vs', l, l', k) =
        let e : x ≡ y = agree b.s₀ b.t₀ b.hs b.ht b.inside b.us b.us' vs vs' x y b.len
        b.len' l l'
        (same-join g b.us b.us' (x ∷ vs) (y ∷ vs') b.s₀ b.t₀ b.same
        (subst₂ (λ u v. Same g u v (x ∷ vs) (y ∷ vs')) (sym b.stop) (sym b.stop') (hx, hy, w, k)))
        in
        T_not (eqb x y) ne (subst (λ z. T (eqb x z)) e (eqb_refl x))

    test : ℕ → ℕ → Bool
    test x y = eqb (at g s x).word (at g t y).word && has F (at g s x).next (at g t y).next

    inner : (x : ℕ) → x < length (edges g s) → (y : ℕ) × (y < length (edges g t)) × T (not (eqb x y) && test x y) → ⊥
    inner x hx (y, hy, v) =
        let (ne, r) = and→ (not (eqb x y)) (test x y) v in
        let (w, f) = and→ (eqb (at g s x).word (at g t y).word) (has F (at g s x).next (at g t y).next) r in
        bad x y hx hy ne (eqb→eq (at g s x).word (at g t y).word w)
        (ahead-same g a (at g s x).next (at g t y).next f)

    outer : (x : ℕ) × (x < length (edges g s)) × T (any (λ y. not (eqb x y) && test x y) (range (length (edges g t))))
        → ⊥
    outer (x, hx, u) = inner x hx (any-below→ _ (length (edges g t)) u)

→clear : (g : Rows) (m a : ℕ) (Q : Pairs)
    → ((s t : ℕ) → s < length g → t < length g → T (has Q s t) → AgreeSame g m a s t)
    → T (clear g (iterate (into g) a (all_pairs g)) (iterate (into (reversed g)) m Q))
→clear g m a Q agree =
    →all-below _ (length g) (λ s i. →all-below _ (length g) (λ t j.
    →imp (has (iterate (into (reversed g)) m Q) s t) (not (clash g (iterate (into g) a (all_pairs g)) s t))
    (λ p. not_T (clash g (iterate (into g) a (all_pairs g)) s t) (no-clash g m a Q agree s t i j p))))

-- the start pair holds 0 and 0 alone
start_is : (g : Rows) (s t : ℕ) → s < length g → t < length g → T (has (start_pair g) s t) → (s ≡ 0) × (t ≡ 0)
start_is g s t i j h =
    let e : has (start_pair g) s t ≡ (eqb s 0 && eqb t 0) =
    ap (λ r. get_or r t false)
    (map-range-at (λ s. map (λ t. eqb s 0 && eqb t 0) (range (length g))) (length g) s [] i)
    ∙ map-range-at (λ t. eqb s 0 && eqb t 0) (length g) t false j in
    let (a, b) = and→ (eqb s 0) (eqb t 0) (rw e at h) in
    (eqb→eq s 0 a, eqb→eq t 0 b)

pub →works : (g : Rows) (z : Size) → WindowSame g z → T (works g z)
unfolding works
→works g z k =
    let F = iterate (into g) z.lookahead (all_pairs g) in
    →and (clear g F (iterate (into (reversed g)) z.memory (all_pairs g)))
    (all (λ i. clear g F (iterate (into (reversed g)) i (start_pair g))) (range z.memory))
    (→clear g z.memory z.lookahead (all_pairs g) (λ s t i j p. k.later s t i j))
    (→all-below _ z.memory
    (λ i h. →clear g i z.lookahead (start_pair g)
    (λ s t a b p. let (e, e') = start_is g s t a b p in rw (e, e') (k.early i h))))
