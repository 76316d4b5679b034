-- The search's own way to the test `clear`: follow the pairs that a clash leads to; after a steps none is left exactly
-- when lookahead a is enough.
-- In order: Hit, hits→, →hits, the pairs that a clash leads to; clear-empty, empty-clear, each way; clear-by-hits.
-- Assumes nothing.
use Rattle.std.proofs.Common.{◌≡◌, ◌↔◌, ◌&&◌, ◌<◌}
use Rattle.laws.proofs.All.{sym, subst, subst₂, not, List, ℕ, T, T_not, not_T, eqb, eqb→eq}
use Rattle.laws.proofs.All.{eqb_refl, length, range, any, iterate, and→, →and, →imp, any-below→, →any-below}
use Rattle.laws.proofs.All.{all-below→, →all-below, Pairs, has, grid→, →grid}
use Rattle.table.specs.Rows.{Rows, edges, at}
use Rattle.window.specs.Works.{into, reversed, all_pairs, clash, clear}
use Rattle.window.proofs.Same.{Same, same_ahead, same-past, clear_at, end_lt}
use Rattle.table.specs.Paths.{ends, Closed}
use Rattle.window.proofs.Complete.{Back, ahead-same, past_same}
use Rattle.window.specs.Search.{hit_from, hit, hits, empty}

pub record Hit (g : Rows) (P : Pairs) (u v : ℕ) : Type 0 where
  pub s : ℕ
  pub t : ℕ
  pub x : ℕ
  pub y : ℕ
  pub hs : s < length g
  pub ht : t < length g
  pub hx : x < length (edges g s)
  pub hy : y < length (edges g t)
  pub inside : T (has P s t)
  pub apart : T (not (eqb x y))
  pub word : (at g s x).word ≡ (at g t y).word
  pub next : (at g s x).next ≡ u
  pub next' : (at g t y).next ≡ v

pub hits→ : (g : Rows) (P : Pairs) (u v : ℕ) → T (has (hits g P) u v) → Hit g P u v
hits→ g P u v k =
    let (s, hs, k₁) = any-below→ (λ s. any (λ t. has P s t && hit_from g u v s t) (range (length g))) (length g)
    (grid→ (length g) (length g)
    (λ u v. any (λ s. any (λ t. has P s t && hit_from g u v s t) (range (length g))) (range (length g))) u v
    k).2 in
    let (t, ht, k₂) = any-below→ (λ t. has P s t && hit_from g u v s t) (length g) k₁ in
    let (i, k₃) = and→ (has P s t) (hit_from g u v s t) k₂ in
    let (x, hx, k₄) = any-below→ (λ x. any (λ y. hit g u v s t x y) (range (length (edges g t))))
    (length (edges g s)) k₃ in
    let (y, hy, k₅) = any-below→ (λ y. hit g u v s t x y) (length (edges g t)) k₄ in
    let (n, k₆) = and→ (not (eqb x y))
    (eqb (at g s x).word (at g t y).word && (eqb (at g s x).next u && eqb (at g t y).next v)) k₅ in
    let (w, k₇) = and→ (eqb (at g s x).word (at g t y).word)
    (eqb (at g s x).next u && eqb (at g t y).next v) k₆ in
    let (a, b) = and→ (eqb (at g s x).next u) (eqb (at g t y).next v) k₇ in
    record {
      s = s;
      t = t;
      x = x;
      y = y;
      hs = hs;
      ht = ht;
      hx = hx;
      hy = hy;
      inside = i;
      apart = n;
      word = eqb→eq (at g s x).word (at g t y).word w;
      next = eqb→eq (at g s x).next u a;
      next' =
          eqb→eq (at g t y).next v b;
    }

pub →hits : (g : Rows) → Closed g → (P : Pairs) (s t x y : ℕ) → s < length g → t < length g → x < length (edges g s)
    → y < length (edges g t) → T (has P s t) → T (not (eqb x y)) → (at g s x).word ≡ (at g t y).word
    → T (has (hits g P) (at g s x).next (at g t y).next)
→hits g c P s t x y hs ht hx hy i n w =
    let u = (at g s x).next in
    let v = (at g t y).next in
    →grid (length g) (length g)
    (λ u v. any (λ s. any (λ t. has P s t && hit_from g u v s t) (range (length g))) (range (length g))) u v
    (c s x hx) (c t y hy)
    (→any-below (λ s. any (λ t. has P s t && hit_from g u v s t) (range (length g))) (length g) s hs
    (→any-below (λ t. has P s t && hit_from g u v s t) (length g) t ht
    (→and (has P s t) (hit_from g u v s t) i
    (→any-below (λ x. any (λ y. hit g u v s t x y) (range (length (edges g t)))) (length (edges g s)) x hx
    (→any-below (λ y. hit g u v s t x y) (length (edges g t)) y hy
    (→and (not (eqb x y)) (eqb (at g s x).word (at g t y).word && (eqb u u && eqb v v)) n
    (→and (eqb (at g s x).word (at g t y).word) (eqb u u && eqb v v) (rw w (eqb_refl (at g t y).word))
    (→and (eqb u u) (eqb v v) (eqb_refl u) (eqb_refl v)))))))))

-- ---- what is left is empty: no clash
clear-empty : (g : Rows) → Closed g → (P : Pairs) (a : ℕ) → T (clear g (iterate (into g) a (all_pairs g)) P)
    → T (empty g (iterate (into (reversed g)) a (hits g P)))
clear-empty g c P a k =
    →all-below _ (length g)
    (λ u hu. →all-below _ (length g)
    (λ v hv. not_T (has (iterate (into (reversed g)) a (hits g P)) u v)
    (λ m. go u v (past_same g a (hits g P) u v hu hv m))))
  where
    go : (u v : ℕ) → Back g (hits g P) a u v → ⊥
    go u v b =
        let e : Hit g P b.s₀ b.t₀ = hits→ g P b.s₀ b.t₀ b.inside in
        let f : T (has (iterate (into g) a (all_pairs g)) b.s₀ b.t₀) =
        subst (λ n. T (has (iterate (into g) n (all_pairs g)) b.s₀ b.t₀)) b.len
        (same_ahead g c b.us b.us' b.s₀ b.t₀ b.hs b.ht b.same) in
        let q : e.x ≡ e.y =
        clear_at g (iterate (into g) a (all_pairs g)) P k e.s e.t e.x e.y e.hs e.ht e.hx
        e.hy e.inside e.word
        (subst₂ (λ i j. T (has (iterate (into g) a (all_pairs g)) i j)) (sym e.next) (sym e.next') f) in
        T_not (eqb e.x e.y) e.apart (subst (λ z. T (eqb e.x z)) q (eqb_refl e.x))

-- ---- no clash: nothing is left
empty-clear : (g : Rows) → Closed g → (P : Pairs) (a : ℕ) → T (empty g (iterate (into (reversed g)) a (hits g P)))
    → T (clear g (iterate (into g) a (all_pairs g)) P)
empty-clear g c P a k =
    →all-below _ (length g)
    (λ s hs. →all-below _ (length g)
    (λ t ht. →imp (has P s t) (not (clash g (iterate (into g) a (all_pairs g)) s t))
    (λ p. not_T (clash g (iterate (into g) a (all_pairs g)) s t) (λ z. go s t hs ht p z))))
  where
    F : Pairs
    F = iterate (into g) a (all_pairs g)

    bad : (s t x y : ℕ) → s < length g → t < length g → T (has P s t) → x < length (edges g s)
        → y < length (edges g t) → T (not (eqb x y)) → (at g s x).word ≡ (at g t y).word
        → (vs : List ℕ) × (vs' : List ℕ) × (length vs ≡ a) × (length vs' ≡ a)
        × Same g (at g s x).next (at g t y).next vs vs' → ⊥
    bad s t x y hs ht p hx hy n w (vs, vs', l, l', h) =
        let u = (at g s x).next in
        let v = (at g t y).next in
        let e = end_lt g c vs vs' u v (c s x hx) (c t y hy) h in
        let m : T (has (iterate (into (reversed g)) a (hits g P)) (ends g u vs) (ends g v vs')) =
        subst (λ n. T (has (iterate (into (reversed g)) n (hits g P)) (ends g u vs) (ends g v vs'))) l
        (same-past g c (hits g P) vs vs' u v (c s x hx) (c t y hy) h (→hits g c P s t x y hs ht hx hy p n w))
        in
        T_not (has (iterate (into (reversed g)) a (hits g P)) (ends g u vs) (ends g v vs'))
        (all-below→ _ (length g) (all-below→ _ (length g) k (ends g u vs) e.0) (ends g v vs') e.1) m

    go : (s t : ℕ) → s < length g → t < length g → T (has P s t) → T (clash g F s t) → ⊥
    go s t hs ht p z =
        let (x, hx, z₁) = any-below→ _ (length (edges g s)) z in
        let (y, hy, z₂) = any-below→ _ (length (edges g t)) z₁ in
        let (n, z₃) = and→ (not (eqb x y))
        (eqb (at g s x).word (at g t y).word && has F (at g s x).next (at g t y).next) z₂ in
        let (w, f) = and→ (eqb (at g s x).word (at g t y).word) (has F (at g s x).next (at g t y).next) z₃ in
        bad s t x y hs ht p hx hy n (eqb→eq (at g s x).word (at g t y).word w)
        (ahead-same g a (at g s x).next (at g t y).next f)

-- the two tests are one
pub clear-by-hits : (g : Rows) → Closed g → (P : Pairs) (a : ℕ)
    → T (clear g (iterate (into g) a (all_pairs g)) P) ↔ T (empty g (iterate (into (reversed g)) a (hits g P)))
clear-by-hits g c P a = (clear-empty g c P a, empty-clear g c P a)
