-- One set of pairs for each memory m, followed until it is empty, gives every lookahead that works with m.
-- In order: works-by-hits.
-- Assumes nothing.
use Rattle.std.proofs.Common.{◌≡◌, ◌↔◌, ◌||◌, ◌<◌}
use Rattle.laws.proofs.All.{subst, inl, inr, false, not, ℕ, zero, suc, arith, dec_lt, T, length}
use Rattle.laws.proofs.All.{range, all, iterate, and→, →and, or→, →or_l, →or_r, imp→, →imp, all-below→, →all-below}
use Rattle.laws.proofs.All.{Pairs, has, grid→, →grid}
use Rattle.table.specs.Rows.{Rows}
use Rattle.window.specs.Works.{into, reversed, all_pairs, start_pair, clash, clear, works}
use Rattle.table.specs.Paths.{Closed}
use Rattle.window.specs.Search.{hits, empty, pasts, union, starts}
use Rattle.window.proofs.Clashes.{clear-by-hits}

-- ---- `clear` asks each pair alone
module _ (g : Rows) (F : Pairs) where
  clear→ : (P : Pairs) → T (clear g F P) → (s t : ℕ) → s < length g → t < length g → T (has P s t)
      → T (not (clash g F s t))
  clear→ P k s t hs ht p =
      imp→ (has P s t) (not (clash g F s t)) (all-below→ _ (length g) (all-below→ _ (length g) k s hs) t ht) p

  →clear : (P : Pairs) → ((s t : ℕ) → s < length g → t < length g → T (has P s t) → T (not (clash g F s t)))
      → T (clear g F P)
  →clear P f = →all-below _ (length g)
      (λ s hs. →all-below _ (length g) (λ t ht. →imp (has P s t) (not (clash g F s t)) (f s t hs ht)))

  clear-union : (P Q : Pairs) → T (clear g F (union g P Q)) ↔ (T (clear g F P) × T (clear g F Q))
  clear-union P Q = (
    (λ k. (
      →clear P (λ s t hs ht p. clear→ (union g P Q) k s t hs ht
          (→grid (length g) (length g) (λ s t. has P s t || has Q s t) s t hs ht (→or_l (has P s t) (has Q s t) p))),
      →clear Q (λ s t hs ht p. clear→ (union g P Q) k s t hs ht
          (→grid (length g) (length g) (λ s t. has P s t || has Q s t) s t hs ht
          (→or_r (has P s t) (has Q s t) p))),
    )),
    (λ (k, l). →clear (union g P Q)
        (λ s t hs ht p. elim (or→ (has P s t) (has Q s t)
        (grid→ (length g) (length g) (λ s t. has P s t || has Q s t) s t p).2) [
          | inl a ↦ clear→ P k s t hs ht a
          | inr b ↦ clear→ Q l s t hs ht b
        ])),
  )

  clear-starts : (m : ℕ) → T (clear g F (starts g m)) → (i : ℕ) → i < m
      → T (clear g F (iterate (into (reversed g)) i (start_pair g)))
  clear-starts zero k i h = absurd (omega arith)
  clear-starts (suc m) k i h =
      let (a, b) = (clear-union (starts g m) (iterate (into (reversed g)) m (start_pair g))).0 k in
      go (dec_lt i m) (λ l. clear-starts m a i l) b
    where
      go : Dec (i < m) → (i < m → T (clear g F (iterate (into (reversed g)) i (start_pair g))))
          → T (clear g F (iterate (into (reversed g)) m (start_pair g)))
          → T (clear g F (iterate (into (reversed g)) i (start_pair g)))
      go (yes l) f b = f l
      go (no l) f b = let e : m ≡ i = omega arith in
          subst (λ n. T (clear g F (iterate (into (reversed g)) n (start_pair g)))) e b

  starts-clear : (m : ℕ) → ((i : ℕ) → i < m → T (clear g F (iterate (into (reversed g)) i (start_pair g))))
      → T (clear g F (starts g m))
  starts-clear zero f =
      →clear (starts g zero) (λ s t hs ht p. absurd (grid→ (length g) (length g) (λ s t. false) s t p).2)
  starts-clear (suc m) f =
      (clear-union (starts g m) (iterate (into (reversed g)) m (start_pair g))).1
      (starts-clear m (λ i h. f i (omega arith)), f m (omega arith))

-- the least lookahead for a memory, by following one set
pub works-by-hits : (g : Rows) → Closed g → (m a : ℕ)
    → T (works g (record { memory = m; lookahead = a })) ↔ T
    (empty g (iterate (into (reversed g)) a (hits g (pasts g m))))
unfolding works
works-by-hits g c m a =
    let F = iterate (into g) a (all_pairs g) in
    let P = iterate (into (reversed g)) m (all_pairs g) in
    let E = all (λ i. clear g F (iterate (into (reversed g)) i (start_pair g))) (range m) in (
      (λ k. let (k₁, k₂) = and→ (clear g F P) E k in
          (clear-by-hits g c (pasts g m) a).0
          ((clear-union g F P (starts g m)).1 (k₁, starts-clear g F m (all-below→ _ m k₂)))),
      (λ k. let (k₁, k₂) = (clear-union g F P (starts g m)).0 ((clear-by-hits g c (pasts g m) a).1 k) in
          →and (clear g F P) E k₁ (→all-below _ m (clear-starts g F m k₂))),
    )
