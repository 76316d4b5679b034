-- Roots through all splits: every edge at the end is an edge of the component between the roots.
-- In order: Rooted, splits-rooted.
-- Assumes nothing.
use Rattle.std.proofs.Common.{◌≡◌, ◌≤◌, ◌<◌}
use Rattle.laws.proofs.All.{ℕ, suc, arith, T, eqb, ne_eqb, length, Whether, so, nay, eqb_is}
use Rattle.laws.proofs.All.{Each}
use Rattle.compile_graph.specs.Invariant.{Inv}
use Rattle.compile_graph.specs.Arcs.{Work}
use Rattle.compile_graph.specs.Splitting.{chosen, kept, split, unfinished, splits}
use Rattle.compile_graph.proofs.Split.{split-inv, split-length, split-part}
use Rattle.compile_graph.proofs.Loop.{short, splits-keep}
use Rattle.compile_graph.proofs.PartedRoots.{rooted, parted-over}

-- r gives each state its root, one of the first K states, which are their own roots; P holds of roots and word of each
-- edge
pub record Rooted (P : ℕ → ℕ → ℕ → Type 0) (K : ℕ) (x : Work) (r : ℕ → ℕ) : Type 0 where
  pub over : Each (λ e. P (r e.source) e.word (r e.target)) x.arcs
  pub base : (y : ℕ) → y < K → r y ≡ y
  pub from : (y : ℕ) → y < length x.weights → r y < K
  pub more : K ≤ length x.weights

module _ (P : ℕ → ℕ → ℕ → Type 0) (K n S : ℕ) (hn : 0 < n) where
  split-rooted : (x : Work) (r : ℕ → ℕ) → Inv n S x → T (unfinished n x) → Rooted P K x r
      → Rooted P K (split n x) (rooted (chosen x.weights x.arcs) (length x.weights) r)
  unfolding splits split
  split-rooted x r I t R =
      record {
        over = parted-over P s k (split-part n S x hn I t).state r (kept n x.weights x.arcs s) x.arcs
            I.inside R.over;
        base = λ y h. rw (ne_eqb y k (λ p. omega (arith, R.more))) (R.base y h);
        from = λ y h. go y (rw len at h) (eqb_is y k);
        more = rw len (omega (arith, R.more));
      }
    where
      s : ℕ
      s = chosen x.weights x.arcs

      k : ℕ
      k = length x.weights

      len : length (split n x).weights ≡ suc (length x.weights)
      len = split-length n S x hn I t

      go : (y : ℕ) → y < suc (length x.weights) → Whether (y ≡ length x.weights) (eqb y (length x.weights))
          → rooted (chosen x.weights x.arcs) (length x.weights) r y < K
      go y h (so p q) = rw q (R.from (chosen x.weights x.arcs) (split-part n S x hn I t).state)
      go y h (nay p q) = rw q (R.from y (omega arith))

  pub splits-rooted : (m : ℕ) (x : Work) (r : ℕ → ℕ) → Inv n S x → Rooted P K x r
      → (r' : ℕ → ℕ) × Rooted P K (splits m n x) r'
  splits-rooted m x r I R = (splits-keep (λ y. Inv n S y × ((r : ℕ → ℕ) × Rooted P K y r)) n
      (λ y q h. let t = short n y q in
      (split-inv n S y hn h.0 t, (_, split-rooted y h.1.0 h.0 t h.1.1))) m x (I, (r, R))).1
