-- Sets of pairs in an array, as the sets of the definitions: all pairs, the start's, and none.
-- In order: all_of; start-put; empty_of.
-- Assumes nothing.
use Rattle.std.proofs.Common.{◌≡◌, ◌&&◌, ◌||◌, ◌<◌}
use Rattle.laws.proofs.All.{sym, ap, ap₂, ◌∙◌, true, not, List, ℕ, T, T_not, not_T, eqb}
use Rattle.laws.proofs.All.{ltb, lt-ltb, length, has, grid, bool_eq, all-below→, →all-below}
use Rattle.table.specs.Rows.{Rows}
use Rattle.window.specs.Works.{into, reversed, all_pairs, start_pair}
use Rattle.window.specs.Search.{empty}
use Rattle.table.specs.Marks.{some}
use Rattle.table.proofs.Marks.{found, some_at}
use Rattle.table.proofs.EqualGrids.{has-grid}
use Rattle.bitsets.specs.declared.BitSet.{BitSet}
use Rattle.bitsets.specs.BitSets.{holds, set_at}
use Rattle.window_pairs.specs.PairSets.{pairs_in, row_has}
use Rattle.window.specs.Steps.{with_word}
use Rattle.window.proofs.PastSets.{all-grid}
use Rattle.window_pairs.proofs.PairSets.{has-pairs, pairs-grid}

-- ---- all, and the start's
module _ (t : Rows) (n : ℕ) (e : length t ≡ n) where
  pub all_of : (A : List BitSet) → ((x y : ℕ) → x < n → holds (set_at A x) y ≡ ltb y n) → pairs_in n A ≡ all_pairs t
  all_of A h =
      pairs-grid n A (λ x y. true) (λ x y hx hy. h x y hx ∙ lt-ltb y n hy)
      ∙ ap (λ m. grid m m (λ x y. true)) (sym e) ∙ sym (all-grid t)

  -- the start's pair put into a set that is one word on from A
  pub start-put : (A R S : List BitSet)
      → ((x y : ℕ) → holds (set_at S x) y ≡ (holds (set_at R x) y || (eqb x 0 && eqb y 0)))
      → pairs_in n R ≡ into (reversed t) (pairs_in n A) → pairs_in n S ≡ with_word t (pairs_in n A)
  start-put A R S h q =
      pairs-grid n S (λ x y. has (into (reversed t) (pairs_in n A)) x y || has (start_pair t) x y)
      (λ x y hx hy. h x y
      ∙ ap₂ (λ a b. a || b) (sym (has-pairs n R x y hx hy) ∙ ap (λ P. has P x y) q)
      (sym (start-at x y (rw e hx) (rw e hy))))
      ∙ ap (λ k. grid k k (λ x y. has (into (reversed t) (pairs_in n A)) x y || has (start_pair t) x y)) (sym e)
    where
      start-at : (x y : ℕ) → x < length t → y < length t → has (start_pair t) x y ≡ (eqb x 0 && eqb y 0)
      start-at x y hx hy = has-grid (length t) (length t) (λ s u. eqb s 0 && eqb u 0) x y hx hy

-- ---- no pair
module _ (t : Rows) (n : ℕ) (e : length t ≡ n) (P : List BitSet) where
  empty→ : T (not (some (row_has n P) n)) → T (empty t (pairs_in n P))
  empty→ k = →all-below _ (length t) (λ s hs. →all-below _ (length t) (λ u hu.
      let ls : s < n = rw e at hs in
      let lu : u < n = rw e at hu in
      not_T (has (pairs_in n P) s u) (λ v. T_not (some (row_has n P) n) k
      (some_at (row_has n P) n s ls (some_at (holds (set_at P s)) n u lu (rw (has-pairs n P s u ls lu) at v))))))

  →empty : T (empty t (pairs_in n P)) → T (not (some (row_has n P) n))
  →empty k = not_T (some (row_has n P) n) (λ v.
      let (s, ls, w) = found (row_has n P) n v in
      let (u, lu, m) = found (holds (set_at P s)) n w in
      T_not (has (pairs_in n P) s u)
      (all-below→ _ (length t) (all-below→ _ (length t) k s (rw e ls)) u (rw e lu))
      (rw (has-pairs n P s u ls lu) m))

  pub empty_of : not (some (row_has n P) n) ≡ empty t (pairs_in n P)
  empty_of = bool_eq (not (some (row_has n P) n)) (empty t (pairs_in n P)) empty→ →empty
