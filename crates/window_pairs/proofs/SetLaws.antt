-- Laws of the sets of pairs that the code makes, copies and tests.
-- In order: copied; replaced; row-meets; some-swap.
-- Assumes nothing.
use Rattle.std.proofs.Common.{take, ◌≡◌, ◌≤◌}
use Rattle.laws.proofs.All.{refl, sym, ap, subst, ◌∙◌, Bool, List, ℕ}
use Rattle.laws.proofs.All.{arith, T, ltb, ltb→lt, lt→ltb}
use Rattle.laws.proofs.All.{get_or-take, bool_eq}
use Rattle.table.specs.Marks.{some}
use Rattle.table.proofs.Marks.{found, some_at}
use Rattle.bitsets.specs.declared.BitSet.{BitSet}
use Rattle.bitsets.specs.BitSets.{holds, meeting, set_of, set_at}
use Rattle.bitsets.proofs.Sets.{meeting→, →meeting}
use Rattle.window_pairs.specs.PairSets.{pairs_in, row_has}
use Rattle.window_pairs.proofs.PairSets.{pairs-grid}

-- two arrays that have the same first n rows hold the same pairs
pub copied : (n : ℕ) (R A : List BitSet) → take n R ≡ take n A → pairs_in n R ≡ pairs_in n A
copied n R A k =
    pairs-grid n R (λ x y. holds (set_at A x) y)
    (λ x y hx hy. ap (λ S. holds S y) (sym (get_or-take n R x (set_of 0 0) hx) ∙ ap (λ l. set_at l x) k ∙ get_or-take n A x (set_of 0 0) hx))
    ∙ sym (pairs-grid n A (λ x y. holds (set_at A x) y) (λ x y hx hy. refl))

-- a set R with the pairs of A, put in place of B: where the two had the same rows it holds the pairs of B
pub replaced : (n : ℕ) (A B R : List BitSet) → take n B ≡ take n A → pairs_in n R ≡ pairs_in n A
    → pairs_in n R ≡ pairs_in n B
replaced n A B R e w = w ∙ sym (copied n B A e)

-- the set of the first n states meets a row that has one of them
pub row-meets : (n : ℕ) (A : List BitSet) (x : ℕ) (all : BitSet) → n ≤ 128 → ((i : ℕ) → holds all i ≡ ltb i n)
    → meeting 128 (set_at A x) all ≡ row_has n A x
row-meets n A x all h e =
    bool_eq (meeting 128 (set_at A x) all) (row_has n A x)
    (λ t. let (i, l, a, b) = meeting→ 128 (set_at A x) all t in
    some_at (holds (set_at A x)) n i (ltb→lt i n (subst T (e i) b)) a)
    (λ t. let (i, l, a) = found (holds (set_at A x)) n t in
    →meeting 128 (set_at A x) all i (omega arith) a (subst T (sym (e i)) (lt→ltb i n l)))

-- ---- two tests, either first
pub some-swap : (f : ℕ → ℕ → Bool) (m n : ℕ) → some (λ a. some (f a) n) m ≡ some (λ b. some (λ a. f a b) m) n
some-swap f m n =
    bool_eq (some (λ a. some (f a) n) m) (some (λ b. some (λ a. f a b) m) n)
    (λ t. let (a, la, u) = found (λ a. some (f a) n) m t in
    let (b, lb, v) = found (f a) n u in
    some_at (λ b. some (λ a. f a b) m) n b lb (some_at (λ a. f a b) m a la v))
    (λ t. let (b, lb, u) = found (λ b. some (λ a. f a b) m) n t in
    let (a, la, v) = found (λ a. f a b) m u in
    some_at (λ a. some (f a) n) m a la (some_at (f a) n b lb v))
