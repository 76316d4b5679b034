-- The place of a number in a list, looked for from the front.
-- In order: index-here, index-later, index-end, from place i on; index-elem, index-free, whether it is there.
-- Assumes nothing.
use Rattle.std.proofs.Common.{if◌then◌else◌}
use mathlib.Core.Path.{◌≡◌, refl, sym, ◌∙◌}
use mathlib.Core.Bool.{Bool, true, false, not, ◌||◌}
use mathlib.Core.List.{List, [], ◌∷◌}
use Prim.Native.Nat.{ℕ, suc, ◌+◌, ◌≤◌, ◌<◌}
use native.Mathlib.Nat.{le_of_suc-le-suc}
use native.Mathlib.Numerals.{add-one}
use native.Mathlib.Omega.{arith}
use lib.Dec.{eqb, eqb-zero-suc, eqb-suc-suc}
use borrow.Author.Tests.{eq-eqb, ne_eqb}
use lib.ListN.{length, get_or, drop, drop_of_length-le}
use lib.Seq.{drop-cons}
use Rattle.laws.specs.Lists.{elem, index_of}

module _ (z : ℕ) (l : List ℕ) (i : ℕ) where
  pub index-here : i < length l → get_or l i 0 ≡ z → index_of z (drop i l) ≡ 0
  index-here h e = rw (drop-cons l i 0, eq-eqb z (get_or l i 0) (sym e))

  pub index-later : i < length l → (get_or l i 0 ≡ z → ⊥) → index_of z (drop i l) ≡ suc (index_of z (drop (i + 1) l))
  index-later h n = rw (drop-cons l i 0, ne_eqb z (get_or l i 0) (λ e. n (sym e)), add-one)

  pub index-end : length l ≤ i → index_of z (drop i l) ≡ 0
  index-end h = rw (drop_of_length-le l h)

pub index-elem : (z : ℕ) (l : List ℕ) → index_of z l < length l → elem z l ≡ true
index-elem z [] h = absurd (omega arith)
index-elem z (y ∷ l) h = go (eqb z y) h (index-elem z l)
  where
    go : (b : Bool) → (if b then 0 else suc (index_of z l)) < suc (length l)
        → (index_of z l < length l → elem z l ≡ true) → (b || elem z l) ≡ true
    go true h f = refl
    go false h f = f (le_of_suc-le-suc h)

-- the place is the length where the number is not there, and only there
pub index-free : (z : ℕ) (l : List ℕ) → eqb (index_of z l) (length l) ≡ not (elem z l)
index-free z [] = refl
index-free z (y ∷ l) = go (eqb z y) (index-free z l)
  where
    go : (b : Bool) → eqb (index_of z l) (length l) ≡ not (elem z l)
        → eqb (if b then 0 else suc (index_of z l)) (suc (length l)) ≡ not (b || elem z l)
    go true e = eqb-zero-suc (length l)
    go false e = eqb-suc-suc (index_of z l) (length l) ∙ e
