-- Steps until a set of pairs is empty.
-- In order: iterate-add, step-more; Stepped, stepped_start to stepped-rest; named.
-- Assumes nothing.
use Rattle.std.proofs.Common.{Option, Some, None, IfSome, is_some, leb, ◌≡◌, ◌+◌, ◌-◌, ◌≤◌, ◌<◌}
use Rattle.laws.proofs.All.{lt-leb, le-leb, sym, ap, ◌∙◌, true, false, List, ℕ, zero, suc, add-one}
use Rattle.laws.proofs.All.{zero-add, suc-add, arith, dec_lt, below_more, iterate, Pairs, iterate-suc, iterate_fixed}
use Rattle.table.specs.Rows.{Rows}
use Rattle.window.specs.Works.{into, reversed}
use Rattle.window.specs.Search.{empty}
use Rattle.bitsets.specs.declared.BitSet.{BitSet}
use Rattle.window_pairs.specs.PairSets.{pairs_in}
use Rattle.window.specs.Steps.{steps_of, Emptied}

iterate-add : {A : Type 0} (f : A → A) (k i : ℕ) (x : A) → iterate f (k + i) x ≡ iterate f i (iterate f k x)
iterate-add f zero i x = ap (λ n. iterate f n x) (zero-add i)
iterate-add f (suc k) i x = ap (λ n. iterate f n x) (suc-add k i) ∙ iterate-add f k i (f x)

module _ (t : Rows) where
  -- one step more, in the code's way to count
  step-more : (i : ℕ) (H : Pairs)
      → iterate (into (reversed t)) (i + 1) H ≡ into (reversed t) (iterate (into (reversed t)) i H)
  step-more i H =
      ap (λ k. iterate (into (reversed t)) k H) (add-one i) ∙ iterate-suc (into (reversed t)) i H

-- ---- steps until a set is empty: the set after k of them, none of those before it empty
pub record Stepped (t : Rows) (n : ℕ) (H : Pairs) (most : ℕ) (cur : List BitSet) (k : ℕ) : Type 0 where
  pub within : k ≤ most
  pub set : pairs_in n cur ≡ iterate (into (reversed t)) k H
  pub sooner : (j : ℕ) → j < k → empty t (iterate (into (reversed t)) j H) ≡ false

module _ (t : Rows) (n : ℕ) (H : Pairs) (most : ℕ) (cur : List BitSet) where
  pub stepped_start : pairs_in n cur ≡ H → Stepped t n H most cur 0
  stepped_start e = record { within = omega arith; set = e; sooner = λ j h. absurd (omega arith) }

  pub stepped-more : (k : ℕ) (r : List BitSet) → Stepped t n H most cur k → (k ≡ most → ⊥)
      → empty t (pairs_in n cur) ≡ false → pairs_in n r ≡ into (reversed t) (pairs_in n cur)
      → Stepped t n H most r (k + 1)
  stepped-more k r h l e s = record {
    within = omega (arith, h.within);
    set = s ∙ ap (into (reversed t)) h.set ∙ sym (step-more t k H);
    sooner = below_more (λ j. empty t (iterate (into (reversed t)) j H) ≡ false) k h.sooner
        (sym (ap (empty t) h.set) ∙ e);
  }

  pub stepped-stop : (k : ℕ) → Stepped t n H most cur k → empty t (pairs_in n cur) ≡ true → Emptied t H most k
  stepped-stop k h e = record {
    within = omega (arith, h.within);
    sooner = h.sooner;
    there = λ l. sym (ap (empty t) h.set) ∙ e;
  }

  pub stepped-end : (k : ℕ) → Stepped t n H most cur k → k ≡ most → empty t (pairs_in n cur) ≡ false
      → Emptied t H most (most + 1)
  stepped-end k h l e = record {
    within = omega arith;
    sooner = rw l at (below_more (λ j. empty t (iterate (into (reversed t)) j H) ≡ false) k h.sooner
        (sym (ap (empty t) h.set) ∙ e));
    there = λ m. absurd (omega arith);
  }

  -- a set that one word leads to itself stays
  pub stepped-rest : (k : ℕ) (r : List BitSet) → Stepped t n H most cur k → empty t (pairs_in n cur) ≡ false
      → pairs_in n r ≡ into (reversed t) (pairs_in n cur) → pairs_in n r ≡ pairs_in n cur → Emptied t H most (most + 1)
  stepped-rest k r h e s q = record {
    within = omega arith;
    sooner = λ j l. go j (dec_lt j k);
    there = λ m. absurd (omega arith);
  }
    where
      f : Pairs → Pairs
      f = into (reversed t)

      fixed : f (iterate f k H) ≡ iterate f k H
      fixed = sym (ap f h.set) ∙ sym s ∙ q ∙ h.set

      go : (j : ℕ) → Dec (j < k) → empty t (iterate f j H) ≡ false
      go j (yes l) = h.sooner j l
      go j (no l) =
          let d : j ≡ k + (j - k) = omega arith in
          ap (empty t) (ap (λ i. iterate f i H) d ∙ iterate-add f k (j - k) H
          ∙ iterate_fixed f (j - k) (iterate f k H) fixed ∙ sym h.set) ∙ e

-- ---- whether steps are named
pub named : (most : ℕ) (o : Option ℕ) → IfSome o (λ k. k ≤ most) → is_some o ≡ leb (steps_of most o) most
named most None h = sym (lt-leb (most + 1) most (omega arith))
named most (Some k) h = sym (le-leb k most h)
