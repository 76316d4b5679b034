-- The edges with one word gathered one by one, from the last to the first.
-- In order: leaves-no, leaves-yes; put-led; Partly, what the loop has gathered, part-start, part-jump, part_edge,
-- part-done.
-- Assumes nothing.
use Rattle.std.proofs.Common.{Option, slice_set, ◌≡◌, ◌&&◌, ◌||◌, ◌+◌, ◌/◌, ◌<◌}
use Rattle.laws.proofs.All.{refl, sym, ap, ap₂, subst, ◌∙◌, true, false, not, or-false, List, ℕ}
use Rattle.laws.proofs.All.{eqb, eq-eqb, length, get_or-set_same, get_or-set_other, Whether, so, nay, eqb_is}
use mathlib.Core.Bool.{or-true}
use Rattle.table.specs.Marks.{some}
use Rattle.table.specs.Edges.{Arrays, places, next_of, bears, last_below}
use Rattle.table.proofs.Edges.{on_some}
use Rattle.bitsets.specs.declared.BitSet.{BitSet}
use Rattle.bitsets.specs.BitSets.{holds, set_of, set_at}
use Rattle.table_words.specs.Gathered.{carries, leaves, beside_from, beside_to, led, Gathered}
use Rattle.table_words.proofs.Backwards.{left-jump, left-more, left-done}

-- ---- one edge: whether it counts
module _ (k : Option ℕ) (s e : ℕ) where
  -- the edge carries k
  pub leaves-no : carries k e ≡ true → leaves k s e ≡ false
  leaves-no q = ap (λ b. not b && eqb (e / 16) s) q

  -- the edge does not carry k
  pub leaves-yes : carries k e ≡ false → leaves k s e ≡ eqb (e / 16) s
  leaves-yes q = ap (λ b. not b && eqb (e / 16) s) q

-- ---- the state x with one target more: its set was `made` of what was known of it, and of v
module _ (have r : BitSet) (A : List BitSet) (x v : ℕ) (made : BitSet) (h : x < length A)
    (hr : (j : ℕ) → holds r j ≡ (holds have j || eqb x j))
    (hm : (j : ℕ) → holds made j ≡ (led have A x j || eqb v j)) where
  set-here : set_at (slice_set A x made) x ≡ made
  set-here = get_or-set_same A x made (set_of 0 0) h

  set-other : (s : ℕ) → (s ≡ x → ⊥) → set_at (slice_set A x made) s ≡ set_at A s
  set-other s n = get_or-set_other A x s made (set_of 0 0) n

  -- what is known of x now
  here : (u : ℕ) → led r (slice_set A x made) x u ≡ (led have A x u || (eqb x x && eqb v u))
  here u =
      ap₂ (λ a b. a && b) (hr x ∙ ap (λ b. holds have x || b) (eq-eqb x x refl) ∙ or-true (holds have x))
      (ap (λ S. holds S u) set-here ∙ hm u)
      ∙ sym (ap (λ b. led have A x u || (b && eqb v u)) (eq-eqb x x refl))

  -- what is known of any state
  pub put-led : (s u : ℕ) → led r (slice_set A x made) s u ≡ (led have A s u || (eqb x s && eqb v u))
  put-led s u = go (eqb_is x s)
    where
      go : Whether (x ≡ s) (eqb x s) → led r (slice_set A x made) s u ≡ (led have A s u || (eqb x s && eqb v u))
      go (so q e) = subst (λ z. led r (slice_set A x made) z u ≡ (led have A z u || (eqb x z && eqb v u))) q (here u)
      go (nay q e) =
          ap₂ (λ a S. a && holds S u) (hr s ∙ ap (λ b. holds have s || b) e ∙ or-false (holds have s))
          (set-other s (λ g. q (sym g)))
          ∙ sym (ap (λ b. led have A s u || (b && eqb v u)) e ∙ or-false (led have A s u))

-- ---- of the edges below n those from c on are gathered
pub record Partly (t : Arrays) (w : ℕ) (k : Option ℕ) (n c : ℕ) (have : BitSet) (A : List BitSet) : Type 0 where
  pub long : length A ≡ 128
  pub haves : (s : ℕ) → s < 128 → some (beside_from t w k s) n ≡ (holds have s || some (beside_from t w k s) c)
  pub leads : (s u : ℕ) → s < 128
      → some (beside_to t w k s u) n ≡ (led have A s u || some (beside_to t w k s u) c)

module _ (t : Arrays) (w : ℕ) (k : Option ℕ) (n : ℕ) (have : BitSet) (A : List BitSet) where
  -- nothing is gathered yet
  pub part-start : length A ≡ 128 → ((i : ℕ) → holds have i ≡ false) → Partly t w k n n have A
  part-start l z = record {
    long = l;
    haves = λ s h. sym (ap (λ b. b || some (beside_from t w k s) n) (z s));
    leads = λ s u h. sym (ap (λ b. (b && holds (set_at A s) u) || some (beside_to t w k s u) n) (z s));
  }

  -- no edge between c' and c has the word
  pub part-jump : (c : ℕ) → Partly t w k n c have A → (c' : ℕ) → c' ≡ last_below t w c → Partly t w k n c' have A
  part-jump c m c' q = record {
    long = m.long;
    haves = λ s h. left-jump _ (holds have s) (beside_from t w k s) c c' (m.haves s h)
        (on_some t w c c' q (beside_from t w k s) (λ e b. ap (λ x. x && leaves k s e) b));
    leads = λ s u h. left-jump _ (led have A s u) (beside_to t w k s u) c c' (m.leads s u h)
        (on_some t w c c' q (beside_to t w k s u)
        (λ e b. ap (λ x. x && (leaves k s e && eqb (next_of t e) u)) b));
  }

  -- the edge e gathered
  pub part_edge : (e : ℕ) → Partly t w k n (e + 1) have A → bears t w e ≡ true → (r : BitSet) (B : List BitSet)
      → ((s : ℕ) → holds r s ≡ (holds have s || leaves k s e)) → length B ≡ 128
      → ((s u : ℕ) → s < 128 → led r B s u ≡ (led have A s u || (leaves k s e && eqb (next_of t e) u)))
      → Partly t w k n e r B
  part_edge e m b r B hr l hl = record {
    long = l;
    haves = λ s hs. left-more _ (holds have s) (beside_from t w k s) e (holds r s) (m.haves s hs)
        (hr s ∙ sym (ap (λ x. holds have s || (x && leaves k s e)) b));
    leads = λ s u hs. left-more _ (led have A s u) (beside_to t w k s u) e (led r B s u) (m.leads s u hs)
        (hl s u hs ∙ sym (ap (λ x. led have A s u || (x && (leaves k s e && eqb (next_of t e) u))) b));
  }

-- all edges are gathered
pub part-done : (t : Arrays) (w : ℕ) (k : Option ℕ) (c : ℕ) (have : BitSet) (A : List BitSet) → c ≡ 0 → Partly t w k (places t) c have A
    → Gathered t w k have A
part-done t w k c have A z m = record {
  long = m.long;
  haves = λ s h. left-done _ (holds have s) (beside_from t w k s) c z (m.haves s h);
  leads = λ s u h. left-done _ (led have A s u) (beside_to t w k s u) c z (m.leads s u h);
}
