-- Two edges with one word, the second by the sets that are gathered.
-- In order: none-joined; beyond-joined, the states to which the second edges lead; joins-left, joins-only,
-- joins-marked, one turn of the loop over the first edges.
-- Assumes nothing.
use Rattle.std.proofs.Common.{Option, ◌≡◌, ◌&&◌, ◌/◌, ◌≤◌, ◌<◌}
use Rattle.laws.proofs.All.{sym, ap, ap₂, subst, ◌∙◌, Bool, true, false, not, and-false, List, ℕ}
use Rattle.laws.proofs.All.{arith, T, eqb, eqb→eq, eqb_refl, any, bool_eq, and→, →and}
use Rattle.table.specs.Marks.{some}
use Rattle.table.specs.Edges.{Arrays, places, next_of, bears}
use Rattle.table.proofs.Marks.{found, some_at}
use Rattle.bitsets.specs.declared.BitSet.{BitSet}
use Rattle.bitsets.specs.BitSets.{holds, members_of, set_at}
use Rattle.bitsets.proofs.Sets.{any-members→, →any-members}
use Rattle.table_words.specs.Gathered.{carries, leaves, beside_to, Gathered, holds_in}
use Rattle.window_pairs.specs.PairSets.{takes, beyond, joins}

-- the set of no state has no member
pub none-joined : (p : ℕ → Bool) (s : BitSet) → ((i : ℕ) → holds s i ≡ false) → any p (members_of s) ≡ false
none-joined p s z =
    bool_eq (any p (members_of s)) false
    (λ t. let (i, l, a, b) = any-members→ p s t in subst T (z i) a) (λ t. absurd t)

-- ---- M are the states beside x in P that have the word w on an edge that counts
module _ (t : Arrays) (few : t.states ≤ 128) (w : ℕ) (k : Option ℕ) (have : BitSet) (A : List BitSet) (g : Gathered t w k have A)
    (P : List BitSet) (x : ℕ) (M : BitSet) (m : (y : ℕ) → holds M y ≡ (holds (set_at P x) y && holds have y)) where
  joined→ : (v : ℕ) → T (any (holds_in A v) (members_of M)) → T (some (beyond t P w k x v) (places t))
  joined→ v a =
      let (y, hy, my, ay) = any-members→ (holds_in A v) M a in
      let (py, hv) = and→ (holds (set_at P x) y) (holds have y) (subst T (m y) my) in
      let (e, he, te) = found (beside_to t w k y v) (places t)
      (subst T (g.leads y v hy) (→and (holds have y) (holds (set_at A y) v) hv ay)) in
      let (be, r) = and→ (bears t w e) _ te in
      let (ls, nv) = and→ (leaves k y e) (eqb (next_of t e) v) r in
      let (nk, es) = and→ (not (carries k e)) (eqb (e / 16) y) ls in
      let q = eqb→eq (e / 16) y es in
      some_at (beyond t P w k x v) (places t) e he
      (→and (bears t w e) _ be (→and (not (carries k e)) _ nk
      (→and (holds (set_at P x) (e / 16)) _ (subst (λ z. T (holds (set_at P x) z)) (sym q) py) nv)))

  →joined : (v : ℕ) → T (some (beyond t P w k x v) (places t)) → T (any (holds_in A v) (members_of M))
  →joined v a =
      let (e, he, te) = found (beyond t P w k x v) (places t) a in
      let (be, r) = and→ (bears t w e) _ te in
      let (nk, r') = and→ (not (carries k e)) _ r in
      let (py, nv) = and→ (holds (set_at P x) (e / 16)) (eqb (next_of t e) v) r' in
      let y = e / 16 in
      let hy : y < 128 = omega arith in
      let l = subst T (sym (g.leads y v hy)) (some_at (beside_to t w k y v) (places t) e he
      (→and (bears t w e) _ be (→and (leaves k y e) _
      (→and (not (carries k e)) (eqb y y) nk (eqb_refl y)) nv))) in
      let (hv, ay) = and→ (holds have y) (holds (set_at A y) v) l in
      →any-members (holds_in A v) M y hy
      (subst T (sym (m y)) (→and (holds (set_at P x) y) (holds have y) py hv)) ay

  pub beyond-joined : (v : ℕ) → any (holds_in A v) (members_of M) ≡ some (beyond t P w k x v) (places t)
  beyond-joined v =
      bool_eq (any (holds_in A v) (members_of M)) (some (beyond t P w k x v) (places t)) (joined→ v) (→joined v)

-- ---- one turn: the edge i
module _ (t : Arrays) (P : List BitSet) (w : ℕ) (k : Option ℕ) (u v i : ℕ) where
  -- what is asked after the tests of i
  abbrev then : Bool
  then = eqb (next_of t i) u && some (beyond t P w k (i / 16) v) (places t)

  -- i has the word, and is taken
  joins-taken : bears t w i ≡ true → takes k i ≡ true → joins t P w k u v i ≡ then
  joins-taken b c = ap₂ (λ a d. a && (d && then)) b c

  -- i is not taken
  pub joins-left : takes k i ≡ false → joins t P w k u v i ≡ false
  joins-left c = ap (λ d. bears t w i && (d && then)) c ∙ and-false (bears t w i)

  -- i does not have the word
  pub joins-only : bears t w i ≡ false → joins t P w k u v i ≡ false
  joins-only b = ap (λ a. a && (takes k i && then)) b

-- the edge i leads to u, and with it the edges that are gathered to the states of `more`
pub joins-marked : (t : Arrays) → t.states ≤ 128 → (w : ℕ) (k : Option ℕ) (have : BitSet) (A : List BitSet) → Gathered t w k have A
    → (P : List BitSet) (u v i : ℕ) (M more : BitSet) → bears t w i ≡ true → takes k i ≡ true
    → ((y : ℕ) → holds M y ≡ (holds (set_at P (i / 16)) y && holds have y))
    → ((y : ℕ) → holds more y ≡ any (holds_in A y) (members_of M))
    → joins t P w k u v i ≡ (eqb (next_of t i) u && holds more v)
joins-marked t few w k have A g P u v i M more b c m h =
    joins-taken t P w k u v i b c
    ∙ ap (λ d. eqb (next_of t i) u && d) (sym (h v ∙ beyond-joined t few w k have A g P (i / 16) M m v))
