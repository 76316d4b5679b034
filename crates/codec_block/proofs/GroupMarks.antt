-- The groups of a word by their states, and the mark of a block that no edge reads.
-- In order: some→, edge-from, →some, some-group; mark-is.
-- Assumes nothing.
use Rattle.std.proofs.Common.{◌≡◌, ◌+◌, ◌*◌, ◌/◌, ◌<◌, if◌then◌else◌}
use Rattle.laws.proofs.All.{sym, ap, subst, ◌∙◌, Bool, true, List, ℕ, arith, T, eqb, eqb→eq}
use Rattle.laws.proofs.All.{eqb_refl, length, get_or, member, and→, →and, T→true, bool_eq, any-below→}
use Rattle.laws.proofs.All.{→any-below, any-map}
use Rattle.table.specs.Rows.{Edge, edges, has_word}
use Rattle.table.specs.Edges.{Arrays, rows_of, places, is_edge, word_of, bears}
use Rattle.table.proofs.Edges.{bears-edge, bears-word}
use Rattle.table.proofs.RowsOf.{length-rows, place-state, place-lt, place-edge}
use Rattle.bitsets.specs.declared.BitSet.{BitSet}
use Rattle.bitsets.specs.BitSets.{holds, yes_no}
use Rattle.bitsets.proofs.Sets.{yes-member}
use Rattle.codec_groups.specs.Groups.{Grouped, between}
use Rattle.codec_groups.proofs.Between.{between→, →between}
use Rattle.codec_steps.specs.Reading.{some_edge, mark_before, mark_ahead, mark_for}
use Rattle.codec_steps.specs.BlockParts.{holds_from}
use Rattle.codec_steps.proofs.StateSteps.{test-place, place-test}

-- the edge has the word w
abbrev worded : ℕ → Edge → Bool
worded w e = eqb w e.word

module _ (t : Arrays) (start first : List ℕ) (sets : List BitSet) (g : Grouped t start first sets) (P : BitSet) (w : ℕ)
    (hw : w < 256) where
  abbrev S : List Bool
  S = yes_no t.states P

  some→ : T (between (holds_from first P) (get_or start w 0) (get_or start (w + 1) 0)) → T (some_edge (rows_of t) S w)
  some→ h =
      let (k, a, b, p) = between→ (holds_from first P) (get_or start w 0) (get_or start (w + 1) 0) h in
      let e = get_or first k 0 in
      let l : e < places t = g.below w k (hw, a, b) in
      let q : bears t w e ≡ true = g.edge w k (hw, a, b) in
      let hs : e / 16 < t.states = omega arith in
      →any-below _ (length (rows_of t)) (e / 16) (rw (length-rows t) hs)
      (→and (member S (e / 16)) (has_word w (edges (rows_of t) (e / 16))) (rw (yes-member t.states P (e / 16) hs) p)
      (subst T (sym (any-map (eqb w) (λ x. x.word) (edges (rows_of t) (e / 16))))
      (test-place t (worded w) e l (bears-edge t w e q) (rw (bears-word t w e q) (eqb_refl w)))))

  -- an edge from P with the word is one of a group of a state of P
  edge-from : (e : ℕ) → e < places t → T (bears t w e) → T (holds P (e / 16))
      → T (between (holds_from first P) (get_or start w 0) (get_or start (w + 1) 0))
  edge-from e l b p =
      let (k, (_, i, j), q) = g.whole w e hw l (T→true (bears t w e) b) in
      →between (holds_from first P) (get_or start w 0) (get_or start (w + 1) 0) k i j
      (subst (λ x. T (holds P x)) (sym q) p)

  →some : T (some_edge (rows_of t) S w) → T (between (holds_from first P) (get_or start w 0) (get_or start (w + 1) 0))
  →some h =
      let (s, l, f) = any-below→ _ (length (rows_of t)) h in
      let hs : s < t.states = omega (arith, length-rows t) in
      let (m, n) = and→ (member S s) (has_word w (edges (rows_of t) s)) f in
      let (d, hd, p) = place-test t (worded w) s hs
      (subst T (any-map (eqb w) (λ x. x.word) (edges (rows_of t) s)) n) in
      let e = s * 16 + d in
      let b : T (bears t w e) = →and (is_edge t e) (eqb (word_of t e) w) (rw (place-edge t s d g.fits hs hd) tt)
      (subst (λ x. T (eqb x w)) (eqb→eq w (word_of t e) p) (eqb_refl w)) in
      edge-from e (place-lt t s d g.fits hs hd) b
      (rw (place-state t s d g.fits hs hd) (rw (yes-member t.states P s hs) at m))

  -- a group of a state of P is an edge from P
  pub some-group : between (holds_from first P) (get_or start w 0) (get_or start (w + 1) 0) ≡ some_edge (rows_of t) S w
  some-group =
      bool_eq (between (holds_from first P) (get_or start w 0) (get_or start (w + 1) 0)) (some_edge (rows_of t) S w)
      some→
      →some

  -- the mark by the answer b of a test of the groups
  pub mark-is : (b r : Bool) → r ≡ between (holds_from first P) (get_or start w 0) (get_or start (w + 1) 0) → r ≡ b
      → (if b then mark_ahead else mark_before) ≡ mark_for (rows_of t) S w
  mark-is b r e q = ap (λ x. if x then mark_ahead else mark_before) (sym q ∙ e ∙ some-group)
