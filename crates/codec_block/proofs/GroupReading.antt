-- The first group of a word between two sets, and in it the first edge: the first edge of all between them.
-- In order: from_first, reads-group, none_reads, an edge and its group; end-small, entry_next, goes-reads, reads-goes,
-- some-goes, the entries of a group's state; least-reads, group-datum; found_within, found-datum, entry-found,
-- found_none.
-- Assumes nothing.
use Rattle.std.proofs.Common.{◌≡◌, ◌&&◌, ◌+◌, ◌*◌, ◌/◌, ◌%◌, ◌≤◌, ◌<◌}
use Rattle.laws.proofs.All.{refl, sym, ap, subst, ◌∙◌, inl, inr, Bool, true, false, List, [], ℕ}
use Rattle.laws.proofs.All.{arith, dec_lt, ℕ_discrete, ltb-true, lt-ltb, T, eqb, get_or, and→}
use Rattle.laws.proofs.All.{→and, T→true}
use Rattle.table.specs.Edges.{Arrays, rows_of, places, is_edge, word_of, next_of, bears}
use Rattle.table.proofs.Edges.{bears-edge}
use Rattle.bitsets.specs.declared.BitSet.{BitSet}
use Rattle.bitsets.specs.BitSets.{holds, yes_no, meeting}
use Rattle.bitsets.proofs.Sets.{meeting→, →meeting}
use Rattle.codec_groups.specs.Groups.{targets_at, source_at, Within, Grouped}
use Rattle.codec_steps.specs.Reading.{readings}
use Rattle.codec_steps.specs.BlockParts.{no_place, joins_at, first_group, enters_at, first_into}
use Rattle.codec_steps.proofs.SetSteps.{group-edge, edge-group}
use Rattle.codec_block.proofs.Scans.{Scanned, scanned, group-scan, into-scan}
use Rattle.codec_block.proofs.FirstReading.{reads_at, no-reading, first-reading}

-- a test that did not fail
no_false : (b : Bool) → (T b → ⊥) → b ≡ false
no_false true h = absurd (h tt)
no_false false h = refl

module _ (t : Arrays) (start first : List ℕ) (sets : List BitSet) (g : Grouped t start first sets) (P A : BitSet) (w : ℕ)
    (hw : w < 256) where
  abbrev joins : ℕ → Bool
  joins = joins_at first sets P A

  abbrev reads : ℕ → Bool
  reads = reads_at t P A w

  abbrev goes : ℕ → Bool
  goes = enters_at t.word t.next w A

  -- an edge of the state of a group is not before the first edge of the group
  from_first : (k e : ℕ) → Within start w k → e / 16 ≡ source_at first k → T (bears t w e) → get_or first k 0 ≤ e
  from_first k e i s b = go (dec_lt e (get_or first k 0))
    where
      go : Dec (e < get_or first k 0) → get_or first k 0 ≤ e
      go (yes l) = absurd (subst T (g.least w k e i s l) b)
      go (no l) = omega arith

  -- an edge between the sets is one of a group between them
  reads-group : (e : ℕ) → e < places t → T (reads e)
      → (k : ℕ) × Within start w k × (source_at first k ≡ e / 16) × T (joins k)
  reads-group e l h =
      let (b, m) = and→ (bears t w e) (holds P (e / 16) && holds A (next_of t e)) h in
      let (p, a) = and→ (holds P (e / 16)) (holds A (next_of t e)) m in
      let (k, i, s, r) = edge-group t start first sets g w hw e l b in
      let n : next_of t e < t.states = g.fits.inside e l (bears-edge t w e (T→true (bears t w e) b)) in (
        k,
        i,
        s,
        →and (holds P (source_at first k)) (meeting 128 (targets_at sets k) A)
            (subst (λ x. T (holds P x)) (sym s) p)
            (→meeting 128 (targets_at sets k) A (next_of t e) (omega (arith, n, g.fits.few)) r a),
      )

  -- no group between the sets, and no edge
  none_reads : ((k : ℕ) → get_or start w 0 ≤ k → k < get_or start (w + 1) 0 → joins k ≡ false)
      → (e : ℕ) → e < places t → reads e ≡ false
  none_reads h e l =
      no_false (reads e) (λ u. let (k, (_, i, j), s, q) = reads-group e l u in subst T (h k i j) q)

  -- ---- the entries of the state of group k from its first edge on
  module _ (k : ℕ) (i : Within start w k) where
    abbrev end : ℕ
    end = get_or first k 0 / 16 * 16 + t.ways

    end-le : end ≤ places t
    end-le = omega (arith, g.below w k i, g.fits.narrow)

    pub end-small : end ≤ 2048
    end-small = omega (arith, end-le, g.fits.few)

    inside : (e : ℕ) → get_or first k 0 ≤ e → e < end → (e / 16 ≡ source_at first k) × (e % 16 < t.ways)
    inside e l m = (omega (arith, g.fits.narrow), omega (arith, g.fits.narrow))

    -- they are edges, and lead to states
    pub entry_next : (e : ℕ) → get_or first k 0 ≤ e → e < end → get_or t.next e 0 < 128
    entry_next e l m =
        let n : next_of t e < t.states = g.fits.inside e (omega (arith, end-le))
        (lt-ltb _ _ (inside e l m).1) in
        omega (arith, n, g.fits.few)

    -- one of them that goes into A is an edge between the sets, where the state is in P
    goes-reads : T (joins k) → (e : ℕ) → get_or first k 0 ≤ e → e < end → T (goes e) → T (reads e)
    goes-reads q e l m h =
        let (p, _) = and→ (holds P (source_at first k)) (meeting 128 (targets_at sets k) A) q in
        let (x, a) = and→ (eqb (word_of t e) w) (holds A (next_of t e)) h in
        →and (bears t w e) (holds P (e / 16) && holds A (next_of t e))
        (→and (is_edge t e) (eqb (word_of t e) w) (subst T (sym (lt-ltb _ _ (inside e l m).1)) tt) x)
        (→and (holds P (e / 16)) (holds A (next_of t e)) (subst (λ s. T (holds P s)) (sym (inside e l m).0) p) a)

    -- an edge between the sets, of this state, is one of them
    reads-goes : (e : ℕ) → e / 16 ≡ source_at first k → T (reads e) → (get_or first k 0 ≤ e) × (e < end) × T (goes e)
    reads-goes e s h =
        let (b, m) = and→ (bears t w e) (holds P (e / 16) && holds A (next_of t e)) h in
        let (p, a) = and→ (holds P (e / 16)) (holds A (next_of t e)) m in
        let (x, y) = and→ (is_edge t e) (eqb (word_of t e) w) b in
        let d : e % 16 < t.ways = ltb-true _ _ (T→true (is_edge t e) x) in
        let z : e / 16 * 16 + e % 16 ≡ e = omega arith in (
          from_first k e i s b,
          omega (arith, d, s, z),
          →and (eqb (word_of t e) w) (holds A (next_of t e)) y a,
        )

    -- some of them goes into A
    some-goes : T (joins k) → (e : ℕ) × (get_or first k 0 ≤ e) × (e < end) × T (goes e)
    some-goes q =
        let (p, m) = and→ (holds P (source_at first k)) (meeting 128 (targets_at sets k) A) q in
        let (u, _, x, y) = meeting→ 128 (targets_at sets k) A m in
        let (e, l, b, s, n) = group-edge t start first sets g w k u i x in
        let r = reads-goes e s (→and (bears t w e) (holds P (e / 16) && holds A (next_of t e)) (subst T (sym b) tt)
        (→and (holds P (e / 16)) (holds A (next_of t e)) (subst (λ v. T (holds P v)) (sym s) p)
        (subst (λ v. T (holds A v)) (sym n) y))) in
        (e, r.0, r.1, r.2)

    -- the first of them that goes into A, in the first group between the sets, is the first edge between them
    module _ (q : T (joins k)) (before : (j : ℕ) → get_or start w 0 ≤ j → j < k → joins j ≡ false) (e : ℕ)
        (l : get_or first k 0 ≤ e) (m : e < end) (h : (j : ℕ) → get_or first k 0 ≤ j → j < e → goes j ≡ false) where
      earlier : (j : ℕ) → j < e → T (reads j) → Dec (j / 16 ≡ source_at first k) → ⊥
      earlier j n r (yes s) =
          let (x, y, z) = reads-goes j s r in
          subst T (h j x n) z
      earlier j n r (no s) =
          let (k', (v, a, b), s', q') = reads-group j (omega (arith, end-le)) r in
          let o : j / 16 < source_at first k = omega (arith, (inside e l m).0) in
          subst T (before k' a (lower k' (v, a, b) (omega (arith, s')) (dec_lt k' k) (ℕ_discrete k' k))) q'
        where
          lower : (k' : ℕ) → Within start w k' → source_at first k' < source_at first k → Dec (k' < k) → Dec (k' ≡ k)
              → k' < k
          lower k' i' o (yes d) f = d
          lower k' i' o (no d) (yes f) = absurd (omega (arith, ap (source_at first) f))
          lower k' i' o (no d) (no f) = absurd (omega (arith, g.rising w k k' i i' (omega arith)))

      least-reads : (j : ℕ) → j < e → reads j ≡ false
      least-reads j n = no_false (reads j) (λ r. earlier j n r (ℕ_discrete (j / 16) (source_at first k)))

    -- its datum is the first reading
    pub group-datum : T (joins k) → ((j : ℕ) → get_or start w 0 ≤ j → j < k → joins j ≡ false) → (d : ℕ)
        → first_into t.word t.next w A (get_or first k 0) end % 16
        ≡ get_or (readings (rows_of t) (yes_no t.states P) w (yes_no t.states A)) 0 d
    group-datum q before d =
        ap (λ x. x % 16) (into-scan t.word t.next w A (get_or first k 0) end)
        ∙ go _ (scanned goes no_place (get_or first k 0) end)
      where
        go : (e : ℕ) → Scanned goes no_place (get_or first k 0) end e
            → e % 16 ≡ get_or (readings (rows_of t) (yes_no t.states P) w (yes_no t.states A)) 0 d
        go e (inl (_, h)) = let (x, a, b, u) = some-goes q in absurd (subst T (h x a b) u)
        go e (inr (l, m, u, h)) =
            first-reading t g.fits P A w e (omega (arith, end-le))
            (T→true (reads e) (goes-reads q e l m (subst T (sym u) tt))) (least-reads q before e l m h) d

  -- ---- the first group
  module _ (k : ℕ) (e : k ≡ first_group start first sets P w A) where
    as-scan : Scanned joins no_place (get_or start w 0) (get_or start (w + 1) 0) k
    as-scan =
        subst (Scanned joins no_place (get_or start w 0) (get_or start (w + 1) 0))
        (sym (e ∙ group-scan start first sets P w A))
        (scanned joins no_place (get_or start w 0) (get_or start (w + 1) 0))

    -- a group is found, and it is one of the word
    pub found_within : k < no_place → Within start w k
    found_within h = go as-scan
      where
        go : Scanned joins no_place (get_or start w 0) (get_or start (w + 1) 0) k → Within start w k
        go (inl (q, _)) = absurd (omega arith)
        go (inr (l, m, _, _)) = (hw, l, m)

    -- the first of its entries that goes into A has the first reading as its datum
    pub found-datum : k < no_place → (v : ℕ)
        → v ≡ first_into t.word t.next w A (get_or first k 0) (get_or first k 0 / 16 * 16 + t.ways) → (d : ℕ)
        → v % 16 ≡ get_or (readings (rows_of t) (yes_no t.states P) w (yes_no t.states A)) 0 d
    found-datum h v q d = go as-scan
      where
        go : Scanned joins no_place (get_or start w 0) (get_or start (w + 1) 0) k
            → v % 16 ≡ get_or (readings (rows_of t) (yes_no t.states P) w (yes_no t.states A)) 0 d
        go (inl (f, _)) = absurd (omega arith)
        go (inr (l, m, u, b)) = ap (λ x. x % 16) q ∙ group-datum k (hw, l, m) (subst T (sym u) tt) b d

    -- and there is such an entry
    pub entry-found : k < no_place
        → first_into t.word t.next w A (get_or first k 0) (get_or first k 0 / 16 * 16 + t.ways) < no_place
    entry-found h = go as-scan
      where
        within : (e : ℕ) (i : Within start w k) → T (joins k) → Scanned goes no_place (get_or first k 0) (end k i) e
            → e < no_place
        within e i q (inl (_, n)) = let (x, a, b, u) = some-goes k i q in absurd (subst T (n x a b) u)
        within e i q (inr (_, m, _, _)) = omega (arith, m, end-small k i)

        go : Scanned joins no_place (get_or start w 0) (get_or start (w + 1) 0) k
            → first_into t.word t.next w A (get_or first k 0) (get_or first k 0 / 16 * 16 + t.ways) < no_place
        go (inl (f, _)) = absurd (omega arith)
        go (inr (l, m, u, b)) =
            let s = scanned goes no_place (get_or first k 0) (get_or first k 0 / 16 * 16 + t.ways) in
            let e = into-scan t.word t.next w A (get_or first k 0) (get_or first k 0 / 16 * 16 + t.ways) in
            subst (λ x. x < no_place) (sym e) (within _ (hw, l, m) (subst T (sym u) tt) s)

    -- none is found, and there is no reading
    pub found_none : no_place ≤ k → readings (rows_of t) (yes_no t.states P) w (yes_no t.states A) ≡ []
    found_none h = go as-scan
      where
        go : Scanned joins no_place (get_or start w 0) (get_or start (w + 1) 0) k
            → readings (rows_of t) (yes_no t.states P) w (yes_no t.states A) ≡ []
        go (inl (_, f)) = no-reading t g.fits P A w (none_reads f)
        go (inr (_, m, _, _)) = absurd (omega (arith, (g.room w hw).0))
