-- Part by part: what comes back before a part, and in it.
-- In order: part-stops, part-passes, all-passed.
-- Assumes nothing.
use Rattle.std.proofs.Common.{◌≡◌, ◌+◌, ◌≤◌, ◌<◌}
use Rattle.laws.proofs.All.{sym, ap, ◌∙◌, List, ℕ, min, min-eq_left, min-eq_right, arith}
use Rattle.laws.proofs.All.{length, drop}
use Rattle.table.specs.Edges.{Arrays, rows_of}
use Rattle.codec_verify.specs.Counting.{agreed}
use Rattle.codec_verify.proofs.Steps.{agreed-end}
use Rattle.stream_verify.specs.declared.part.Part.{Part}
use Rattle.stream_verify.specs.declared.part.Reached.{Reached}
use Rattle.stream_verify.specs.Parts.{Reaches}

module _ (t : Arrays) (ds ws : List ℕ) (s i count : ℕ)
    (inv : agreed (rows_of t) t.ways 0 ds ws ≡ min i count
    + agreed (rows_of t) t.ways s (drop (min i count) ds) (drop (min i count) ws)) where
  -- how many come back from the place k on, in the state u
  abbrev from : ℕ → ℕ → ℕ
  from u k = k + agreed (rows_of t) t.ways u (drop k ds) (drop k ws)

  module _ (z : Part) (r : Reached) (reached : Reaches t ds ws z r) (h : i < count) (f : z.from ≡ i)
      (e : z.state ≡ s) where
    so_far : agreed (rows_of t) t.ways 0 ds ws ≡ from r.state r.place
    so_far =
        let m : min i count ≡ z.from = min-eq_left (omega arith) ∙ sym f in
        inv ∙ ap (from s) m ∙ ap (λ u. from u z.from) (sym e) ∙ reached.counted

    pub part-stops : r.place < z.end → r.place ≡ agreed (rows_of t) t.ways 0 ds ws
    part-stops l = omega (arith, so_far, reached.stopped l)

    pub part-passes : z.end ≤ r.place → z.end ≡ min (i + 1024) count
        → agreed (rows_of t) t.ways 0 ds ws ≡ from r.state (min (i + 1024) count)
    part-passes l q =
        let p : r.place ≡ min (i + 1024) count = omega (arith, reached.before) in
        so_far ∙ ap (from r.state) p

  pub all-passed : count ≤ i → length ds ≡ length ws → count ≡ length ws → count ≡ agreed (rows_of t) t.ways 0 ds ws
  all-passed h l e =
      let p : min i count ≡ count = min-eq_right h in
      omega (arith, inv ∙ ap (from s) p, agreed-end (rows_of t) t.ways s ds ws count l e)
