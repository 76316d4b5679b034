-- A block that stands clear is read as it was recorded, whatever the rest of the list holds.
-- In order: recovered.
-- Assumes nothing.
use Rattle.std.proofs.Common.{◌≡◌, ◌++◌, ◌-◌, ◌^◌, ◌<◌}
use Rattle.laws.proofs.All.{refl, sym, ap, ◌∙◌, inl, inr, List, ℕ, zero-le, arith}
use Rattle.laws.proofs.All.{length, get_or, get_or-append, map-range-at, Below, take_all}
use Rattle.table.specs.Rows.{Code}
use Rattle.table.specs.Paths.{recording, closing}
use Rattle.table.proofs.Paths.{length-spells, closed-blocks, length-recording, blocks→path}
use Rattle.codec_steps.specs.Reading.{decode, block}
use Rattle.codec.specs.Damage.{StandsClear}
use Rattle.codec.proofs.Local.{block-local, block-local-start}
use Rattle.codec.proofs.OneDatum.{one-path}
use Rattle.record_check.specs.Accepted.{Sound}

module _ (c : Code) (good : Sound c) (data' L : List ℕ) (fit : Below (2 ^ c.p) data') where
  -- a block of the recording itself
  own : (i : ℕ) → i < length data' → block c (recording c data') i ≡ get_or data' i 0
  own i hi =
      let D = data' ++ closing c in
      let R = recording c data' in
      let l : length R ≡ length D = length-spells c.table D 0 in
      let z : i - 0 ≡ i = omega arith in
      one-path c good R D 0 0
      (blocks→path c.table (2 ^ c.p) good.closed good.full D 0 good.some
      (closed-blocks c good.tail data' fit))
      (sym (take_all (length D) R (omega arith))) i good.some (inl (refl, refl)) zero-le
      (omega (arith, length-recording c data'))
      ∙ ap (λ k. get_or D k 0) z ∙ get_or-append data' (closing c) 0 i hi

  -- a block that stands clear is decoded as it was written, whatever the default v beyond the list
  pub recovered : (i j v : ℕ) → i < length data' → StandsClear c (recording c data') L i j
      → get_or (decode c L) j v ≡ get_or data' i 0
  recovered i j v hi (hj, h) =
      map-range-at (block c L) (length L - c.window.lookahead) j v (omega arith)
      ∙ (elim h [
        | inl (mi, mj, e) ↦ block-local c L (recording c data') j i mj mi e
        | inr (mi, q, e) ↦ rw q (block-local-start c L (recording c data') i mi e)
      ])
      ∙ own i hi
