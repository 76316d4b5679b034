-- `put_front` meets its contract: the eight fields stand one after the other.
use Rattle.std.proofs.Common.{◌≡◌}
use Rattle.laws.proofs.All.{refl, ◌∙◌, arith, length}
use Rattle.bits.specs.Fields.{bits_of}
use Rattle.bits.proofs.Puts.{length-bits_of}
use Rattle.record.proofs.RecordParts.{front-spliced}
use Rattle.record_write.proofs.put_front.Goals.{After-put_low-7}
use Rattle.record_write.proofs.put_front.Goals as goal

-- they keep the number of bytes
kept : (c : After-put_low-7) → length c.put_low-7.new.out ≡ length (c.args.out.now)
kept c =
    c.put_low-7.ensures.kept ∙ c.put_low-6.ensures.kept ∙ c.put_low-5.ensures.kept ∙ c.put_low-4.ensures.kept
    ∙ c.put_low-3.ensures.kept ∙ c.put_low-2.ensures.kept ∙ c.put_low.ensures.kept

-- so the last field lies within them
pub put_low-requires-8 : goal.put_low-requires-8
put_low-requires-8 c =
    (omega arith, omega (arith, kept (goal.at.put_low-requires-8 c).After-put_low-7, c.requires))

pub shape_of-out : goal.shape_of-out
shape_of-out c = c.put_low-8.ensures.kept ∙ kept (goal.at.shape_of-out c).After-put_low-7

pub returns : goal.returns
returns c =
    record {
      written = front-spliced c.args.f _ _ (bits_of c.args.out.now) _
          (omega (arith, length-bits_of c.args.out.now, c.requires)) c.saturating_sub.ensures
          c.saturating_sub-2.ensures (
            _,
            c.put_low.ensures.written,
            (
              _,
              c.put_low-2.ensures.written,
              (
                _,
                c.put_low-3.ensures.written,
                (
                  _,
                  c.put_low-4.ensures.written,
                  (
                    _,
                    c.put_low-5.ensures.written,
                    (
                      _,
                      c.put_low-6.ensures.written,
                      (_, c.put_low-7.ensures.written, (_, c.put_low-8.ensures.written, refl)),
                    ),
                  ),
                ),
              ),
            ),
          );
      kept = c.put_low-8.ensures.kept ∙ kept (goal.at.returns c).After-put_low-7;
    }
