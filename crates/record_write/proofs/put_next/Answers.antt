-- The five bits of an absent next state are 0, those of a present one begin with 1.
use Rattle.laws.proofs.All.{ap, ◌∙◌, ℕ}
use Rattle.bits.specs.Bytes.{spliced}
use Rattle.bits.specs.Fields.{bits, bits_of}
use Rattle.record.proofs.RecordParts.{put-absent, put-present}
use Rattle.record_write.proofs.put_next.Goals.{then-next-eq255, else-next-eq255}
use Rattle.record_write.proofs.put_next.Goals as goal

pub returns-clause-written : goal.returns-clause-written
returns-clause-written c =
    let a = c.args in
    let B = bits_of a.out.now in
    let field = λ (x : ℕ). spliced a.at (bits 5 x) B in
    elim c.if-next-eq255.branch [
      | then-next-eq255 w ↦ c.put.ensures.written ∙ ap field w.field-is ∙ put-absent B a.at a.next w.if-next-eq255.true
      | else-next-eq255 w ↦ c.put.ensures.written ∙ ap field w.field-is
          ∙ put-present B a.at a.next _ w.if-next-eq255.false w.low_bits.ensures.answer
    ]
