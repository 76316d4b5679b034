-- `close` meets its contract: writing tests the new datum with all other fields, which are in range.
use Rattle.laws.proofs.All.{refl, length}
use Rattle.answer.proofs.Answered.{handed}
use Rattle.table.specs.Value.{code_in}
use Rattle.record.specs.Checks.{pack_with}
use Rattle.record_tail.specs.Closing.{closed}
use Rattle.record_tail.proofs.Closed.{closed-table}
use Rattle.record_tail.proofs.close.Goals as goal

pub returns : goal.returns
returns c =
    let a = c.args in
    let w = handed (pack_with _ (length a.out.now)) (closed (code_in a.t) a.datum (length a.out.now)) _
    a.out.now _ (closed-table a.t _ a.datum (length a.out.now) c.requires refl) c.write.ensures.answer
    c.write.ensures.written in
    record { answer = w.0; written = w.1 }
