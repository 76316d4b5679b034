-- `tell_refusal` meets its contract: the line fits the bytes that it is put into, and fills the output.
use Rattle.laws.proofs.All.{}
use Rattle.text.proofs.Adding.{added-same, added-whole}
use Rattle.view_listing.proofs.Filled.{fill-same}
use Rattle.view_job.proofs.Lengths.{refusal_is, refusal-short}
use Rattle.view_job.proofs.tell_refusal.Goals as goal

pub returns : goal.returns
returns c =
    let a = c.args in
    let w = fill-same a.out.now (added-whole (added-same (refusal_is a.r _ c.number-n.ensures.answer)
    c.put_line-end.ensures.written) (refusal-short a.r)).0 (c.fill.ensures.answer, c.fill.ensures.written) in
    record { answer = w.0; written = w.1 }
