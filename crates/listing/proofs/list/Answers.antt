-- `list` meets its contract: the listing of a job that compiles, and otherwise `refused` and the number.
use Rattle.laws.proofs.All.{sym, ◌∙◌}
use Rattle.listing.proofs.Printing.{list_done, list-told}
use Rattle.listing.proofs.list.Goals as goal

pub returns-in-Ok-clause-written : goal.returns-in-Ok-clause-written
returns-in-Ok-clause-written c =
    let a = c.args in
    let call = c.list_run_length in
    (list_done a.job.now a.out.now c.requires _ c.in-Ok.size (sym c.in-Ok.is ∙ call.ensures.answer)
    call.ensures.written).0

pub returns-in-Err-clause-written : goal.returns-in-Err-clause-written
returns-in-Err-clause-written c =
    let a = c.args in
    let call = c.list_run_length in
    let put = c.tell_refusal in
    (list-told a.job.now a.out.now c.requires c.in-Err.r call.new.out _ put.result c.answer_value.result
    call.auto.out (sym c.in-Err.is ∙ call.ensures.answer) put.ensures.answer put.ensures.written
    c.answer_value.ensures.answer).0
