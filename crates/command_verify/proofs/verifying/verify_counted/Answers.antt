-- `verify_counted` meets its contract: it ends well only where all words came back.
use Rattle.command_outputs.proofs.Results.{well-holds}
use Rattle.command_verify.specs.Verifying.{VerifiedStream}
use Rattle.command_verify.proofs.Counts.{stream-most, end-well}
use Rattle.command_verify.proofs.verifying.verify_counted.Goals as goal

pub returns-in-Done-clause-answer : goal.returns-in-Done-clause-answer
returns-in-Done-clause-answer g c =
    let a = c.args in
    let most = stream-most a.under.now a.count.value a.stream.now in
    let w = end-well _ _ _ _ c.verify_stream-r.ensures.answer most c.judged.ensures.answer c.in-Done.is in
    well-holds c.print_recording.result c.print_recording.ensures.past w

pub returns-in-Done-clause-past : goal.returns-in-Done-clause-past
returns-in-Done-clause-past g c =
    let a = c.args in
    let most = stream-most a.under.now a.count.value a.stream.now in
    let w = end-well _ _ _ _ c.verify_stream-r.ensures.answer most c.judged.ensures.answer c.in-Done.is in
    well-holds {P = VerifiedStream} c.print_recording.result c.print_recording.ensures.past
    (record { under = _; count = _; stream = _; whole = w })
