-- `verify_words` meets its contract: it ends well only where all words came back.
use Rattle.command_outputs.proofs.Results.{well-holds}
use Rattle.command_verify.specs.Verifying.{VerifiedWords}
use Rattle.command_verify.proofs.Counts.{verify-most, end-well}
use Rattle.command_verify.proofs.verifying.verify_words.Goals as goal

pub returns-in-Done-clause-answer : goal.returns-in-Done-clause-answer
returns-in-Done-clause-answer g c =
    let a = c.args in
    let most = verify-most a.under.now a.words.now in
    let w = end-well _ _ _ _ c.verify-r.ensures.answer most c.judged.ensures.answer c.in-Done.is in
    well-holds c.print_recording.result c.print_recording.ensures.past w

pub returns-in-Done-clause-past : goal.returns-in-Done-clause-past
returns-in-Done-clause-past g c =
    let a = c.args in
    let most = verify-most a.under.now a.words.now in
    let w = end-well _ _ _ _ c.verify-r.ensures.answer most c.judged.ensures.answer c.in-Done.is in
    well-holds {P = VerifiedWords} c.print_recording.result c.print_recording.ensures.past
    (record { under = _; words = _; whole = w })
