-- `check` meets its contract: its answer is what loading comes to, with no byte written.
use Rattle.std.proofs.lemmas.Result.{err_from_is_err_and}
use Rattle.record_check.proofs.Follow.{check-bad, check-read}
use Rattle.record_check.proofs.check.Goals as goal

pub returns-in_err-load : goal.returns-in_err-load
returns-in_err-load c =
    let p = err_from_is_err_and c.from_residual.result c.from_residual.ensures.1 in
    rw (p.1, p.2) (record { answer = check-bad c.args.bytes.now _ c.in_err-load.ensures.answer })

pub returns : goal.returns
returns c = record { answer = check-read c.args.bytes.now _ c.in_ok-load.ensures.answer }
