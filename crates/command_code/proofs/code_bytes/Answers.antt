-- `code_bytes` meets its contract: it ends well only where the call has a result, and by whether the words are a
-- recording.
use Rattle.laws.proofs.All.{length}
use Rattle.command_verify.proofs.Counts.{after-either, after_kept}
use Rattle.command_code.proofs.Ending.{ends-coded}
use Rattle.command_code.proofs.code_bytes.Goals as goal

pub returns-clause-past : goal.returns-clause-past
returns-clause-past g c =
    let a = c.args in
    let s = c.finish_code-s in
    let e = c.end_code in
    let f = after_kept c.code-r.result s.result e.result _ e.ensures.answer s.ensures.answer in
    let h = after-either s.result e.result _ e.ensures.answer in
    ends-coded a.w a.under.now a.bytes.now (length a.out.now) c.code-r.result e.result c.code-r.ensures.answer f h
