-- `decode_words` meets its contract: it ends well only where the call has a result, and by whether the words are a
-- recording.
use Rattle.command_verify.proofs.Counts.{after-either, after_kept}
use Rattle.command_stream.proofs.Ending.{ends-decoded}
use Rattle.command_stream.proofs.decode_words.Goals as goal

pub returns-clause-past : goal.returns-clause-past
returns-clause-past g c =
    let s = c.finish_code-s in
    let e = c.after_stream in
    let r = c.decode_stream-r in
    let f = after_kept r.result s.result e.result _ e.ensures.answer s.ensures.answer in
    let h = after-either s.result e.result _ e.ensures.answer in
    ends-decoded _ _ _ _ r.result e.result r.ensures.answer f h
