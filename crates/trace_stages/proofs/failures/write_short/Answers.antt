-- The sentence names the state, n, its weight, their product and the sum.
use Rattle.laws.proofs.All.{get_or}
use Rattle.trace_stages.proofs.Failed.{short-told}
use Rattle.trace_stages.proofs.failures.write_short.Goals as goal

pub returns-clause-written : goal.returns-clause-written
returns-clause-written c =
    let a = c.args in
    short-told a.s a.n (get_or a.v a.s 0) _ _ c.led_weight-sum.ensures.answer c.write_sentence.ensures.written
