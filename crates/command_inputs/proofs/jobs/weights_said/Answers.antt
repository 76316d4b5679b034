-- `weights_said` meets its contract: the five numbers stay where a weight is put behind them.
use Rattle.std.proofs.Common.{◌+◌}
use Rattle.laws.proofs.All.{sym, ◌∙◌, arith, length-set}
use lib.Seq.{take-set-le}
use Rattle.command_inputs.proofs.jobs.weights_said.Goals as goal

pub loop-i-preserved : goal.loop-i-preserved
loop-i-preserved g c =
    let l = c.loop-i in
    let v = c.in_ok-n.n.value in (
      l.invariant.0 ∙ sym (length-set l.job (5 + l.i) v),
      take-set-le 5 l.job (5 + l.i) v (omega arith) ∙ l.invariant.1,
    )
