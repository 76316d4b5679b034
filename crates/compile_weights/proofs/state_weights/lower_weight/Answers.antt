-- The smaller of the two.
use Rattle.std.proofs.Common.{◌≡◌, ◌/◌}
use Rattle.laws.proofs.All.{ap, arith}
use Rattle.compile_weights.specs.PowerTable.{sum_by, lower_by}
use Rattle.compile_weights.proofs.state_weights.lower_weight.Goals as goal

pub returns : goal.returns
unfolding lower_by
returns c =
    let a = c.args in
    let e : c.led_weight.result / a.n ≡ sum_by a.count.now a.v a.k a.s / a.n =
    ap (λ x. x / a.n) c.led_weight.ensures.answer in
    record { answer = omega arith }
