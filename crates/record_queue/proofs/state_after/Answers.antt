-- Both reads are at the places that the definition names.
use Rattle.std.proofs.Common.{◌+◌, ◌*◌, ◌%◌}
use Rattle.laws.proofs.All.{ap, ◌∙◌, get_or}
use Rattle.record_queue.proofs.state_after.Goals as goal

pub returns : goal.returns
returns c =
    let a = c.args in
    let w = c.wide.ensures.answer.0 in
    record {
      answer = (
        c.wide-2.ensures.answer.0 ∙ ap (λ w. get_or a.power.now (a.x % 16 * 256 + w) 0) w,
        c.wide-2.ensures.answer.1,
      );
    }
