-- `line` meets its contract: it is the part from the start of the line to its end.
use Rattle.std.proofs.Common.{◌≡◌, ◌-◌}
use Rattle.laws.proofs.All.{ap, ◌∙◌, arith, take, drop}
use Rattle.view_refusals.specs.TextLines.{line_end}
use Rattle.view_refusals.proofs.lines.line.Goals as goal

pub returns : goal.returns
returns c =
    let to = c.line_end-to in
    let from = c.line_start-from in
    let text = c.args.text.now in
    let long : to.result - from.result ≡ line_end (drop from.result text) = omega (arith, to.ensures.answer.0) in
    record {
      answer = ap (λ k. take k (drop from.result text)) long
          ∙ ap (λ ys. take (line_end ys) ys) from.ensures.answer.0;
    }
