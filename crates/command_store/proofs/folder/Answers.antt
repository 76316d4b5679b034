-- `folder` meets its contract, byte by byte from the path's end.
use Rattle.std.proofs.Common.{◌≡◌, ◌+◌, ◌-◌}
use Rattle.laws.proofs.All.{sym, ap, ◌∙◌, arith}
use Rattle.command_store.specs.Storing.{folder_in}
use Rattle.command_store.proofs.Parts.{folder-here, folder-back}
use Rattle.command_store.proofs.folder.Goals as goal

pub returns-then-path-n-eq47-clause-answer : goal.returns-then-path-n-eq47-clause-answer
returns-then-path-n-eq47-clause-answer c =
    let l = c.loop-n in
    let e : l.n - 1 + 1 ≡ l.n = omega arith in
    e ∙ sym (l.invariant ∙ folder-here l.n c.args.path.now (omega arith) c.if-path-n-eq47.true)

pub loop-n-preserved : goal.loop-n-preserved
loop-n-preserved c =
    let l = c.loop-n in
    l.invariant ∙ folder-back l.n c.args.path.now (omega arith) c.if-path-n-eq47.false

pub returns-clause-answer : goal.returns-clause-answer
unfolding folder_in
returns-clause-answer c =
    let l = c.loop-n in
    let z : l.n ≡ 0 = omega arith in
    sym (l.invariant ∙ ap (λ k. folder_in k c.args.path.now) z)
