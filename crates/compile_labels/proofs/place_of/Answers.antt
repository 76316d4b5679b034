use Rattle.laws.proofs.All.{sym, ◌∙◌, arith, length, take, length-take-le, get_or-take}
use Rattle.laws.proofs.All.{index-here, index-later, index-end}
use Rattle.std.proofs.Common.{◌≡◌, rules}
use Rattle.compile_labels.proofs.place_of.Goals as goal

pub loop-i-init : goal.loop-i-init
loop-i-init c =
    let a : length c.args.list ≡ 16 = search rules in
    (omega arith, c.requires, length-take-le c.args.k c.args.list (omega arith), omega arith)

pub returns-then-list-i : goal.returns-then-list-i
returns-then-list-i c =
    let a = c.args in
    let l = c.loop-i in
    let e = get_or-take a.k a.list l.i 0 (omega arith) in
    let h = index-here a.d (take a.k a.list) l.i (omega arith) (e ∙ c.if-list-i.true) in
    record { answer = (omega arith, omega arith) }

pub loop-i-preserved : goal.loop-i-preserved
loop-i-preserved c =
    let a = c.args in
    let l = c.loop-i in
    let e = get_or-take a.k a.list l.i 0 (omega arith) in
    let h = index-later a.d (take a.k a.list) l.i (omega arith) (λ q. c.if-list-i.false (sym e ∙ q)) in
    (omega arith, l.invariant.1, l.invariant.2, omega arith)

pub returns : goal.returns
returns c =
    let a = c.args in
    let l = c.loop-i in
    let h = index-end a.d (take a.k a.list) l.i (omega arith) in
    record { answer = (omega arith, omega arith) }
