use Rattle.laws.proofs.All.{sym, ap, ◌∙◌, or-false, mod-lt, arith, lit<, length, length-set, take, take_all, get_or}
use Rattle.laws.proofs.All.{any, member}
use Rattle.compile_table.specs.Finishing.{entered_by}
use Rattle.compile_table.proofs.Marks.{mark-more}
use Rattle.std.proofs.Common.{◌≡◌, ◌||◌, ◌%◌, rules}
use Rattle.compile_table.proofs.finish_table.mark_targets.Goals as goal

pub loop-key-init : goal.loop-key-init
loop-key-init c = let a : length c.args.set ≡ 128 = search rules in (a, λ x. sym (or-false (member c.args.set x)))

pub loop-key-preserved : goal.loop-key-preserved
loop-key-preserved c =
    let l = c.loop-key in
    let p = c.args in (
      length-set l.marked (get_or p.list.now l.key-index 0 % 128) _ ∙ l.invariant.0,
      mark-more p.set l.marked p.list.now l.key-index l.invariant.0 (omega arith)
          (mod-lt (get_or p.list.now l.key-index 0) {m = 128} (lit< tt)) l.invariant.1,
    )

pub returns : goal.returns
returns c =
    let l = c.loop-key in
    let p = c.args in
    let e : take l.key-index p.list.now ≡ p.list.now = take_all l.key-index p.list.now (omega arith) in
    record { answer = λ x. l.invariant.1 x ∙ ap (λ k. member p.set x || any (entered_by x) k) e }
