-- As much of the text as there is room for is copied.
use Rattle.std.proofs.Common.{◌≡◌, ◌+◌, ◌-◌, ◌≤◌}
use Rattle.std.proofs.lemmas.Slice.{put_mid-paste}
use Rattle.laws.proofs.All.{sym, arith, take, length, length-take-le, min-le_left}
use Rattle.text.proofs.Adding.{put-added, paste-take}
use Rattle.text.proofs.Writer.put.Goals as goal

pub returns-clause-written : goal.returns-clause-written
returns-clause-written c =
    let text = c.args.text.now in
    let B = c.args.self.now.out.now in
    let n = c.min-n.result in
    let from = c.min-from.result in
    let some : n ≤ length text = omega (arith, min-le_left (length text) (length B - from)) in
    let k : n ≡ from + n - from = omega arith in
    put-added text B _ c.args.self.now.at from n c.min-from.ensures c.min-n.ensures
    (paste-take B from text n (put_mid-paste from (from + n - from) B c.copy_from_slice.new.self (take n text) n
    c.copy_from_slice.ensures.after k (sym (length-take-le n text some))))
