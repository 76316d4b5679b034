use Rattle.std.proofs.Common.{◌≡◌, ◌∷◌, ◌++◌}
use Rattle.laws.proofs.All.{sym, ap, ◌∙◌, arith, []}
use Rattle.constraint.specs.Value.{constraint_of}
use Rattle.joining.specs.Joined.{pairs}
use Rattle.joining.proofs.PairLists.{walked_on, walked_end, pairs_start}
use Rattle.joining.proofs.Both.all_pairs.Goals as goal

pub loop-i-init : goal.loop-i-init
loop-i-init c =
    let s = c.args.self.now in
    let e : c.push.new.self.items ≡ 0 ∷ [] = c.push.ensures.items ∙ ap (λ l. l ++ 0 ∷ []) c.new-list.ensures in
    rw e (omega arith, pairs_start (constraint_of s.first) (constraint_of s.second))

pub loop-i-preserved : goal.loop-i-preserved
loop-i-preserved c =
    let l = c.loop-i in
    let s = c.args.self.now in (
      omega (arith, c.walk_pair.ensures.past),
      walked_on (constraint_of s.first) (constraint_of s.second) l.list.items l.i 16
          c.walk_pair.new.list.items (pairs (constraint_of s.first) (constraint_of s.second)) (omega arith)
          c.walk_pair.ensures.answer l.invariant.1,
    )

pub returns : goal.returns
returns c =
    let l = c.loop-i in
    let s = c.args.self.now in
    record {
      answer = sym (walked_end (constraint_of s.first) (constraint_of s.second) l.list.items l.i 16 (omega arith))
          ∙ l.invariant.1;
    }
