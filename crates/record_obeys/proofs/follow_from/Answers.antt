use Rattle.std.proofs.Common.{◌≤◌, ◌<◌}
use Rattle.laws.proofs.All.{sym, ◌∙◌, not-suc-le-zero, arith}
use Rattle.laws.proofs.All.{get_or, member-lt}
use Rattle.record_queue.specs.Places.{pair_after, finds_at}
use Rattle.record_obeys.proofs.Reaching.{reach-start, reach-more, reach-done, reach-fail, reach-test}
use Rattle.record_obeys.proofs.follow_from.Goals.{At-loop-i, In-loop-i}
use Rattle.record_obeys.proofs.follow_from.Goals as goal

-- the place in hand is one of 2,048
count-on : (c : At-loop-i) → c.loop-i.count ≤ 2048
count-on c = let k = c.loop-i.invariant.1.queue.count in omega arith

place-on : (c : In-loop-i) → get_or c.loop-i.list c.loop-i.i 0 < 2048
place-on c =
    let l = c.loop-i in
    let q = l.invariant.1.queue in
    let n = q.long in
    omega (arith, member-lt l.set (get_or l.list l.i 0) (q.listed l.i (omega arith)))

pub loop-i-init : goal.loop-i-init
loop-i-init c = (
  c.requires.1,
  reach-start (pair_after c.args.word.now c.args.next.now c.args.power.now) c.args.n c.args.start _ _ _ _ _ c.requires.0
      c.requires.2 c.put-count.ensures.written,
  λ j h. absurd (not-suc-le-zero h),
)

pub bounds-list-i : goal.bounds-list-i
bounds-list-i c = omega (arith, count-on (goal.at.bounds-list-i c).At-loop-i)

pub overflow_cast-x : goal.overflow_cast-x
overflow_cast-x c = omega (arith, place-on (goal.at.overflow_cast-x c).In-loop-i)

pub finds_all-requires : goal.finds_all-requires
finds_all-requires c = (place-on (goal.at.finds_all-requires c).In-loop-i, omega (arith, c.loop-i.invariant.0))

pub returns-then-not-finds_all : goal.returns-then-not-finds_all
returns-then-not-finds_all c =
    let l = c.loop-i in
    record {
      answer = reach-fail (pair_after c.args.word.now c.args.next.now c.args.power.now) c.args.n c.args.start l.i l.set
          l.list l.count l.invariant.1 ((finds_at c.args.word.now c.args.power.now))
          c.loop-i-test.true (sym c.finds_all.ensures.answer ∙ c.if-not-finds_all.true);
    }

pub put_targets-count-requires : goal.put_targets-count-requires
put_targets-count-requires c =
    (place-on (goal.at.put_targets-count-requires c).In-loop-i, c.loop-i.invariant.0, c.loop-i.invariant.1.queue)

pub overflow_add-i : goal.overflow_add-i
overflow_add-i c = omega (arith, count-on (goal.at.overflow_add-i c).At-loop-i)

pub loop-i-smaller : goal.loop-i-smaller
loop-i-smaller c = omega (arith, count-on (goal.at.loop-i-smaller c).At-loop-i)

pub loop-i-preserved : goal.loop-i-preserved
loop-i-preserved c =
    let a = c.args in
    let l = c.loop-i in
    let g = c.put_targets-count.ensures.written in (
      l.invariant.0,
      reach-more (pair_after c.args.word.now c.args.next.now c.args.power.now) a.n a.start l.i l.set l.list l.count
          l.invariant.1 _ _ _
          c.loop-i-test.true g,
      reach-test (pair_after c.args.word.now c.args.next.now c.args.power.now) a.n a.start l.i l.set l.list l.count
          l.invariant.1 ((finds_at c.args.word.now c.args.power.now)) _ _ _
          c.loop-i-test.true g l.invariant.2 (sym c.finds_all.ensures.answer ∙ c.if-not-finds_all.false),
    )

pub returns : goal.returns
returns c =
    let l = c.loop-i in
    record {
      answer = reach-done (pair_after c.args.word.now c.args.next.now c.args.power.now) c.args.n c.args.start l.i l.set
          l.list l.count l.invariant.1 ((finds_at c.args.word.now c.args.power.now))
          (omega arith) l.invariant.2;
    }
