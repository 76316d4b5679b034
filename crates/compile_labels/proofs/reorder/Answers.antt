use Rattle.laws.proofs.All.{sym, subst, arith, length, get_or, take, set, length-take-le}
use Rattle.laws.proofs.All.{index-lt}
use Rattle.compile_labels.specs.Parts.{Reordered}
use Rattle.compile_labels.proofs.Columns.{reorder-none, reorder-more}
use Rattle.std.proofs.Common.{◌≡◌, ◌+◌, ◌*◌, ◌<◌, rules}
use Rattle.compile_labels.proofs.reorder.Goals.{After-place_of-k}
use Rattle.compile_labels.proofs.reorder.Goals as goal

pub loop-d-init : goal.loop-d-init
loop-d-init c =
    let l : length c.args.column ≡ 2048 = search rules in
    (omega arith, c.requires.0, c.requires.1, reorder-none _ _ _ l)

-- the edge that has the datum d is one of the n
place-small : (c : After-place_of-k) → c.place_of-k.result < 16
place-small c =
    let a = c.args in
    let l : length a.ds ≡ 16 = search rules in
    omega (
      arith,
      c.place_of-k.ensures.answer.0,
      index-lt c.loop-d.d (take a.n a.ds) (c.requires.2 _ c.loop-d-test.true),
      length-take-le a.n a.ds (omega arith),
    )

pub bounds-column-i : goal.bounds-column-i
bounds-column-i c = omega (arith, place-small c)

pub loop-d-preserved : goal.loop-d-preserved
loop-d-preserved c =
    let l = c.loop-d in
    let a = c.args in (
      omega arith,
      l.invariant.1,
      l.invariant.2,
      subst (λ k. Reordered (l.d + 1) a.i (take a.n a.ds) a.column
          (set l.r (a.i * 16 + l.d) (get_or a.column (a.i * 16 + k) 0)))
          (sym c.place_of-k.ensures.answer.0)
          (reorder-more a.i l.d (take a.n a.ds) a.column l.r (omega arith) l.invariant.2 l.invariant.3),
    )

pub returns : goal.returns
returns c =
    let l = c.loop-d in
    let a = c.args in
    let e : l.d ≡ a.n = omega arith in
    record { answer = subst (λ d. Reordered d a.i (take a.n a.ds) a.column l.r) e l.invariant.3 }

pub overflow_add-r : goal.overflow_add-r
overflow_add-r c = omega (arith, place-small c)
