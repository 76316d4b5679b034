use Rattle.std.proofs.Common.{◌≡◌, ◌++◌, ◌∷◌, ◌+◌}
use Rattle.laws.proofs.All.{refl, sym, ap, ap₂, ◌∙◌, [], arith, suc, add-one, set, take, length-set, take-suc, take-suc-set}
use Rattle.bitsets.specs.BitSets.{set_of, set_at}
use Rattle.window_pairs.proofs.sets.copy.Goals as goal

pub loop-x-init : goal.loop-x-init
loop-x-init c = (c.requires.1, refl)

pub loop-x-preserved : goal.loop-x-preserved
loop-x-preserved c =
    let l = c.loop-x in
    let s = c.args.set.now in
    let row = set_at s l.x in (
      length-set l.out l.x row ∙ l.invariant.0,
      ap (λ n. take n (set l.out l.x row)) (add-one l.x) ∙ take-suc-set l.out l.x row (omega (arith, l.invariant.0))
          ∙ ap (λ r. r ++ row ∷ []) l.invariant.1 ∙ sym (take-suc s l.x (set_of 0 0) (omega arith))
          ∙ sym (ap (λ n. take n s) (add-one l.x)),
    )

pub returns : goal.returns
returns c =
    let l = c.loop-x in
    let e : l.x ≡ c.args.states = omega arith in
    record { written = (l.invariant.0, rw e at l.invariant.1) }
