-- `with_if` meets its contract.
use Rattle.std.proofs.Common.{◌||◌, ◌&&◌}
use Rattle.laws.proofs.All.{sym, ap, ◌∙◌, or-false, eqb}
use Rattle.bitsets.specs.BitSets.{holds}
use Rattle.bitsets.proofs.BitSet.with_if.Goals as goal

pub returns-then-passed : goal.returns-then-passed
returns-then-passed c =
    record {
      answer = λ j.
          let a = c.args in
          c.with.ensures.answer j ∙ ap (λ b. holds a.self j || (b && eqb a.i j)) (sym c.if-passed.true);
    }

pub returns-else-passed : goal.returns-else-passed
returns-else-passed c =
    record {
      answer = λ j.
          let a = c.args in
          sym (ap (λ b. holds a.self j || (b && eqb a.i j)) c.if-passed.false ∙ or-false (holds a.self j));
    }
