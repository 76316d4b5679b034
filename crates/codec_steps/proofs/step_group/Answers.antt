-- The targets of the group are joined where its state is in the set.
use Rattle.std.proofs.Common.{◌&&◌, ◌||◌}
use Rattle.laws.proofs.All.{sym, ap, ◌∙◌, or-false}
use Rattle.bitsets.specs.BitSets.{holds}
use Rattle.codec_groups.specs.Groups.{targets_at}
use Rattle.codec_steps.proofs.step_group.Goals as goal

pub returns-then-has : goal.returns-then-has
returns-then-has c =
    record {
      answer = λ u.
          let a = c.args in
          c.join.ensures.answer u
          ∙ ap (λ g. holds a.out u || holds g u) c.targets_at.ensures.answer
          ∙ ap (λ b. holds a.out u || (b && holds (targets_at a.groups.now.sets.now a.k) u))
          (sym (ap (holds a.set) (sym c.source.ensures.answer) ∙ sym c.has.ensures.answer ∙ c.if-has.true));
    }

pub returns : goal.returns
returns c =
    record {
      answer = λ u.
          let a = c.args in
          sym (ap (λ b. holds a.out u || (b && holds (targets_at a.groups.now.sets.now a.k) u))
          (ap (holds a.set) (sym c.source.ensures.answer) ∙ sym c.has.ensures.answer ∙ c.if-has.false)
          ∙ or-false (holds a.out u));
    }
