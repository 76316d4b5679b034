-- The state of the group is put into the set where the group leads into the other.
use Rattle.std.proofs.Common.{◌&&◌, ◌||◌}
use Rattle.laws.proofs.All.{ap, ◌∙◌, eqb}
use Rattle.bitsets.specs.BitSets.{holds, meeting}
use Rattle.codec_groups.specs.Groups.{source_at}
use Rattle.codec_steps.proofs.back_group.Goals as goal

pub returns : goal.returns
returns c =
    record {
      answer = λ s.
          let a = c.args in
          c.with_if.ensures.answer s
          ∙ ap (λ k. holds a.out s || (c.meets-leads.result && eqb k s)) c.source.ensures.answer
          ∙ ap (λ b. holds a.out s || (b && eqb (source_at a.groups.now.first.now a.k) s))
          (c.meets-leads.ensures.answer ∙ ap (λ g. meeting 128 g a.set) c.targets_at.ensures.answer);
    }
