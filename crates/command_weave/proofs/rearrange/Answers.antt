-- `rearrange` meets its contract, by what is done.
use Rattle.laws.proofs.All.{sym, ap, ◌∙◌, length}
use Rattle.answer.specs.Outcomes.{answer_of, output_of}
use Rattle.command_weave.specs.Weaves.{rearrange_into}
use Rattle.command_weave.proofs.rearrange.Goals as goal

pub returns-in-Weave-clause-answer : goal.returns-in-Weave-clause-answer
unfolding rearrange_into
returns-in-Weave-clause-answer c =
    let a = c.args in
    c.weave.ensures.answer
    ∙ ap (λ h. answer_of (rearrange_into h a.d (length a.out.now) a.words.now)) (sym c.in-Weave.is)

pub returns-in-Weave-clause-written : goal.returns-in-Weave-clause-written
unfolding rearrange_into
returns-in-Weave-clause-written c =
    let a = c.args in
    c.weave.ensures.written
    ∙ ap (λ h. output_of (rearrange_into h a.d (length a.out.now) a.words.now) a.out.now) (sym c.in-Weave.is)

pub returns-in-Unweave-clause-answer : goal.returns-in-Unweave-clause-answer
unfolding rearrange_into
returns-in-Unweave-clause-answer c =
    let a = c.args in
    c.unweave.ensures.answer
    ∙ ap (λ h. answer_of (rearrange_into h a.d (length a.out.now) a.words.now)) (sym c.in-Unweave.is)

pub returns-in-Unweave-clause-written : goal.returns-in-Unweave-clause-written
unfolding rearrange_into
returns-in-Unweave-clause-written c =
    let a = c.args in
    c.unweave.ensures.written
    ∙ ap (λ h. output_of (rearrange_into h a.d (length a.out.now) a.words.now) a.out.now) (sym c.in-Unweave.is)
