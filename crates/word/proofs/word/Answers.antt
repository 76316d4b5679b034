-- `word` meets its contract: an answer's number is at most the largest of a refusal.
use Rattle.std.proofs.Common.{◌≤◌}
use Rattle.laws.proofs.All.{sym, ap₂, subst, ◌∙◌}
use Rattle.answer.specs.Refusals.{most}
use Rattle.word.specs.Words.{joined, word_of}
use Rattle.word.proofs.Words.{number-le}
use Rattle.word.proofs.word.Goals as goal

pub join-requires : goal.join-requires
join-requires c =
    subst (λ k. k ≤ most) (sym c.answer_number.ensures.answer) (number-le c.args.a)

pub returns : goal.returns
unfolding word_of
returns c = record {
  answer = c.join.ensures.answer
      ∙ ap₂ joined c.answer_number.ensures.answer c.answer_value.ensures.answer;
}
