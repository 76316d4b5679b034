-- `set_word` meets its contract: the number of a set's answer is at most the largest of a refusal.
use mathlib.Core.Path.{sym, ap₂, subst, ◌∙◌}
use Prim.Native.Nat.{◌≤◌}
use Rattle.answer.specs.Refusals.{most}
use Rattle.word.specs.Words.{joined}
use Rattle.sbc.specs.Words.{set_word_of}
use Rattle.sbc.proofs.Words.{set-number-le}
use Rattle.sbc.proofs.set_word.Goals as goal

pub join-requires : goal.join-requires
join-requires c =
    subst (λ k. k ≤ most) (sym c.set_number.ensures.answer) (set-number-le c.args.a)

pub returns : goal.returns
unfolding set_word_of
returns c = record {
  answer = c.join.ensures.answer
      ∙ ap₂ joined c.set_number.ensures.answer c.set_value.ensures.answer;
}
