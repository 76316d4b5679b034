-- The numbers in the line are those of the two marks in the blocks.
use Rattle.std.proofs.Common.{◌≡◌}
use Rattle.laws.proofs.All.{subst₂, List, ℕ, arith, length, times, times-two}
use Rattle.text.specs.Texts.{Added}
use Rattle.codec_steps.specs.Reading.{mark_before, mark_ahead}
use Rattle.command_marks.specs.Marking.{marks_said, marks_line}
use Rattle.command_marks.proofs.write_marks.Goals as goal

-- a line with the numbers of the marks in the blocks
counted : (bs old new : List ℕ) (before ahead at e : ℕ) → before ≡ times mark_before bs → ahead ≡ times mark_ahead bs
    → Added (marks_said before ahead (length bs)) at old new e → Added (marks_line bs) at old new e
counted bs old new before ahead at e = subst₂ (λ x y. Added (marks_said x y (length bs)) at old new e)

pub overflow_add-before : goal.overflow_add-before
overflow_add-before c =
    let bs = c.args.blocks.now in
    omega (
      arith,
      times-two 254 255 bs (λ e. omega arith),
      c.count_marks-ahead.ensures.answer,
      c.count_marks-before.ensures.answer,
    )

pub returns-clause-written : goal.returns-clause-written
returns-clause-written c =
    counted c.args.blocks.now _ _ _ _ _ _ c.count_marks-before.ensures.answer c.count_marks-ahead.ensures.answer
    c.write_sentence.ensures.written
