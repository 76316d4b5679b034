-- What is put stands for the bytes of the pattern passed, which take k numbers.
use Rattle.std.proofs.Common.{◌≡◌}
use Rattle.laws.proofs.All.{take}
use Rattle.text.specs.Texts.{Added}
use Rattle.sentences.specs.Sentences.{sentence}
use Rattle.sentences.proofs.Sentences.{used}
use Rattle.sentences.proofs.write_sentence.Given as goal

abbrev pub invariant-loop-b : goal.invariant-loop-b
invariant-loop-b l =
    let done = take l.b-index l.pattern in
    let begin = l.initial.to in
    (l.k ≡ used done) × (l.to.out.ghost_name ≡ begin.out.ghost_name)
    × Added (sentence done l.numbers) begin.at begin.out.now l.to.out.now l.to.at
