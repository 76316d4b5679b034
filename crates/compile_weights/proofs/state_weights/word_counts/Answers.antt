use Rattle.std.proofs.Common.{◌/◌, ◌%◌}
use Rattle.laws.proofs.All.{arith, fill_more}
use Rattle.compile_weights.specs.PowerTable.{word_count}
use Rattle.compile_weights.proofs.WeightRounds.{count-le}
use Rattle.compile_weights.proofs.state_weights.word_counts.Goals as goal

pub loop-x-preserved : goal.loop-x-preserved
loop-x-preserved c =
    let l = c.loop-x in
    let p = c.args in
    fill_more 0 (λ y. word_count p.power.now p.words (y / 16) (y % 16)) 256 l.x l.r _ (omega arith)
    c.words_between.ensures.answer.0 l.invariant

pub returns : goal.returns
returns c =
    let l = c.loop-x in
    let p = c.args in
    record {
      answer = λ x h. (
        l.invariant.holds x (omega arith),
        omega (
          arith,
          l.invariant.holds x (omega arith),
          c.requires.1,
          count-le p.power.now p.words
              (x / 16) (x % 16),
        ),
      );
    }
