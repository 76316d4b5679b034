-- The graph and its splits, and, unless there are too many edges, what they end with.
use Rattle.trace_splits.specs.SplitText.{end_lines}
use Rattle.trace_splits.proofs.SplitTexts.{split-ends, split-crowded, split_done}
use Rattle.trace_splits.proofs.write_splitting.Goals as goal

pub returns-in_default-clause-written : goal.returns-in_default-clause-written
returns-in_default-clause-written c =
    let a = c.args in
    split-crowded a.n a.g a.q c.write_splits.ensures.written c.in_default.ensures.answer

pub finish_table-rows-requires : goal.finish_table-rows-requires
finish_table-rows-requires c = split-ends c.in-Some.ensures.answer c.requires.splits c.requires.weighs

pub returns-clause-written : goal.returns-clause-written
unfolding end_lines
returns-clause-written c =
    let a = c.args in
    split_done a.n a.g a.q c.write_splits.ensures.written c.in-Some.ensures.answer
    c.finish_table-rows.ensures.answer c.write_sentence.ensures.written
