-- Block i by the reader of one block, or the tail datum.
use Rattle.laws.proofs.All.{sym, ◌∙◌}
use Rattle.table.specs.Edges.{rows_of}
use Rattle.codec_groups.specs.Lent.{lent_edges}
use Rattle.codec_verify.proofs.Steps.{followed-block, followed-tail}
use Rattle.codec_verify.proofs.counting.datum_at.Goals as goal

pub returns-then-words-k : goal.returns-then-words-k
returns-then-words-k c =
    let a = c.args in
    record {
      answer = sym (followed-tail (rows_of (lent_edges a.grouped.now)) a.k.memory a.k.lookahead
          a.k.tail a.words.now c.requires.0 a.i c.if-words-k.true c.requires.1);
    }

pub returns : goal.returns
returns c =
    let a = c.args in
    record {
      answer = c.wide.ensures.answer.0 ∙ c.block_at.ensures.answer
          ∙ sym (followed-block (rows_of (lent_edges a.grouped.now)) a.k.memory a.k.lookahead
          a.k.tail a.words.now c.requires.0 a.i c.if-words-k.false);
    }
