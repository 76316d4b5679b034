-- Block j by the reader of one block, in the words of a part, or the tail datum.
use Rattle.laws.proofs.All.{sym, ◌∙◌, arith}
use Rattle.table.specs.Edges.{rows_of}
use Rattle.codec_groups.specs.Lent.{lent_edges}
use Rattle.codec_verify.proofs.Steps.{followed-block, followed-tail}
use Rattle.stream_verify.proofs.part.datum_in.Goals as goal

pub returns-then-part-k : goal.returns-then-part-k
returns-then-part-k c =
    let a = c.args in
    record {
      answer = λ U h. sym (followed-tail (rows_of (lent_edges a.grouped.now)) a.k.memory
          a.k.lookahead a.k.tail U (omega (arith, h.long, c.requires.1)) a.j (omega (arith, h.long, c.if-part-k.true))
          (omega (arith, h.long, c.requires.3, c.requires.4)));
    }

pub overflow_sub-j : goal.overflow_sub-j
overflow_sub-j c =
    let (U, h) = c.requires.0 in
    omega (arith, h.before, c.requires.2)

pub block_at-requires : goal.block_at-requires
block_at-requires c =
    let (U, h) = c.requires.0 in
    h.reach c.args.j c.requires.2 c.requires.3 (omega (arith, h.long, c.if-part-k.false))

pub returns : goal.returns
returns c =
    let a = c.args in
    record {
      answer = λ U h. c.wide.ensures.answer.0 ∙ c.block_at.ensures.answer
          ∙ h.blocks a.j c.requires.2 c.requires.3 (omega (arith, h.long, c.if-part-k.false))
          ∙ sym (followed-block (rows_of (lent_edges a.grouped.now)) a.k.memory a.k.lookahead
          a.k.tail U (omega (arith, h.long, c.requires.1)) a.j (omega (arith, h.long, c.if-part-k.false)));
    }
