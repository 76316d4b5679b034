-- The states that can read the words ahead, the past set, the first group between them and in it the first edge, or the
-- mark.
use Rattle.std.proofs.Math.Logic.{∥∥₁_elim}
use Rattle.std.proofs.Props.{props}
use Rattle.laws.proofs.All.{◌∙◌}
use Rattle.table.specs.Edges.{rows_of}
use Rattle.bitsets.specs.BitSets.{yes_no}
use Rattle.codec_groups.specs.Lent.{lent_edges}
use Rattle.codec_block.proofs.Windowed.{past-none, block_read}
use Rattle.codec_block.proofs.blocks.read_block.Goals as goal

pub returns-then-m-eq0 : goal.returns-then-m-eq0
returns-then-m-eq0 c =
    let a = c.args in
    let t = lent_edges a.grouped.now in
    record {
      answer = c.told.ensures.answer ∙ ∥∥₁_elim a.grouped.now.laid (hlevel props) (λ g.
          block_read (rows_of t) a.m a.a a.words.now a.i (yes_no t.states c.past_start-all.result)
          (yes_no t.states c.readers-able.result)
          (past-none t g.fits 0 a.words.now a.i c.past_start-all.result a.m c.if-m-eq0.true
          c.past_start-all.ensures.answer.1) (c.readers-able.ensures.answer t g));
    }

pub returns-then-is_large : goal.returns-then-is_large
returns-then-is_large c =
    let a = c.args in
    let t = lent_edges a.grouped.now in
    record {
      answer = c.told-then-is_large.ensures.answer ∙ ∥∥₁_elim a.grouped.now.laid (hlevel props) (λ g.
          block_read (rows_of t) a.m a.a a.words.now a.i (yes_no t.states c.past_shorter-near.result)
          (yes_no t.states c.readers-far.result) (c.past_shorter-near.ensures.answer t g)
          (c.readers-far.ensures.answer t g));
    }

pub returns : goal.returns
returns c =
    let a = c.args in
    let t = lent_edges a.grouped.now in
    record {
      answer = c.told-2.ensures.answer ∙ ∥∥₁_elim a.grouped.now.laid (hlevel props) (λ g.
          block_read (rows_of t) a.m a.a a.words.now a.i (yes_no t.states c.past_set-past.result)
          (yes_no t.states c.readers-ahead.result) (c.past_set-past.ensures.answer t g)
          (c.readers-ahead.ensures.answer t g));
    }
