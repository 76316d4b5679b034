-- `table_of` meets its contract: the constraint and both arrays are read from the places where their fields stand.
use Rattle.laws.proofs.All.{arith, length}
use Rattle.bits.specs.Fields.{bits_of}
use Rattle.record.proofs.Sizes.{edge-count-le, reach-words, reach-nexts}
use Rattle.record.proofs.RecordTables.{code_is}
use Rattle.record.proofs.columns.table_of.Goals as goal

pub overflow_mul-edges : goal.overflow_mul-edges
overflow_mul-edges c =
    record {
      fits = omega (
        arith,
        edge-count-le c.args.f c.power-n.result c.requires.0
            c.power-n.ensures.answer,
      );
    }

pub column-word-requires : goal.column-word-requires
column-word-requires c =
    reach-words c.args.f c.power-n.result (length c.args.bytes.now) c.requires.0
    c.power-n.ensures.answer c.requires.1

pub column-next-requires : goal.column-next-requires
column-next-requires c =
    reach-nexts c.args.f c.power-n.result (length c.args.bytes.now) c.requires.0
    c.power-n.ensures.answer c.requires.1

pub returns : goal.returns
returns c =
    let a = c.args in
    record {
      answer = code_is a.f (bits_of a.bytes.now) c.column-word.result c.column-next.result _
          c.power-n.result
          c.power-n.ensures.answer c.states_of-constraint.ensures.answer c.column-word.ensures.answer
          c.column-next.ensures.answer;
    }
