-- `front_of` meets its contract: each number is the field at its place.
use Rattle.bits.specs.Fields.{bits_of}
use Rattle.record.proofs.Sizes.{front-is}
use Rattle.record.proofs.numbers.front_of.Goals as goal

pub returns : goal.returns
returns c =
    record {
      answer = front-is (bits_of c.args.bytes.now) _ _ _ _ _ _ _ _ (
        c.get-p.ensures.answer,
        (
          c.get-q.ensures.answer,
          (
            c.get.ensures.answer,
            (
              c.get-memory.ensures.answer,
              (
                c.get-lookahead.ensures.answer,
                (c.get-2.ensures.answer, (c.get-start.ensures.answer, (c.get-tail.ensures.answer, tt))),
              ),
            ),
          ),
        ),
      );
    }
