-- `bit_count` meets its contract: the numbers are small, so nothing wraps.
use Rattle.std.proofs.Common.{◌+◌, ◌*◌}
use Rattle.laws.proofs.All.{ap, arith}
use Rattle.record.specs.Layout.{header_bits, state_size}
use Rattle.record.proofs.Sizes.{row-le, edges_le}
use Rattle.record.proofs.numbers.bit_count.Goals as goal

pub overflow_mul-result-2 : goal.overflow_mul-result-2
overflow_mul-result-2 c =
    let f = c.args.f in
    record { fits = rw c.power-n.ensures.answer (omega (arith, row-le f c.requires)) }

pub overflow_mul-result-3 : goal.overflow_mul-result-3
overflow_mul-result-3 c =
    let f = c.args.f in
    record {
      fits = rw c.power-n.ensures.answer
          (omega (arith, edges_le f c.requires));
    }

pub overflow_add-result-3 : goal.overflow_add-result-3
overflow_add-result-3 c =
    let f = c.args.f in
    record {
      fits = rw c.power-n.ensures.answer
          (omega (
            arith,
            edges_le f c.requires,
            c.requires.k₂,
          ));
    }

pub returns : goal.returns
returns c =
    let f = c.args.f in
    record {
      answer = ap (λ n. header_bits + state_size * f.count + f.states * (n * (f.q + 7)))
          c.power-n.ensures.answer;
    }
