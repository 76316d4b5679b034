-- Where no bit waits the bytes are the stream; where bits wait, they are shifted to the front of the last byte.
use Rattle.laws.proofs.All.{arith, below_all}
use Rattle.stream_pack.proofs.Waiting.{waits-whole, waits-filled}
use Rattle.stream_pack.proofs.writing.Waiting.put_fill.Goals as goal

pub returns-then-self-eq0 : goal.returns-then-self-eq0
returns-then-self-eq0 c =
    let a = c.args in
    record {
      written = λ q ws lent w. waits-whole q ws lent a.out.now a.self w
          (below_all 256 a.out.now (λ i. (c.type_inv.out i).fits)) c.if-self-eq0.true;
    }

pub returns : goal.returns
returns c =
    let a = c.args in
    record {
      written = λ q ws lent w. waits-filled q ws lent a.out.now a.self w
          (below_all 256 a.out.now (λ i. (c.slice_known-1.given i).fits)) _ c.low_bits.ensures.answer
          (omega (arith, c.if-self-eq0.false)) (omega (arith, c.if-self-eq0.false));
    }
