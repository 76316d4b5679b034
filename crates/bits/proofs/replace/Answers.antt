-- `bits::replace` meets its contract: the three runs of bits stand apart, so the ors add them.
use Rattle.std.proofs.Common.{◌≡◌, ◌+◌, ◌-◌, ◌^◌, ◌<◌}
use Rattle.laws.proofs.All.{refl, subst, arith}
use Rattle.bits.specs.Bytes.{replaced}
use Rattle.bits.proofs.Bytes.{replaced-or, replaced-lt}
use Rattle.bits.proofs.replace.Goals as goal

pub overflow_cast-result : goal.overflow_cast-result
overflow_cast-result c =
    let a = c.args in
    let k = 8 - (a.width + a.behind) in
    let e : k + (a.width + a.behind) ≡ 8 = omega arith in
    let b : a.b < 2 ^ (k + (a.width + a.behind)) = rw e c.ranges.b.fits in
    let h = subst (λ n. replaced a.b a.width a.behind a.value < 2 ^ n) e
    (replaced-lt k a.width a.behind a.b a.value b c.requires.1) in
    record {
      fits = rw (replaced-or (a.width + a.behind) a.width a.behind a.b a.value c.low_bits-rest.result
          refl (omega arith) c.ranges.b.fits c.requires.1 c.low_bits-rest.ensures.answer) h;
    }

pub returns : goal.returns
returns c =
    let a = c.args in
    record {
      answer = replaced-or (a.width + a.behind) a.width a.behind a.b a.value c.low_bits-rest.result refl
          (omega arith)
          c.ranges.b.fits c.requires.1 c.low_bits-rest.ensures.answer;
    }
