-- `bits::put` meets its contract: the field is replaced in the byte that holds it, or its high bits in one byte and
-- its low bits in the next.
use Rattle.std.proofs.Common.{◌≡◌, ◌++◌, ◌+◌, ◌-◌, ◌/◌, ◌%◌, ◌^◌, ◌<◌}
use Rattle.laws.proofs.All.{refl, sym, ap, subst, ◌∙◌, mod-lt, arith}
use Rattle.laws.proofs.All.{take, drop, get_or, set, length-set, pow_pos, shr_lt}
use Rattle.bits.specs.Fields.{bits, bits_of}
use Rattle.bits.specs.Bytes.{replaced}
use Rattle.bits.proofs.Puts.{put-none, put-near, put-far}
use Rattle.bits.proofs.put.Goals as goal

pub returns-then-width-eq0 : goal.returns-then-width-eq0
returns-then-width-eq0 c =
    let a = c.args in
    record { written = put-none (bits_of a.bytes.now) a.at a.width a.value (omega arith); kept = refl }

pub returns-then-end-le8 : goal.returns-then-end-le8
returns-then-end-le8 c =
    let a = c.args in
    let r = c.low_bits.result in
    let e : r ≡ a.at % 2 ^ 3 = c.low_bits.ensures.answer in
    record {
      written = ap (λ x. bits_of (set a.bytes.now (a.at / 8) x)) c.replace.ensures.answer
          ∙ put-near a.bytes.now a.at (a.at / 8) r a.width (8 - (r + a.width)) a.value (omega arith)
          (omega arith) (omega arith) c.requires.2;
      kept = simp length-set;
    }

pub replace-requires-2 : goal.replace-requires-2
replace-requires-2 c =
    let a = c.args in
    let r = c.low_bits.result in
    let m = r + a.width - 8 in
    let e : a.width ≡ a.width - m + m = omega arith in
    let h : a.value < 2 ^ (a.width - m + m) =
    subst (λ n. a.value < 2 ^ n) e c.requires.2 in
    (omega arith, shr_lt (a.width - m) m h)

pub bounds-bytes-i-4 : goal.bounds-bytes-i-4
bounds-bytes-i-4 c = simp length-set (omega arith)

pub replace-requires-3 : goal.replace-requires-3
replace-requires-3 c =
    let m = c.low_bits.result
    + c.args.width - 8 in
    (omega arith, rw c.low_bits-2.ensures.answer (mod-lt _ (pow_pos m)))

pub bounds-bytes-i-5 : goal.bounds-bytes-i-5
bounds-bytes-i-5 c = simp length-set (omega arith)

pub returns : goal.returns
returns c =
    let a = c.args in
    let s = a.bytes.now in
    let r = c.low_bits.result in
    let m = r + a.width - 8 in
    let x = c.replace-2.result in
    let d : r ≡ a.at % 2 ^ 3 = c.low_bits.ensures.answer in
    let e : a.width - m + m ≡ a.width = omega arith in
    let h : a.value < 2 ^ (a.width - m + m) =
    subst (λ n. a.value < 2 ^ n) (sym e)
    c.requires.2 in
    record {
      written = ap (λ y. bits_of (set (set s (a.at / 8) x) (a.at / 8 + 1) y)) (c.replace-3.ensures.answer
          ∙ ap (replaced (get_or (set s (a.at / 8) x) (a.at / 8 + 1) 0) m (8 - m)) c.low_bits-2.ensures.answer)
          ∙ put-far s a.at (a.at / 8) r (a.width - m) m (8 - m) a.value x (omega arith)
          (omega arith) (omega arith)
          (omega arith) h c.replace-2.ensures.answer
          ∙ ap (λ n. take a.at (bits_of s) ++ bits n a.value ++ drop (a.at + n) (bits_of s)) e;
      kept = simp length-set;
    }
