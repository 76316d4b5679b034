use Rattle.std.proofs.Common.{◌≡◌, ◌+◌, ◌*◌, ◌/◌, ◌%◌, ◌^◌, ◌≤◌, ◌<◌}
use Rattle.laws.proofs.All.{refl, ap, ◌∙◌, mul-le-mul_right, mod-lt}
use Rattle.laws.proofs.All.{div-lt_iff_lt-mul, arith, length, get_or, pow_pos, pow_mono}
use Rattle.bits.specs.Bytes.{spliced}
use Rattle.bits.specs.Fields.{bits_of}
use Rattle.bits.proofs.Puts.{length-bits_of}
use Rattle.record.specs.Places.{spot}
use Rattle.record.proofs.Fills.{spot-lt}
use Rattle.record.proofs.Sizes.{place-le, product_le}
use Rattle.record.proofs.RecordRuns.{edges_bits, edges-begin, edges-next, edges-all}
use Rattle.record_write.proofs.put_edges.Goals.{In-loop-e}
use Rattle.record_write.proofs.put_edges.Goals as goal

-- n is 2 to the p, and not more than 16
n-is : (c : In-loop-e) → c.power-n.result
    ≡ 2 ^ c.args.t.p
n-is c = c.power-n.ensures.answer

some : (c : In-loop-e) → 1 ≤ c.power-n.result
some c = rw (n-is c) (pow_pos c.args.t.p)

few : (c : In-loop-e) → c.power-n.result ≤ 16
few c = rw (n-is c) (pow_mono {i = c.args.t.p} {j = 4}
    c.requires.0.narrow)

-- the edge stands within the arrays
within : (c : In-loop-e) → spot c.power-n.result c.loop-e.e < 2048
within c =
    let n = c.power-n.result in
    spot-lt n c.loop-e.e (c.args.t.states * n) (some c) (few c) c.loop-e-test.true
    (mul-le-mul_right n c.requires.0.few)

-- its fields stand within the record
ends : (c : In-loop-e)
    → c.args.first
    + c.loop-e.e * (c.args.t.q + 7)
    + (c.args.t.q + 7) ≤ 8 * length c.loop-e.out
ends c =
    let n = c.power-n.result in
    let d = c.args.t.q + 7 in
    let h : c.args.first + c.args.t.states * n * d ≤ 8 * length c.args.out.now = rw (n-is c) c.requires.2 in
    place-le c.args.first (c.args.t.states * n) d d (8 * length c.loop-e.out) c.loop-e.e
    c.loop-e-test.true (omega (arith, c.loop-e.invariant.0))

-- and its number is small
small : (c : In-loop-e) → c.loop-e.e * (c.args.t.q + 7)
    ≤ 30720
small c =
    let n = c.power-n.result in
    let m : c.args.t.states * n ≤ 128 * 16 = product_le c.args.t.states n 128 16 c.requires.0.few (few c) in
    product_le c.loop-e.e (c.args.t.q + 7) 2048 15 (omega (arith, c.loop-e-test.true))
    (omega (arith, c.requires.0.short))

-- the edge leads to a state
target : (c : In-loop-e)
    → get_or c.args.t.next
    (spot c.power-n.result c.loop-e.e) 0
    < c.args.t.states
target c =
    let n = c.power-n.result in
    let e = c.loop-e.e in
    let s : e / n < c.args.t.states =
    (div-lt_iff_lt-mul {k = n} {x = e} {y = c.args.t.states} (some c)).1 c.loop-e-test.true in
    c.requires.0.inside (e / n) (e % n) s (rw (← n-is c) (mod-lt e {m = n} (some c)))

pub overflow_mul-e-end : goal.overflow_mul-e-end
overflow_mul-e-end c =
    let f : c.power-n.result ≤ 16 = rw c.power-n.ensures.answer
    (pow_mono {i = c.args.t.p} {j = 4} c.requires.0.narrow) in
    record { fits = omega (arith, product_le c.args.t.states c.power-n.result 128 16 c.requires.0.few f) }

pub loop-e-init : goal.loop-e-init
loop-e-init c =
    let a = c.args in
    (refl, edges-begin a.t c.power-n.result (bits_of a.out.now) a.first)

pub nonzero_div-i : goal.nonzero_div-i
nonzero_div-i c = some c

pub overflow_mul-i : goal.overflow_mul-i
overflow_mul-i c = record { fits = omega (arith, within c) }

pub nonzero_rem-i : goal.nonzero_rem-i
nonzero_rem-i c = some c

pub overflow_add-i : goal.overflow_add-i
overflow_add-i c = record { fits = omega (arith, within c) }

pub overflow_mul-at : goal.overflow_mul-at
overflow_mul-at c = record { fits = omega (arith, small c) }

pub overflow_add-at-in-loop-e : goal.overflow_add-at-in-loop-e
overflow_add-at-in-loop-e c = record { fits = omega (arith, small c, c.requires.1) }

pub bounds-t-i : goal.bounds-t-i
bounds-t-i c = within (goal.at.bounds-t-i c).In-loop-e

pub put_low-requires : goal.put_low-requires
put_low-requires c = (
  c.requires.0.short,
  omega
      (arith, ends (goal.at.put_low-requires c).In-loop-e),
)

pub overflow_add-at-in-loop-e-2 : goal.overflow_add-at-in-loop-e-2
overflow_add-at-in-loop-e-2 c =
    record {
      fits = omega (
        arith,
        small (goal.at.overflow_add-at-in-loop-e-2 c).In-loop-e,
        c.requires.1,
        c.requires.0.short,
      );
    }

pub bounds-t-i-in-loop-e : goal.bounds-t-i-in-loop-e
bounds-t-i-in-loop-e c = within (goal.at.bounds-t-i-in-loop-e c).In-loop-e

pub overflow_cast-t-in-loop-e : goal.overflow_cast-t-in-loop-e
overflow_cast-t-in-loop-e c =
    record { fits = omega (arith, target (goal.at.overflow_cast-t-in-loop-e c).In-loop-e, c.requires.0.few) }

pub put_low-requires-in-loop-e : goal.put_low-requires-in-loop-e
put_low-requires-in-loop-e c =
    (omega arith, omega (arith, c.put_low.ensures.kept, ends (goal.at.put_low-requires-in-loop-e c).In-loop-e))

pub loop-e-preserved : goal.loop-e-preserved
loop-e-preserved c =
    let a = c.args in
    let o = a.out.now in (
      c.put_low-in-loop-e.ensures.kept ∙ c.put_low.ensures.kept ∙ c.loop-e.invariant.0,
      edges-next a.t c.power-n.result c.loop-e.e a.first (a.first + c.loop-e.e * (a.t.q + 7))
          (bits_of o)
          (bits_of c.loop-e.out) _ _ refl
          (omega (arith, ends (goal.at.loop-e-preserved c).In-loop-e, length-bits_of o, c.loop-e.invariant.0))
          (omega (arith, length-bits_of o, length-bits_of c.loop-e.out, c.loop-e.invariant.0))
          c.loop-e.invariant.1 c.put_low.ensures.written c.put_low-in-loop-e.ensures.written,
    )

pub returns : goal.returns
returns c =
    let a = c.args in
    let n = c.power-n.result in
    let e : c.loop-e.e ≡ a.t.states * n = omega arith in
    record {
      written = c.loop-e.invariant.1 ∙ ap (λ k. spliced a.first (edges_bits a.t n k) (bits_of a.out.now)) e
          ∙ ap (λ m. spliced a.first (edges_bits a.t m (a.t.states * m)) (bits_of a.out.now))
          c.power-n.ensures.answer
          ∙ ap (λ x. spliced a.first x (bits_of a.out.now)) (edges-all a.t);
      kept = c.loop-e.invariant.0;
    }
