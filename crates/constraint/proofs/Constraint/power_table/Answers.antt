-- After the last word of a state the places up to the next state's hold none, as do those beyond the last state's.
use Rattle.std.proofs.Common.{None, ◌≡◌, ◌+◌, ◌*◌, ◌%◌, ◌^◌, ◌≤◌}
use Rattle.laws.proofs.All.{ap, ◌∙◌, ℕ, arith, length, one-mul, lit<, pow_mono, shl_exact}
use Rattle.constraint.specs.Value.{constraint_of}
use Rattle.constraint.specs.PowerTable.{next_of}
use Rattle.constraint.proofs.Values.{length-constraint_of, fill_none}
use Rattle.constraint.proofs.PowerTable.{row_more, row_done, rows-done, filled-power}
use Rattle.constraint.proofs.Constraint.power_table.Goals as goal

words-are : (q : ℕ) → q ≤ 8 → (1 * 2 ^ q % 2 ^ 64 ≡ 2 ^ q) × (2 ^ q ≤ 256)
words-are q h = (shl_exact {a = 1} 1 q 64 (lit< tt) (omega arith) ∙ one-mul (2 ^ q), pow_mono h)

pub loop-s-init : goal.loop-s-init
loop-s-init c = fill_none _ None 4096

pub loop-w-preserved : goal.loop-w-preserved
loop-w-preserved c =
    let l = c.loop-w in
    let a = c.args in
    let n = length-constraint_of a.self.now in
    let (e, f) = words-are a.q c.requires.1 in
    row_more (constraint_of a.self.now) a.q c.loop-s.s l.w l.table c.next_of.result (omega arith) (omega arith) (omega arith)
    (omega arith) (c.next_of.ensures.answer ∙ ap next_of c.walk.ensures.answer) l.invariant

pub loop-s-preserved : goal.loop-s-preserved
loop-s-preserved c =
    let l = c.loop-w in
    let a = c.args in
    let (e, f) = words-are a.q c.requires.1 in
    let k : c.loop-s.s * 256 + 256 ≡ (c.loop-s.s + 1) * 256 = omega arith in
    rw k at (row_done (constraint_of a.self.now) a.q c.loop-s.s l.w l.table (omega arith) (omega arith) l.invariant)

pub returns : goal.returns
returns c =
    let a = c.args in
    let l = c.loop-s in
    let n = length-constraint_of a.self.now in
    let e : l.s * 256 ≡ length (constraint_of a.self.now) * 256 = omega arith in
    record {
      answer = filled-power (constraint_of a.self.now) a.q l.table
          (rows-done (constraint_of a.self.now) a.q l.table (omega arith) (rw e at l.invariant));
    }
