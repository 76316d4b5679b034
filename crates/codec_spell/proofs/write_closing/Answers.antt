use Rattle.std.proofs.Common.{◌≡◌, ◌+◌, ◌-◌, ◌*◌, ◌<◌}
use Rattle.laws.proofs.All.{sym, ℕ, arith, length, get_or, take, replicate}
use Rattle.laws.proofs.All.{length-replicate, get_or-replicate, take-append-drop, length-take-le}
use Rattle.table.specs.Lent.{edges_in}
use Rattle.codec_spell.proofs.Writing.{writes_start, writes_more, writes_end}
use Rattle.codec_spell.proofs.write_closing.Goals.{In-loop-i}
use Rattle.codec_spell.proofs.write_closing.Goals as goal

-- the datum in hand
datum-is : (c : In-loop-i)
    → get_or (replicate (c.args.end - c.args.at) c.args.datum) (c.loop-i.i - c.args.at) 0 ≡ c.args.datum
datum-is c =
    let a = c.args in
    get_or-replicate {A = ℕ} (a.end - a.at) (c.loop-i.i - a.at) a.datum 0 (omega arith)

pub loop-i-init : goal.loop-i-init
loop-i-init c =
    let a = c.args in
    let z : a.at - a.at ≡ 0 = omega arith in
    rw z (writes_start (edges_in a.edges) (take a.at a.out.now) a.state (replicate (a.end - a.at) a.datum) a.out.now
    a.at (length-take-le a.at a.out.now (omega arith)) c.requires.1 (sym (take-append-drop a.at a.out.now)))

pub loop-i-preserved : goal.loop-i-preserved
loop-i-preserved c =
    let a = c.args in
    let l = c.loop-i in
    let D = replicate (a.end - a.at) a.datum in
    let z = datum-is (goal.at.loop-i-preserved c).In-loop-i in
    let d : get_or D (l.i - a.at) 0 < a.edges.ways = omega (arith, z) in
    let e : l.current * 16 + a.datum ≡ l.current * 16 + get_or D (l.i - a.at) 0 = omega (arith, z) in
    let k : l.i - a.at < length D = rw (length-replicate {A = ℕ} (a.end - a.at) a.datum) (omega arith) in
    writes_more (edges_in a.edges) (take a.at a.out.now) a.state D a.out.now (l.i - a.at) l.i l.current l.out
    l.invariant a.edges.fits (l.i + 1 - a.at) _ (omega arith) e k d (omega arith)

pub returns : goal.returns
returns c =
    let a = c.args in
    let l = c.loop-i in
    let D = replicate (a.end - a.at) a.datum in
    record {
      written = (writes_end (edges_in a.edges) (take a.at a.out.now) a.state D a.out.now (l.i - a.at) l.i l.current
          l.out l.invariant a.end (omega arith) (rw (length-replicate {A = ℕ} (a.end - a.at) a.datum) (omega arith))).1;
    }
