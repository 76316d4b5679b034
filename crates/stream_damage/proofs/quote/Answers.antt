-- The last bit is within the longest stream and the blocks are quoted, or 15.
use Rattle.laws.proofs.All.{sym, ap, ◌∙◌, arith, lt-ltb, le-ltb}
use Rattle.table.specs.Formed.{Ranges, head}
use Rattle.table.specs.Value.{ready, code_in}
use Rattle.table.proofs.Formed.{formed→}
use Rattle.std.proofs.Common.{Ok}
use Rattle.stream_damage.specs.BitReach.{reach_in}
use Rattle.stream_damage.proofs.quote.Goals.{Start}
use Rattle.stream_damage.proofs.quote.Goals as goal

ranges : (c : Start) → Ranges (head (code_in c.args.t))
unfolding ready
ranges c = (formed→ (code_in c.args.t) c.requires).range

pub overflow_mul-t : goal.overflow_mul-t
overflow_mul-t c = omega (arith, (ranges (goal.at.overflow_mul-t c).Start).q₂)

pub blocks_of-requires : goal.blocks_of-requires
blocks_of-requires c =
    let r = ranges (goal.at.blocks_of-requires c).Start in
    (r.q₁, omega (arith, r.m, r.a), omega (arith, r.m, r.a), c.if-l-t.true)

pub returns-then-l-t : goal.returns-then-l-t
unfolding reach_in
returns-then-l-t c = record { answer = ap Ok c.blocks_of.ensures.answer ∙ sym (rw (lt-ltb _ _ c.if-l-t.true)) }

pub returns : goal.returns
unfolding reach_in
returns c = record { answer = sym (rw (le-ltb _ _ c.if-l-t.false)) }
