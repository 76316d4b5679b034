-- The two tests one after the other.
use Rattle.laws.proofs.All.{div-lt_iff_lt-mul, mod-lt, arith, lit<}
use Rattle.compile_reach.proofs.reaching.reaches_on.Goals as goal

pub leads_any-requires : goal.leads_any-requires
leads_any-requires c = (
  c.requires.0,
  c.requires.1,
  c.requires.2,
  (div-lt_iff_lt-mul {k = 16} {y = 16} (lit< tt)).1 (omega arith),
  mod-lt c.args.x {m = 16} (lit< tt),
)
