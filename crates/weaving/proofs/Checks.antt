-- What the checks of weaving and unweaving let pass.
-- In order: Passed, passed.
-- Assumes nothing.
use Rattle.std.proofs.Common.{◌≡◌, ◌*◌, ◌/◌, ◌≤◌}
use Rattle.laws.proofs.All.{sym, ◌∙◌, ℕ, mul_comm, T, leb}
use Rattle.laws.proofs.All.{leb→le}
use Rattle.answer.specs.declared.Refusal.TheVariants.{Depth, ShortOutput}
use Rattle.answer.specs.Outcomes.{done, unless}
use Rattle.answer.proofs.Outcomes.{unless→}
use Rattle.weaving.specs.Weaving.{good_depth, checked}
use Rattle.weaving.proofs.Weaving.{depth→}

-- n words that pass: the depth is good, there is room, and they are that many recordings of equal length
pub record Passed (D n room : ℕ) : Type 0 where
  pub done : checked D n room ≡ done n
  pub good : T (good_depth D n)
  pub fits : n ≤ room
  pub deep : 2 ≤ D
  pub rows : n ≡ D * (n / D)
  pub columns : n ≡ n / D * D

pub passed : (D n room : ℕ) → done n ≡ checked D n room → Passed D n room
passed D n room e =
    let d : checked D n room ≡ done n = sym e in
    let (g, f) = unless→ Depth (good_depth D n) (unless ShortOutput (leb n room) (done n)) n d in
    let (l, h, w) = depth→ D n g in
    record {
      done = d;
      good = g;
      fits = leb→le n room (unless→ ShortOutput (leb n room) (done n) n f).0;
      deep = l;
      rows = w;
      columns = w ∙ mul_comm D (n / D);
    }
