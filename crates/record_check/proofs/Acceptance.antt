-- A table is accepted exactly when every recording obeys the constraint and the window does what it must.
-- In order: formed-closed; window-exact; accepted-exact; sound.
-- Assumes nothing.
use Rattle.std.proofs.Common.{◌↔◌}
use Rattle.laws.proofs.All.{T, length, and→, →and}
use Rattle.table.specs.Rows.{Code}
use Rattle.table.specs.Paths.{Closed}
use Rattle.window.specs.Window.{Window}
use Rattle.window.specs.Works.{works}
use Rattle.record_obeys.specs.Obeys.{obeys}
use Rattle.table.specs.Formed.{Formed}
use Rattle.record_check.specs.Accepted.{Accepted, accepted, Sound}
use Rattle.table.proofs.Shape.{full, targets}
use Rattle.window.proofs.Window.{works-sound, works-complete}
use Rattle.record_obeys.proofs.Exact.{obeys-exact}

pub formed-closed : (c : Code) → Formed c → Closed c.table
formed-closed c f = targets c.p c.q (length c.table) c.table f.rows

pub window-exact : (c : Code) → Formed c → T (works c.table c.window) ↔ Window c.table c.window
window-exact c f = (
  works-sound c.table c.window (formed-closed c f) f.range.s₁,
  works-complete c.table c.window,
)

pub accepted-exact : (c : Code) → Formed c → T (accepted c) ↔ Accepted c
accepted-exact c f = (
  (λ t.
      let (a, w) = and→ (obeys c) (works c.table c.window) t in
      ((obeys-exact c f).0 a, (window-exact c f).0 w)),
  (λ (o, w). →and (obeys c) (works c.table c.window) ((obeys-exact c f).1 o) ((window-exact c f).1 w)),
)

-- what encoding and decoding need of an accepted table
pub sound : (c : Code) → Formed c → Window c.table c.window → Sound c
sound c f w = record {
  some = f.range.s₁;
  closed = formed-closed c f;
  full = full c.p c.q (length c.table) c.table f.rows;
  window = w;
  tail = f.range.tail;
}
