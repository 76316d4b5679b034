-- The text of `show`, part by part.
-- In order: whole→; shown-is, nothing-shown.
-- Assumes nothing.
use Rattle.std.proofs.Common.{◌≡◌, ◌&&◌, ◌++◌}
use Rattle.laws.proofs.All.{true, false, [], T, leb, and→}
use Rattle.table.specs.declared.Table.{Table}
use Rattle.table.specs.Edges.{lent}
use Rattle.table.specs.Value.{code_in, Ready, ready}
use Rattle.table.proofs.ReadyTables.{ready→}
use Rattle.table.proofs.RowsOf.{length-rows}
use Rattle.constraint.specs.Value.{constraint_of}
use Rattle.view_listing.specs.Listing.{listing}
use Rattle.view_show.specs.Limits.{constraint_lines}
use Rattle.view_show.specs.Shown.{rate_line, window_line, closing_line, shown, whole, show_text}

pub whole→ : (t : Table) → T (whole t) → Ready t
whole→ t h =
    let (m, g) = and→ (leb t.memory 15) (leb t.lookahead 15 && ready t) h in
    let (a, r) = and→ (leb t.lookahead 15) (ready t) g in
    ready→ t r

pub shown-is : (t : Table) → whole t ≡ true
    → rate_line t.p t.q t.states ++ window_line t.memory t.lookahead
    ++ constraint_lines (constraint_of t.constraint) t.start ++ closing_line t.tail ++ listing (code_in t)
    ≡ show_text t
unfolding show_text shown
shown-is t e = rw (e, length-rows (lent t))

pub nothing-shown : (t : Table) → whole t ≡ false → [] ≡ show_text t
unfolding show_text
nothing-shown t e = rw e
