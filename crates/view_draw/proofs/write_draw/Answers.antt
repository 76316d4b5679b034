-- Nothing, the diagram or the matrix.
use Rattle.std.proofs.Common.{◌≡◌}
use Rattle.laws.proofs.All.{sym, subst, ◌∙◌, true, T}
use Rattle.table.specs.Value.{Ready, ready}
use Rattle.table.proofs.ReadyTables.{ready→}
use Rattle.text.proofs.Adding.{added-same}
use Rattle.view_draw.proofs.Diagrams.{diagram-drawn, matrix-drawn, nothing-drawn}
use Rattle.view_draw.proofs.write_draw.Goals.{Else-not-is_ready}
use Rattle.view_draw.proofs.write_draw.Goals as goal

-- the table is ready
passed : (c : Else-not-is_ready) → ready c.args.t.now ≡ true
passed c = sym c.is_ready.ensures.answer ∙ c.if-not-is_ready.false

good : (c : Else-not-is_ready) → Ready c.args.t.now
good c = ready→ c.args.t.now (subst T (sym (passed c)) tt)

pub returns-then-not-is_ready-clause-written : goal.returns-then-not-is_ready-clause-written
returns-then-not-is_ready-clause-written c =
    added-same (nothing-drawn _ (sym c.is_ready.ensures.answer ∙ c.if-not-is_ready.true)) c.put.ensures.written

pub write_diagram-requires : goal.write_diagram-requires
write_diagram-requires c = (good (goal.at.write_diagram-requires c).Else-not-is_ready, c.ways-n.ensures.answer.0)

pub returns-then-t-le24-clause-written : goal.returns-then-t-le24-clause-written
returns-then-t-le24-clause-written c =
    added-same
    (diagram-drawn c.args.t.now (passed (goal.at.returns-then-t-le24-clause-written c).Else-not-is_ready)
    c.if-t-le24.true)
    c.write_diagram.ensures.written

pub write_matrix-requires : goal.write_matrix-requires
write_matrix-requires c = (good (goal.at.write_matrix-requires c).Else-not-is_ready, c.ways-n.ensures.answer.0)

pub returns-else-t-le24-clause-written : goal.returns-else-t-le24-clause-written
returns-else-t-le24-clause-written c =
    added-same
    (matrix-drawn c.args.t.now (passed (goal.at.returns-else-t-le24-clause-written c).Else-not-is_ready)
    c.if-t-le24.false)
    c.write_matrix.ensures.written

pub ways-n-requires : goal.ways-n-requires
ways-n-requires c = (good c).narrow
