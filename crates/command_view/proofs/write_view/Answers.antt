-- View by view.
use Rattle.laws.proofs.All.{sym, ap}
use Rattle.text.proofs.Adding.{added-same}
use Rattle.command_view.specs.Viewing.{view_text}
use Rattle.command_view.proofs.write_view.Goals as goal

pub returns-in-Check-clause-written : goal.returns-in-Check-clause-written
returns-in-Check-clause-written c =
    let t = c.args.t.now in
    added-same (ap (λ v. view_text v t) (sym c.in-Check.is)) c.put.ensures.written

pub returns-in-Show-clause-written : goal.returns-in-Show-clause-written
returns-in-Show-clause-written c =
    let t = c.args.t.now in
    added-same (ap (λ v. view_text v t) (sym c.in-Show.is)) c.write_show.ensures.written

pub returns-in-Draw-clause-written : goal.returns-in-Draw-clause-written
returns-in-Draw-clause-written c =
    let t = c.args.t.now in
    added-same (ap (λ v. view_text v t) (sym c.in-Draw.is)) c.write_draw.ensures.written
