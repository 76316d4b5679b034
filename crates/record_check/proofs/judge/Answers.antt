-- `judge` meets its contract: each return follows the check that it comes from, 9 before 10.
use Rattle.laws.proofs.All.{sym, ◌∙◌, not-true, not-false}
use Rattle.table.specs.Value.{code_in}
use Rattle.table.proofs.ReadyTables.{ready→}
use Rattle.record_check.proofs.Follow.{followable, near, judged-disobeys, judged-fails, judged-good}
use Rattle.laws.proofs.All.{ap, not}
use Rattle.record_check.proofs.judge.Goals as goal

pub obeys-requires : goal.obeys-requires
obeys-requires c = followable c.args.t c.requires

pub returns-then-not-obeys : goal.returns-then-not-obeys
returns-then-not-obeys c =
    record {
      answer = sym (judged-disobeys (code_in c.args.t)
          (sym c.obeys.ensures.answer ∙ not-true c.obeys.result (ap not c.if-not-obeys.true)));
      kept = tt;
    }

pub works-requires : goal.works-requires
works-requires c =
    (ready→ c.args.t c.requires, near c.args.t c.requires)

pub returns-then-not-works : goal.returns-then-not-works
returns-then-not-works c =
    record {
      answer = sym (judged-fails (code_in c.args.t)
          (sym c.obeys.ensures.answer ∙ not-false c.obeys.result (ap not c.if-not-obeys.false))
          (sym c.works.ensures.answer ∙ not-true c.works.result (ap not c.if-not-works.true)));
      kept = tt;
    }

pub returns : goal.returns
returns c =
    record {
      answer = sym (judged-good (code_in c.args.t)
          (sym c.obeys.ensures.answer ∙ not-false c.obeys.result (ap not c.if-not-obeys.false))
          (sym c.works.ensures.answer ∙ not-false c.works.result (ap not c.if-not-works.false)));
      kept = c.requires;
    }
