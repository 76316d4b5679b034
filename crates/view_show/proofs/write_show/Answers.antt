-- The lines are put in a row.
use Rattle.laws.proofs.All.{sym, subst, ◌∙◌, T}
use Rattle.text.proofs.Adding.{added-same, ◌then◌}
use Rattle.view_show.proofs.Shown.{whole→, shown-is, nothing-shown}
use Rattle.view_show.proofs.write_show.Goals as goal

pub returns-then-not-is_whole-clause-written : goal.returns-then-not-is_whole-clause-written
returns-then-not-is_whole-clause-written c =
    added-same (nothing-shown _ (sym c.is_whole.ensures.answer ∙ c.if-not-is_whole.true)) c.put.ensures.written

pub write_constraint-requires : goal.write_constraint-requires
write_constraint-requires c =
    (whole→ c.args.t.now (subst T (sym (sym c.is_whole.ensures.answer ∙ c.if-not-is_whole.false)) tt)).limits

pub write_listing-requires : goal.write_listing-requires
write_listing-requires c =
    whole→ _ (subst T (sym (sym c.is_whole.ensures.answer ∙ c.if-not-is_whole.false)) tt)

pub returns-clause-written : goal.returns-clause-written
returns-clause-written c =
    added-same (shown-is _ (sym c.is_whole.ensures.answer ∙ c.if-not-is_whole.false))
    (c.write_sentence.ensures.written then c.write_window.ensures.written then c.write_constraint.ensures.written
    then c.write_sentence-2.ensures.written then c.write_listing.ensures.written)
