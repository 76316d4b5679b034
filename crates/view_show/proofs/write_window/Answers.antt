-- By the test.
use Rattle.laws.proofs.All.{eq-eqb, ne_eqb, ⊎_elim}
use Rattle.view_show.specs.Shown.{window_line}
use Rattle.view_show.proofs.write_window.Goals as goal

pub returns-then-a-eq0-clause-written : goal.returns-then-a-eq0-clause-written
unfolding window_line
returns-then-a-eq0-clause-written c =
    rw (eq-eqb _ _ c.if-m-eq0.true, eq-eqb _ _ c.if-a-eq0.true) c.write_sentence.ensures.written

pub returns-else-m-eq0-clause-written : goal.returns-else-m-eq0-clause-written
unfolding window_line
returns-else-m-eq0-clause-written c =
    ⊎_elim
    (λ h. rw (eq-eqb c.args.m 0 h.0, ne_eqb c.args.a 0 h.1) c.write_sentence-else-m-eq0.ensures.written)
    (λ h. rw (ne_eqb c.args.m 0 h) c.write_sentence-else-m-eq0.ensures.written)
    c.else-m-eq0.either
