-- `bring` meets its contract: where there are no bytes left the job brings no weights.
use Rattle.laws.proofs.All.{sym, ap, ◌∙◌, length}
use Rattle.constraint.specs.Value.{constraint_of}
use Rattle.compile_job.specs.Jobs.{brought, held_with}
use Rattle.compile_job.proofs.Weights.{bringing-none, bringing-some, sized-more}
use Rattle.compile_job.proofs.bringing.bring.Goals as goal

pub weights_at-weight-requires : goal.weights_at-weight-requires
weights_at-weight-requires c =
    let a = c.args in
    (c.requires.0, c.requires.1, sized-more a.size a.c.states (length a.bytes.now) c.requires.2 c.if-bytes-size.false)

pub returns-then-bytes-size : goal.returns-then-bytes-size
returns-then-bytes-size c =
    let a = c.args in
    record {
      answer = ap (held_with a.p a.q a.cap (constraint_of a.c))
          (sym (bringing-none a.size a.bytes.now c.if-bytes-size.true));
    }

pub returns : goal.returns
returns c =
    let a = c.args in
    record {
      answer = ap (λ u. held_with a.p a.q a.cap (constraint_of a.c) (brought u)) c.weights_at-weight.ensures.answer
          ∙ ap (held_with a.p a.q a.cap (constraint_of a.c))
          (sym (bringing-some a.size a.bytes.now c.if-bytes-size.false));
    }
