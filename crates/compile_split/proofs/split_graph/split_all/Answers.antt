use Rattle.std.proofs.Common.{◌≡◌, None, rules}
use Rattle.laws.proofs.All.{sym, ◌∙◌, arith}
use Rattle.compile_split.proofs.SplitLoop.{going_start, going-room, going-splits, going_on, going-grows}
use Rattle.compile_split.proofs.SplitLoop.{going-crowded, going_end}
use Rattle.compile_split.proofs.split_graph.split_all.Goals as goal

pub loop-h-init : goal.loop-h-init
loop-h-init c = going_start c.args.n c.args.g c.requires

pub is_unfinished-requires : goal.is_unfinished-requires
is_unfinished-requires c = c.loop-h.invariant.fits

pub split-requires : goal.split-requires
split-requires c =
    let l = c.loop-h in
    let p = c.args in
    let u = sym c.is_unfinished.ensures.answer ∙ c.loop-h-test.true in (
      l.invariant.fits,
      going-room p.n p.g l.h c.requires l.invariant u,
      c.requires.some,
      c.requires.few,
      going-splits p.n p.g l.h c.requires l.invariant u,
    )

pub returns-in_err-h : goal.returns-in_err-h
returns-in_err-h c =
    let u = sym c.is_unfinished.ensures.answer ∙ c.loop-h-test.true in
    let e : c.from_residual.result ≡ None = search rules in
    record {
      answer = rw e (going-crowded c.args.n c.args.g c.loop-h.h c.requires c.loop-h.invariant u
          c.in_err-h.ensures.answer);
    }

pub loop-h-smaller : goal.loop-h-smaller
loop-h-smaller c =
    let l = c.loop-h in
    let p = c.args in
    let u = sym c.is_unfinished.ensures.answer ∙ c.loop-h-test.true in
    omega (
      arith,
      going-room p.n p.g l.h c.requires l.invariant u,
      going-grows p.n p.g l.h c.requires l.invariant u _ c.in_ok-h.ensures.answer,
    )

pub loop-h-preserved : goal.loop-h-preserved
loop-h-preserved c =
    let l = c.loop-h in
    let p = c.args in
    let u = sym c.is_unfinished.ensures.answer ∙ c.loop-h-test.true in
    going_on p.n p.g l.h c.requires l.invariant u _ c.in_ok-h.ensures.answer

pub returns : goal.returns
returns c =
    record {
      answer = going_end c.args.n c.args.g c.loop-h.h c.requires c.loop-h.invariant
          (sym c.is_unfinished.ensures.answer ∙ c.loop-h-test.false);
    }
