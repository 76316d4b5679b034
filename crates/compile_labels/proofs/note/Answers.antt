use Rattle.laws.proofs.All.{sym, ap, ◌∙◌, arith, length, get_or, take, length-set}
use mir.Syntax.{w8}
use mir.Val.{Fits}
use Rattle.compile_labels.specs.Parts.{noted}
use Rattle.compile_labels.proofs.Homes.{noted-none, note-put, note-skip}
use Rattle.std.proofs.Common.{◌≡◌, ◌<◌, rules}
use Rattle.compile_labels.proofs.note.Goals.{In-loop-d}
use Rattle.compile_labels.proofs.note.Goals as goal
use Rattle.compile_labels.proofs.note.Goals.{else-r-w, then-r-w}

pub loop-d-init : goal.loop-d-init
loop-d-init c =
    let a : length c.args.words ≡ 16 = search rules in
    let b : length c.args.home ≡ 256 = search rules in
    (omega arith, c.requires.0, c.requires.1, a, b, λ w h. sym (noted-none c.args.i c.args.home w))

word_small : (c : In-loop-d) → get_or c.args.words c.loop-d.d 0 < 256
word_small c = let b : Fits w8 (get_or c.args.words c.loop-d.d 0) = search rules in omega arith

pub loop-d-preserved : goal.loop-d-preserved
loop-d-preserved c =
    let l = c.loop-d in
    let a = c.args in
    elim c.if-r-w.branch [
      | then-r-w w ↦ (
        omega arith,
        l.invariant.1,
        l.invariant.2,
        l.invariant.3,
        ap length w.r-is ∙ length-set l.r (get_or a.words l.d 0) a.i ∙ l.invariant.4,
        λ x h. ap (λ r. get_or r x 0) w.r-is
            ∙ note-put a.words a.i l.d a.home l.r (omega arith) l.invariant.2 l.invariant.5 l.invariant.4
            (word_small (goal.at.loop-d-preserved c).In-loop-d) (omega (arith, w.if-r-w.true)) x h,
      )
      | else-r-w w ↦ (
        omega arith,
        l.invariant.1,
        l.invariant.2,
        l.invariant.3,
        ap length w.r-is ∙ l.invariant.4,
        λ x h. ap (λ r. get_or r x 0) w.r-is
            ∙ note-skip a.words a.i l.d a.home l.r (omega arith) l.invariant.2 l.invariant.5 w.if-r-w.false x h,
      )
    ]

pub returns : goal.returns
returns c =
    let l = c.loop-d in
    let a = c.args in
    let e : l.d ≡ a.n = omega arith in
    record { answer = λ w h. l.invariant.5 w h ∙ ap (λ d. noted (take d a.words) a.i a.home w) e }

pub bounds-r-w-then-r-w : goal.bounds-r-w-then-r-w
bounds-r-w-then-r-w c = word_small (goal.at.bounds-r-w-then-r-w c).In-loop-d
