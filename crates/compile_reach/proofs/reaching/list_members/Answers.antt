use Rattle.laws.proofs.All.{sym, subst, ◌∙◌, Bool, ℕ, arith, ltb, length, get_or}
use Rattle.compile_reach.specs.ReachSets.{reach_at}
use Rattle.compile_reach.proofs.ComponentMembers.{component-is}
use Rattle.compile_reach.proofs.Numbering.{Numbered, numbered-none, numbered-yes, numbered-no, numbered-end}
use Rattle.std.proofs.Common.{◌≡◌, ◌&&◌, rules}
use Rattle.compile_reach.proofs.reaching.list_members.Goals as goal
use Rattle.compile_reach.proofs.reaching.list_members.Goals.{else-is_member, then-is_member}

pub loop-t-preserved : goal.loop-t-preserved
loop-t-preserved c =
    let l = c.loop-t in
    let p = c.args in
    let q : ℕ → Bool = λ x. ltb 0 (get_or p.v x 0) && reach_at p.m.now x p.s in
    let e = c.is_member.ensures.answer in
    elim c.if-is_member.branch [
      | then-is_member w ↦ rw (w.state-is, w.index-is, w.count-is)
          (numbered-yes q l.t l.count l.state l.index (omega arith) l.invariant (sym e ∙ w.if-is_member.true))
      | else-is_member w ↦ rw (w.state-is, w.index-is, w.count-is)
          (numbered-no q l.t l.count l.state l.index (omega arith) l.invariant (sym e ∙ w.if-is_member.false))
    ]

pub returns : goal.returns
returns c =
    let l = c.loop-t in
    let p = c.args in
    let a : length p.v ≡ 16 = search rules in
    let q : ℕ → Bool = λ x. ltb 0 (get_or p.v x 0) && reach_at p.m.now x p.s in
    let e : l.t ≡ p.k = omega arith in
    record {
      answer = numbered-end q p.k l.count l.state l.index _ c.requires.1
          (component-is p.m.now p.v p.k c.requires.1 a p.s c.requires.2)
          (subst (λ n. Numbered q n l.count l.state l.index) e l.invariant);
    }

pub loop-t-init : goal.loop-t-init
loop-t-init c = numbered-none _

pub bounds-state-count : goal.bounds-state-count
bounds-state-count c = omega (arith, c.loop-t.invariant.fits)
