-- `is_empty` meets its contract.
use Rattle.std.proofs.Common.{◌&&◌}
use Rattle.laws.proofs.All.{sym, ap, ◌∙◌, arith, eqb, eq-eqb, ne_eqb}
use Rattle.bitsets.proofs.Words.{words-empty}
use Rattle.bitsets.proofs.BitSet.is_empty.Goals as goal

pub returns-then-self-eq0 : goal.returns-then-self-eq0
returns-then-self-eq0 c =
    let s = c.args.self in
    record {
      answer = sym (ap (λ b. b && eqb s.high 0) (eq-eqb s.low 0 c.if-self-eq0.true))
          ∙ words-empty s.high s.low (omega arith) (omega arith);
    }

pub returns-else-self-eq0 : goal.returns-else-self-eq0
returns-else-self-eq0 c =
    let s = c.args.self in
    let e = ne_eqb s.low 0 (λ e. omega arith) in
    record {
      answer = e ∙ sym (ap (λ b. b && eqb s.high 0) e) ∙ words-empty s.high s.low (omega arith) (omega arith);
    }
