-- `pop` meets its contract: a word and the number before it have in common all bits of the word but its lowest.
use Rattle.laws.proofs.All.{arith, refl}
use Rattle.bitsets.proofs.Words.{pop-low, pop-high, pop-none}
use Rattle.bitsets.proofs.BitSet.pop.Goals as goal

pub returns-then-self-ne0-clause-answer : goal.returns-then-self-ne0-clause-answer
returns-then-self-ne0-clause-answer c =
    let s = c.args.self.now in
    pop-low s.high s.low (omega arith) (omega arith)

pub returns-then-self-ne0-2-clause-answer : goal.returns-then-self-ne0-2-clause-answer
returns-then-self-ne0-2-clause-answer c =
    let s = c.args.self.now in
    pop-high s.high s.low (omega arith) (omega arith) (omega arith)

pub returns-clause-answer : goal.returns-clause-answer
returns-clause-answer c =
    let s = c.args.self.now in
    (pop-none s.high s.low (omega arith) (omega arith), refl)
