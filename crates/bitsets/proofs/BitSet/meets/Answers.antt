-- `meets` meets its contract: the sets meet where their meeting has a state.
use Rattle.laws.proofs.All.{sym, ap, ◌∙◌, not, any-range-same}
use Rattle.bitsets.specs.BitSets.{value_of, holds, meeting}
use Rattle.bitsets.proofs.Places.{places-some}
use Rattle.bitsets.proofs.BitSet.meets.Goals as goal

pub returns : goal.returns
unfolding meeting
returns c =
    let r = c.meet.result in
    record {
      answer = ap not c.is_empty.ensures.answer ∙ sym (places-some 128 (value_of r))
          ∙ any-range-same (holds r) _ 128 (λ i h. c.meet.ensures.answer i);
    }
