-- The pattern is cut after its number k.
use Rattle.text.proofs.Adding.{added_more}
use Rattle.trace_stages.proofs.Listed.{items-long, listed-told}
use Rattle.std.proofs.Common.{rules}
use Rattle.trace_stages.proofs.write_list.Goals as goal

pub slice_bounds-write_sentence-end : goal.slice_bounds-write_sentence-end
slice_bounds-write_sentence-end c = items-long _ (search)

pub returns-clause-written : goal.returns-clause-written
returns-clause-written c = search (added_more, listed-told, rules)
