-- `component_states` meets its contract: the parts of the component are found as for its graph.
use Rattle.laws.proofs.All.{◌∙◌, length}
use Rattle.compile_reach.proofs.ComponentMembers.{found-lt}
use Rattle.trace.proofs.Begun.{members-are}
use Rattle.std.proofs.Common.{◌≡◌, rules}
use Rattle.trace.proofs.beginnings.component_states.Goals.{Start}
use Rattle.trace.proofs.beginnings.component_states.Goals as goal

long : (c : Start) → length c.args.v ≡ 16
long c = search rules

pub returns : goal.returns
returns c =
    record {
      answer = (
        c.list_members.ensures.answer.few,
        members-are c.requires.0 c.args.v (long (goal.at.returns c).Start) c.word_counts-count.result
            c.word_counts-count.ensures.answer
            c.live_edges-edge.result c.live_edges-edge.ensures.answer c.reach_all-m.result c.reach_all-m.ensures.answer
            (c.unwrap_or-s.ensures ∙ c.first_returning.ensures.answer) c.list_members.ensures.answer.states,
      );
    }

pub list_members-requires : goal.list_members-requires
list_members-requires c = (
  search rules,
  c.requires.0.states,
  rw c.unwrap_or-s.ensures
      (found-lt c.first_returning.result c.args.k c.first_returning.ensures.there c.requires.1),
)
