-- Where s is not in the component, nothing is added.
use Rattle.std.proofs.Common.{if◌then◌else◌, Some}
use Rattle.laws.proofs.All.{sym, subst, [], le-ltb, lt-ltb, get_or}
use Rattle.compile_component.specs.ComponentParts.{row_arcs, Added}
use Rattle.compile_component.proofs.AppendedRows.{added_none}
use Rattle.compile_component.proofs.component_graph.add_state.Goals as goal

pub returns-then-index-s-lt16 : goal.returns-then-index-s-lt16
returns-then-index-s-lt16 c =
    let p = c.args in
    record {
      answer = subst (λ b. Added p.g (if b then row_arcs p.power.now p.index p.s p.words else [])
          c.add_words.result)
          (sym (lt-ltb (get_or p.index p.s 0) 16 c.if-index-s-lt16.true)) c.add_words.ensures.answer;
    }

pub returns-else-index-s-lt16 : goal.returns-else-index-s-lt16
returns-else-index-s-lt16 c =
    let p = c.args in
    record {
      answer = subst (λ b. Added p.g (if b then row_arcs p.power.now p.index p.s p.words else [])
          (Some p.g))
          (sym (le-ltb (get_or p.index p.s 0) 16 c.if-index-s-lt16.false)) (added_none p.g c.requires.3);
    }
