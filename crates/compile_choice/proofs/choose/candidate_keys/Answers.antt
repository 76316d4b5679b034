-- The first edge to a lighter state is the first of the edges with that test; the others are the first n − 1 with
-- another key.
use Rattle.laws.proofs.All.{arith}
use Rattle.compile_choice.proofs.Candidates.{candidates-in}
use Rattle.compile_choice.proofs.choose.candidate_keys.Goals as goal

pub returns : goal.returns
returns c =
    let p = c.args in
    record {
      answer = (
        candidates-in p.g p.s c.requires.0 p.m
            c.requires.3 p.n c.first_edges-light.result
            c.first_edges-others.result c.in_front.result
            c.first_edges-light.ensures.answer.0 c.first_edges-light.ensures.answer.1
            c.first_edges-others.ensures.answer.0 c.in_front.ensures.answer.0,
        omega (arith, c.in_front.ensures.answer.1, c.first_edges-others.ensures.answer.1),
      );
    }
