-- The edges after the split are counted first; then the state that the rule names is split.
use Rattle.laws.proofs.All.{arith}
use Rattle.compile_split.proofs.OneSplit.{crowded-into, parted-into, chosen-heavy, chosen-light}
use Rattle.compile_split.proofs.split_graph.split.Goals as goal

pub overflow_add-g : goal.overflow_add-g
overflow_add-g c =
    omega (arith, c.requires.0.room, c.enter_count.ensures.answer.1)

pub returns-then-g-enter_count-gt2048 : goal.returns-then-g-enter_count-gt2048
returns-then-g-enter_count-gt2048 c =
    record {
      answer = crowded-into c.args.n
          c.args.g c.choose-s.result
          c.choose-s.ensures.answer.0
          (omega (arith, c.enter_count.ensures.answer.0, c.if-g-enter_count-gt2048.true));
    }

pub part_state-requires : goal.part_state-requires
part_state-requires c =
    let p = c.args in
    let s = c.choose-s in
    let m = c.greatest_weight-m in (
      c.requires.0,
      s.ensures.answer.1,
      c.requires.1,
      chosen-heavy p.n p.g s.result s.ensures.answer.0 c.requires.4
          m.result m.ensures.answer,
      m.ensures.answer,
      chosen-light p.n p.g s.result s.ensures.answer.0 c.requires.4
          m.result m.ensures.answer,
      c.requires.2,
      c.requires.3,
      omega (arith, c.enter_count.ensures.answer.0, c.if-g-enter_count-gt2048.false),
    )

pub returns : goal.returns
returns c =
    record {
      answer = parted-into c.args.n
          c.args.g
          c.choose-s.result
          c.choose-s.ensures.answer.0 c.part_state.result
          (omega (arith, c.enter_count.ensures.answer.0, c.if-g-enter_count-gt2048.false))
          c.part_state.ensures.answer;
    }
