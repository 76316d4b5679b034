-- Both next states are below 16, so that the pair's number fits a byte.
use Rattle.laws.proofs.All.{arith}
use Rattle.constraint.specs.Value.{constraint_of}
use Rattle.joining.proofs.PairLists.{leads-small}
use Rattle.joining.proofs.Both.leads_to.Goals as goal

pub overflow_mul-result : goal.overflow_mul-result
overflow_mul-result c =
    let a = c.args in
    let s = a.self.now in
    let (p, q) = leads-small (constraint_of s.first) (constraint_of s.second) a.b a.z s.small_first s.small_second
    c.requires in
    omega (arith, c.after.ensures.answer)

pub overflow_add-result : goal.overflow_add-result
overflow_add-result c =
    let a = c.args in
    let s = a.self.now in
    let (p, q) = leads-small (constraint_of s.first) (constraint_of s.second) a.b a.z s.small_first s.small_second
    c.requires in
    omega (arith, c.after.ensures.answer, c.after-2.ensures.answer)
