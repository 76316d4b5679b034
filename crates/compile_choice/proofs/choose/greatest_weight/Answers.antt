use Rattle.laws.proofs.All.{get_or}
use Rattle.compile_graph.specs.Value.{weight_at}
use Rattle.compile_choice.proofs.Choosing.{greatest-more, max_is}
use Rattle.compile_choice.proofs.choose.greatest_weight.Goals as goal

pub loop-i-preserved : goal.loop-i-preserved
loop-i-preserved c = let e = greatest-more (weight_at c.args.g) c.loop-i.i in
    cc (max_is c.loop-i.greatest (get_or c.args.g.weight c.loop-i.i 0))
