-- `stream_pack::stream_size` meets its contract: the limit keeps the product small.
use Rattle.laws.proofs.All.{arith}
use Rattle.stream_pack.proofs.Streams.{few_bits}
use Rattle.stream_pack.proofs.stream_size.Goals as goal

pub overflow_mul-result : goal.overflow_mul-result
overflow_mul-result c = omega (arith, few_bits c.args.q c.args.count c.requires.0 c.requires.1)

pub overflow_add-result : goal.overflow_add-result
overflow_add-result c = omega (arith, few_bits c.args.q c.args.count c.requires.0 c.requires.1)
