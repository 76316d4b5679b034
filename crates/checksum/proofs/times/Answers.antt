-- `times` meets its contract: the product is that of the halves of x with 435, and of x with 2^40.
use Rattle.checksum.proofs.Product.{product}
use Rattle.checksum.proofs.times.Goals as goal

pub returns : goal.returns
returns c =
    record {
      answer = product c.args.x c.wrapping_add_u64-product.result c.wrapping_add_u64.result
          c.wrapping_add_u64-product.ensures.value c.wrapping_add_u64.ensures.value;
    }
