-- `block_at` meets its contract: of one block that is read into one byte, the byte is the block.
use Rattle.laws.proofs.All.{ap, get_or}
use Rattle.codec_blocks.proofs.block_at.Goals as goal

pub returns : goal.returns
returns c = record { answer = ap (λ l. get_or l 0 0) c.read_blocks.ensures.written }
