-- A record is bytes, at most 3,865 of them.
-- In order: pack-bytes; size-le, pack-short.
-- Assumes nothing.
use Rattle.std.proofs.Common.{◌≤◌}
use Rattle.laws.proofs.All.{sym, subst, arith, length, Below}
use Rattle.bits.specs.Fields.{write}
use Rattle.bits.proofs.Fields.{below-write, below-read}
use Rattle.table.specs.Rows.{Code}
use Rattle.table.specs.declared.Head.{Head}
use Rattle.table.specs.Formed.{head, Ranges, Formed}
use Rattle.record.specs.Layout.{size, widths, values, pack}
use Rattle.record.proofs.RecordWrite.{length-pack}
use Rattle.record.proofs.Sizes.{small_of, bit_count-le}

pub pack-bytes : (c : Code) → Below 256 (pack c)
unfolding pack
pack-bytes c =
    below-read 8 (size (head c)) (write (widths (head c)) (values c)) (below-write (widths (head c)) (values c))

pub size-le : (h : Head) → Ranges h → size h ≤ 3865
size-le h r = omega (arith, bit_count-le h (small_of h r))

-- every record fits in 3,865 bytes
pub pack-short : (c : Code) → Formed c → length (pack c) ≤ 3865
pack-short c f = subst (λ n. n ≤ 3865) (sym (length-pack c)) (size-le (head c) f.range)
