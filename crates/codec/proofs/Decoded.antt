-- Decoding under a table by value, with the number of data that the code has computed.
-- In order: length-decode, decoded-in.
-- Assumes nothing.
use Rattle.std.proofs.Common.{◌≡◌, ◌++◌, ◌-◌, ◌^◌}
use Rattle.laws.proofs.All.{sym, List, map, ℕ, length, range, length-map-range}
use Rattle.table.specs.declared.Table.{Table}
use Rattle.table.specs.Rows.{Code}
use Rattle.table.specs.Value.{code_in}
use Rattle.table.specs.Edges.{arrays, rows_of}
use Rattle.codec_steps.specs.Reading.{block, decode}
use Rattle.codec_steps.specs.BlockParts.{under}

-- "From W words come W − a blocks"
pub length-decode : (c : Code) (ws : List ℕ) → length ws - c.window.lookahead ≡ length (decode c ws)
length-decode c ws = sym (length-map-range (block c ws) (length ws - c.window.lookahead))

pub decoded-in : (t : Table) (n : ℕ) (ws out : List ℕ) → n ≡ 2 ^ t.p
    → map (block (under (rows_of (arrays t.states n t.word t.next)) t.memory t.lookahead) ws)
    (range (length ws - t.lookahead)) ++ out ≡ decode (code_in t) ws ++ out
decoded-in t n ws out e = rw e
