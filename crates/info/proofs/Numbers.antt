-- The numbers of a record: those of the table that was loaded, each below 256.
-- In order: in-range; numbers-are.
-- Assumes nothing.
use Rattle.std.proofs.Common.{◌≡◌, ◌∷◌, ◌-◌}
use Rattle.laws.proofs.All.{sym, ap, subst, List, [], ℕ, T}
use Rattle.table.specs.declared.Head.{Head}
use Rattle.table.specs.declared.Table.{Table}
use Rattle.table.specs.Value.{code_in, table_head, ready}
use Rattle.table.specs.Formed.{Ranges}
use Rattle.table.proofs.Formed.{formed→}
use Rattle.table.proofs.ReadyTables.{head_in}
use Rattle.info.specs.Info.{numbers_of}

pub in-range : (t : Table) → T (ready t) → Ranges (table_head t)
unfolding ready
in-range t k = subst Ranges (sym (head_in t)) (formed→ (code_in t) k).range

abbrev numbers : Head → List ℕ
numbers h = h.p ∷ h.q ∷ (h.states - 1) ∷ h.memory ∷ h.lookahead ∷ h.count ∷ h.start ∷ h.tail ∷ []

-- the numbers of the table are those of its code
pub numbers-are : (t : Table) → numbers (table_head t) ≡ numbers_of (code_in t)
numbers-are t = ap numbers (head_in t)
