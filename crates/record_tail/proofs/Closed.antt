-- A table with another tail datum is written as the record of its code with that datum; and such a record passes the
-- checker.
-- In order: closed-table; closes-record.
-- Assumes nothing.
use Rattle.std.proofs.Common.{◌≡◌, ◌^◌, ◌≤◌, ◌<◌}
use Rattle.laws.proofs.All.{sym, ap, ◌∙◌, List, ℕ, T, le-leb, lt-ltb, length, Below}
use Rattle.answer.specs.Outcomes.{done}
use Rattle.table.specs.declared.Table.{Table}
use Rattle.table.specs.Rows.{Code, with_tail}
use Rattle.table.specs.Value.{code_in, ready}
use Rattle.table.proofs.Formed.{formed-tail}
use Rattle.record.specs.Layout.{pack}
use Rattle.record.specs.Parse.{pack_into}
use Rattle.record.specs.Checks.{pack_with}
use Rattle.record.proofs.RecordWrite.{length-pack}
use Rattle.record_check.specs.Parse.{parse}
use Rattle.record_check.proofs.Accepted.{parse-canonical}
use Rattle.record_check.proofs.Tail.{tail-passes}
use Rattle.record_tail.specs.Closing.{closed, closed_with}

-- the table u has the code of the table t, which is in range, with the tail datum k
pub closed-table : (t u : Table) (k room : ℕ) → T (ready t) → code_in u ≡ with_tail (code_in t) k
    → pack_with u room ≡ closed (code_in t) k room
unfolding pack_with ready
closed-table t u k room h e = rw (e, formed-tail (code_in t) k h)

-- THEOREM: a datum below 2^p and room for the record give the record of the code with that datum, as long as before,
-- and it passes the checker
pub closes-record : (rec : List ℕ) → Below 256 rec → (c : Code) → parse rec ≡ done c → (k room : ℕ) → k < 2 ^ c.p
    → length rec ≤ room → (out : List ℕ) × (closed_with rec k room ≡ done out) × (length out ≡ length rec)
    × (parse out ≡ done (with_tail c k))
unfolding closed_with pack_into
closes-record rec b c e k room h l =
    let long : length (pack (with_tail c k)) ≡ length rec =
    length-pack (with_tail c k) ∙ sym (length-pack c) ∙ ap length (parse-canonical rec b c e) in (
      pack (with_tail c k),
      rw (e, lt-ltb k (2 ^ c.p) h, long, le-leb (length rec) room l),
      long,
      tail-passes rec c e k h,
    )
