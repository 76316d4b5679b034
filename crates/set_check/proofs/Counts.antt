-- A set has at most 255 records, and up to 255 accepted codes are written as bytes.
-- In order: two_bytes, framed-bytes; set-written; set-walked.
-- Assumes nothing.
use Rattle.std.proofs.Common.{◌≡◌, ◌∷◌, ◌/◌, ◌%◌, ◌≤◌, ◌<◌}
use Rattle.laws.proofs.All.{sym, subst, List, [], map, ℕ, arith, length, concat}
use Rattle.laws.proofs.All.{Below, below-append}
use Rattle.table.specs.Rows.{Code}
use Rattle.table.proofs.Formed.{formed→}
use Rattle.record.specs.Layout.{pack}
use Rattle.record_check.proofs.Parse.{parse-good}
use Rattle.record.proofs.RecordBytes.{pack-bytes, pack-short}
use Rattle.set_check.specs.Sets.{codes, read_set, framed, write_set, Readable}
use Rattle.set_check.proofs.Sets.{set_back, set-canonical}

two_bytes : (n : ℕ) → n ≤ 3865 → (n / 256 < 256) × (n % 256 < 256)
two_bytes n h = (omega arith, omega arith)

framed-bytes : (cs : List Code) → Readable cs → Below 256 (concat (map framed cs))
framed-bytes [] r = tt
framed-bytes (c ∷ cs) (e, r) =
    let (a, b) = two_bytes (length (pack c))
    (pack-short c (formed→ c (parse-good (pack c) (pack-bytes c) c e).formed)) in
    (a, (b, below-append 256 (pack c) (concat (map framed cs)) (pack-bytes c) (framed-bytes cs r)))

-- up to 255 codes that come back from their records are written as bytes, and read back
pub set-written : (cs : List Code) → length cs ≤ 255 → Readable cs
    → Below 256 (write_set cs) × (read_set (write_set cs) ≡ codes cs)
unfolding write_set
set-written cs h r = ((omega arith, framed-bytes cs r), set_back cs r)

-- a set that the walk accepts is such a set
pub set-walked : (xs : List ℕ) (cs : List Code) → Below 256 xs → read_set xs ≡ codes cs
    → (length cs ≤ 255) × (write_set cs ≡ xs) × Readable cs
unfolding write_set
set-walked xs cs b e =
    let (p, r) = set-canonical xs cs b e in
    let (h, _) = subst (Below 256) (sym p) b in
    (omega arith, p, r)
