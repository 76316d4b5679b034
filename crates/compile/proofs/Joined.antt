-- What is promised of a job with two constraints beside what is promised of every job.
-- In order: too-many-pairs; compiled-constraint; both-obeyed.
-- Assumes nothing.
use Rattle.std.proofs.Common.{◌≡◌, ◌↔◌, ◌/◌, ◌%◌, ◌<◌}
use Rattle.laws.proofs.All.{refl, sym, ap, subst, ◌∙◌, List, ℕ, length, get_or, Each}
use Rattle.laws.proofs.All.{Once, each_at, arith}
use Rattle.answer.specs.declared.Refusal.TheVariants.{TooManyPairs}
use Rattle.answer.specs.Outcomes.{done, refused}
use Rattle.answer.proofs.Outcomes.{done_inj}
use Rattle.constraint.specs.Walking.{Constraint}
use Rattle.constraint.specs.Follow.{Finds, channel}
use Rattle.joining.specs.Joined.{pairs, joined, Reachable}
use Rattle.joining.proofs.Joined.{length-joined, joined-finds, joined-pairs, more-pairs}
use Rattle.table.specs.Rows.{Code}
use Rattle.table.specs.Paths.{Blocks, recording}
use Rattle.table.proofs.Formed.{formed→}
use Rattle.record_obeys.proofs.Exact.{obeys-exact}
use Rattle.record_check.specs.Parse.{parse}
use Rattle.compile_job.specs.Jobs.{Job, Joins}
use Rattle.compile_job.proofs.Joining.{joined-job, joins-lawful, too-many-read}
use Rattle.compile.specs.Compile.{compile, compile_joined}
use Rattle.compile.specs.Kinds.{joined as two}
use Rattle.compile.proofs.Compile.{Reason, reason, coded}
use Rattle.compile.proofs.Accepted.{compiled-passes}
use Rattle.compile.proofs.Early.{Early}
use Rattle.compile.proofs.Written.{as-allowed, read-refused, passes}

-- ---- 14
many-early : Early TooManyPairs
many-early = ((λ l. omega arith), (λ e. omega arith))

pub too-many-pairs : (xs : List ℕ) (room : ℕ) → (compile_joined xs room ≡ refused TooManyPairs)
    ↔ ((c : Constraint) × (d : Constraint) × Joins xs c d
    × ((zs : List ℕ) × Once zs × Each (λ z. Reachable c d (z / 16) (z % 16)) zs × (16 < length zs)))
too-many-pairs xs room = (
  (λ e.
      let (c, d, s, h) = (too-many-read xs).0 ((read-refused two xs room TooManyPairs many-early).0 e) in
      let (lc, ld) = joins-lawful xs c d s in
      (c, d, s, (more-pairs c d lc ld).0 h)),
  (λ (c, d, s, m).
      let (lc, ld) = joins-lawful xs c d s in
      (read-refused two xs room TooManyPairs many-early).1
      ((too-many-read xs).1 (c, d, s, (more-pairs c d lc ld).1 m))),
)

-- ---- both constraints
-- a code that is compiled has the job's constraint
compiled-constraint : (j : Job) (k : Code) → compile j ≡ done k → k.constraint ≡ j.constraint
compiled-constraint j k e = go k (subst (Reason j) e (reason j))
  where
    go : (k : Code) → Reason j (done k) → k.constraint ≡ j.constraint
    go k (coded _ _ _ _) = refl

pub both-obeyed : (xs : List ℕ) (room : ℕ) (r : List ℕ) → compile_joined xs room ≡ done r → (k : Code)
    → parse r ≡ done k → (c : Constraint) × (d : Constraint) × Joins xs c d
    × (let z = get_or (pairs c d) k.start 0 in Reachable c d (z / 16) (z % 16) × ((ds : List ℕ) → Blocks k ds
    → let bs = channel k.q (recording k ds) in Finds c (z / 16) bs × Finds d (z % 16) bs))
both-obeyed xs room r e k g =
    let (j, k', q, u, _, v) = passes two xs room r e in
    let (c, d, s, lc, ld, few, w, _, _, _) = joined-job xs j q in
    let same : k' ≡ k = done_inj k' k (sym v ∙ g) in
    let made = subst (λ k. compile j ≡ done k) same u in
    let is : k.constraint ≡ joined c d = compiled-constraint j k made ∙ w in
    let p = compiled-passes j (as-allowed two xs j q) k made in
    let f = formed→ k p.formed in
    let h : k.start < length (pairs c d) =
    subst (λ n. k.start < n) (ap length is ∙ length-joined c d lc ld few) f.range.start in (
      c,
      d,
      s,
      (
        each_at (λ z. Reachable c d (z / 16) (z % 16)) 0 (pairs c d) (joined-pairs c d lc ld).1 k.start h,
        λ ds b.
            let bs = channel k.q (recording k ds) in
            (joined-finds c d lc ld few k.start h bs).0
            (subst (λ l. Finds l k.start bs) is ((obeys-exact k f).0 p.obeys ds b)),
      ),
    )
