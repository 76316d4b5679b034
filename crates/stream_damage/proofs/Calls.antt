-- What the quoted reach is, exactly, with the documents' numbers written out, and the number and values of the code's
-- answer.
-- In order: reach-exact, reach-quoted; reach-told.
-- Assumes nothing.
use Rattle.std.proofs.Common.{◌≡◌, ◌↔◌, ◌∷◌, ◌+◌, ◌*◌, ◌-◌, ◌/◌, ◌≤◌, ◌<◌}
use Rattle.laws.proofs.All.{refl, ap, ap₂, ◌∙◌, List, [], ℕ, ltb, arith}
use Rattle.answer.specs.declared.Refusal.{Refusal}
use Rattle.answer.specs.declared.Refusal.TheVariants.{Stream}
use Rattle.answer.specs.Refusals.{number_of}
use Rattle.answer.specs.Outcomes.{Outcome, done, refused, onward}
use Rattle.answer.proofs.Cases.{place_none}
use Rattle.answer.proofs.Due.{Told, told-lt, done-past, refused-here, done-exact, never_done}
use Rattle.table.specs.Rows.{Code}
use Rattle.record_check.specs.Parse.{parse}
use Rattle.record_check.proofs.Reasons.{record-refused}
use Rattle.stream_pack.specs.Streams.{limit}
use Rattle.stream_damage.specs.declared.BitRange.{BitRange}
use Rattle.stream_damage.specs.declared.BlockRange.{BlockRange}
use Rattle.stream_damage.specs.BitReach.{block_range, blocks_of, reach_in, reach_under, reach_answer}
use Rattle.stream_damage.specs.BitReach.{reach_number, reach_values}

-- ---- under a code
reach-exact : (c : Code) (d : BitRange) → let o = reach_in c d in let q = c.q in
    ((b : BlockRange) → (o ≡ done b) ↔ ((d.last.0 < 1000000 * q)
    × (d.first.0 / q - c.window.lookahead ≡ b.first.0) × (d.last.0 / q + c.window.memory ≡ b.last.0)))
    × ((o ≡ refused Stream) ↔ (1000000 * q ≤ d.last.0))
unfolding reach_in
reach-exact c d = (
  λ b. let k = done-past Stream (ltb d.last.0 (limit * c.q)) (done quoted) within b (done-exact quoted b) in (
    λ e. let (a, f) = k.0 e in (a, ap (λ x. x.first.0) f, ap (λ x. x.last.0) f),
    λ (a, f, l). k.1 (a, ap₂ block_range f l),
  ),
  refused-here Stream (ltb d.last.0 (limit * c.q)) (done quoted) within (never_done quoted Stream),
)
  where
    quoted : BlockRange
    quoted = blocks_of c.q c.window.memory c.window.lookahead d

    within : Told (ltb d.last.0 (limit * c.q)) (d.last.0 < limit * c.q) (limit * c.q ≤ d.last.0)
    within = told-lt d.last.0 (limit * c.q)

-- ---- under the record in the bytes rec
pub reach-quoted : (rec : List ℕ) (d : BitRange) → let o = reach_under rec d in
    ((c : Code) → parse rec ≡ done c → let q = c.q in
    ((b : BlockRange) → (o ≡ done b) ↔ ((d.last.0 < 1000000 * q)
    × (d.first.0 / q - c.window.lookahead ≡ b.first.0) × (d.last.0 / q + c.window.memory ≡ b.last.0)))
    × ((o ≡ refused Stream) ↔ (1000000 * q ≤ d.last.0)))
    × ((r : Refusal) → parse rec ≡ refused r → (o ≡ refused r) × (7 ≤ number_of r) × (number_of r ≤ 10))
unfolding reach_under
reach-quoted rec d = (
  λ c p. rw p (reach-exact c d),
  λ r p. let (x, y) = record-refused rec r p in (ap (λ o. onward o (λ c. reach_in c d)) p, x, y),
)

-- the code's answer: 0 with the two block numbers, or the number of the refusal, which names no place
pub reach-told : (rec : List ℕ) (d : BitRange) → let a = reach_answer (reach_under rec d) in
    ((c : Code) → parse rec ≡ done c → let q = c.q in
    (d.last.0 < 1000000 * q → (reach_number a ≡ 0) × (reach_values a
    ≡ (d.first.0 / q - c.window.lookahead) ∷ (d.last.0 / q + c.window.memory) ∷ []))
    × (1000000 * q ≤ d.last.0 → (reach_number a ≡ 15) × (reach_values a ≡ 0 ∷ [])))
    × ((r : Refusal) → parse rec ≡ refused r → (reach_number a ≡ number_of r) × (reach_values a ≡ 0 ∷ []))
reach-told rec d = (
  λ c p. let q = c.q in
      let b = blocks_of q c.window.memory c.window.lookahead d in
      let (quoted, past) = (reach-quoted rec d).0 c p in (
        λ h. answered (done b) ((quoted b).1 (h, refl, refl)),
        λ h. answered (refused Stream) (past.1 h),
      ),
  λ r p. let (e, l, h) = (reach-quoted rec d).1 r p in
      let n : reach_number (reach_answer (reach_under rec d))
      ≡ number_of r = ap (λ o. reach_number (reach_answer o)) e in
      (n, ap (λ o. reach_values (reach_answer o)) e ∙ ap (λ k. k ∷ []) (place_none r (λ x. omega arith))),
)
  where
    answered : (o : Outcome BlockRange) → reach_under rec d ≡ o
        → let a = reach_answer (reach_under rec d) in
        (reach_number a ≡ reach_number (reach_answer o)) × (reach_values a ≡ reach_values (reach_answer o))
    answered o e = (ap (λ x. reach_number (reach_answer x)) e, ap (λ x. reach_values (reach_answer x)) e)
