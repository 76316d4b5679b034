-- What writing a record with another tail datum answers, exactly.
-- In order: closed-done, closed-refused.
-- Assumes nothing.
use Rattle.std.proofs.Common.{◌≡◌, ◌⊎◌, ◌↔◌, ◌∷◌, ◌^◌, ◌≤◌, ◌<◌}
use Rattle.laws.proofs.All.{sym, ap, subst, ◌∙◌, inl, inr, List, [], ℕ, leb, ltb}
use Rattle.laws.proofs.All.{length, Below}
use Rattle.answer.specs.declared.Refusal.{Refusal}
use Rattle.answer.specs.declared.Refusal.TheVariants.{Field, ShortOutput}
use Rattle.answer.specs.Outcomes.{done, refused, fitting}
use Rattle.answer.specs.Orders.{check, First}
use Rattle.answer.proofs.Due.{told-le, told-lt, done-past, done-onward}
use Rattle.answer.proofs.Orders.{first-none, first-unless, onward-exact, fitting-done}
use Rattle.table.specs.Rows.{Code, with_tail}
use Rattle.record.specs.Layout.{pack}
use Rattle.record.specs.Parse.{pack_into}
use Rattle.record.proofs.RecordWrite.{length-pack}
use Rattle.record_check.specs.Parse.{parse}
use Rattle.record_check.proofs.Accepted.{parse-canonical}
use Rattle.record_tail.specs.Closing.{closed, closed_with}

module _ (rec : List ℕ) (b : Below 256 rec) (k room : ℕ) where
  -- the record with another tail datum is as long
  long : (c : Code) → parse rec ≡ done c → length (pack (with_tail c k)) ≡ length rec
  long c e = length-pack (with_tail c k) ∙ sym (length-pack c) ∙ ap length (parse-canonical rec b c e)

  -- THEOREM: it is written exactly for a record that passes, a datum below 2^p and room for the record
  pub closed-done : (out : List ℕ) → (closed_with rec k room ≡ done out)
      ↔ ((c : Code) × (parse rec ≡ done c) × (k < 2 ^ c.p) × (length rec ≤ room) × (pack (with_tail c k) ≡ out))
  unfolding closed_with pack_into
  closed-done out =
      let d = done-onward (parse rec) (λ c. closed c k room) out (λ c.
      done-past Field (ltb k (2 ^ c.p)) (fitting room (pack (with_tail c k))) (told-lt k (2 ^ c.p)) out
      (fitting-done room (pack (with_tail c k)) out)) in (
        (λ e.
            let (c, p, (h, (l, q))) = d.0 e in (c, p, h, subst (λ n. n ≤ room) (long c p) l, q)),
        (λ (c, p, h, l, q). d.1 (c, p, (h, (subst (λ n. n ≤ room) (sym (long c p)) l, q)))),
      )

  -- THEOREM: otherwise the record's refusal; then 7 for a datum of 2^p or more; then 13
  pub closed-refused : (r : Refusal) → (closed_with rec k room ≡ refused r)
      ↔ ((parse rec ≡ refused r) ⊎ ((c : Code) × (parse rec ≡ done c)
      × First (check Field (k < 2 ^ c.p) ∷ check ShortOutput (length rec ≤ room) ∷ []) r))
  unfolding closed_with pack_into
  closed-refused r =
      let (f, g) = onward-exact (parse rec) (λ c. closed c k room) r in (
        (λ e. elim (f e) [ inl q ↦ inl q | inr (c, p, q) ↦ inr (c, p, (into c p).0 q) ]),
        (λ x. g (elim x [ inl q ↦ inl q | inr (c, p, q) ↦ inr (c, p, (into c p).1 q) ])),
      )
    where
      into : (c : Code) → parse rec ≡ done c → (closed c k room ≡ refused r)
          ↔ First (check Field (k < 2 ^ c.p) ∷ check ShortOutput (length rec ≤ room) ∷ []) r
      into c p = subst (λ n. (closed c k room ≡ refused r)
          ↔ First (check Field (k < 2 ^ c.p) ∷ check ShortOutput (n ≤ room) ∷ []) r) (long c p)
          (first-unless Field (ltb k (2 ^ c.p)) _ r (told-lt k (2 ^ c.p))
          (first-unless ShortOutput (leb (length (pack (with_tail c k))) room) _ r
          (told-le (length (pack (with_tail c k))) room) (first-none _ r)))
