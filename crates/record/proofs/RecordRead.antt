-- Bytes whose fields pass their checks are the record of the code that they name: a record is canonical.
-- In order: fields-formed, read-ready; fields-again, Checked, fields-good.
-- Assumes nothing.
use Rattle.std.proofs.Common.{◌≡◌, ◌&&◌, ◌∷◌, ◌+◌, ◌*◌, ◌-◌, ◌^◌, ◌≤◌}
use Rattle.laws.proofs.All.{refl, sym, ap, subst, ◌∙◌, List, [], ℕ}
use Rattle.laws.proofs.All.{le_refl, arith, T, leb, eqb, eqb→eq, length, drop, replicate, all, sum, and→, →and}
use Rattle.laws.proofs.All.{Below, sum-replicate}
use Rattle.answer.specs.declared.Refusal.TheVariants.{Field, Length}
use Rattle.answer.specs.Outcomes.{done, unless}
use Rattle.table.specs.declared.Table.{Table}
use Rattle.table.specs.Rows.{Rows, Code}
use Rattle.table.specs.Value.{code_in, ready}
use Rattle.bits.specs.Fields.{read, write, Fits, bits_of}
use Rattle.bits.proofs.Fields.{below-write, length-write, fits_read, write_read, read_back, fits-uniform}
use Rattle.table.specs.declared.Head.{Head}
use Rattle.table.specs.Formed.{head, in_range, good_next, good_row, formed}
use Rattle.record.specs.Layout.{header, header_bytes, head_of, size, fill, widths, values, pack, nexts_of}
use Rattle.record.specs.Layout.{rows_of, code_of}
use Rattle.record.specs.Parse.{good_head, good_fields, good_target, filler, good_rest}
use Rattle.record.specs.Checks.{fields_good, fields_checked}
use Rattle.record.proofs.RecordAgain.{nexts-again, nexts-good, rows-good, length-nexts_of, length-rows_of}
use Rattle.record.proofs.RecordAgain.{tail-again, head-again}
use Rattle.bits.proofs.Puts.{length-bits_of}
use Rattle.record.proofs.RecordFits.{sum-widths}
use Rattle.record.proofs.RecordReading.{head-range}
use Rattle.answer.proofs.Outcomes.{done_inj, unless→}

-- eight fields in front and the others after them
module _ (p q s m a k z e : ℕ) (t : List ℕ)
    (f : Fits (widths (head_of (p ∷ q ∷ s ∷ m ∷ a ∷ k ∷ z ∷ e ∷ t))) (p ∷ q ∷ s ∷ m ∷ a ∷ k ∷ z ∷ e ∷ t))
    (u : T (good_rest (head_of (p ∷ q ∷ s ∷ m ∷ a ∷ k ∷ z ∷ e ∷ t)) (p ∷ q ∷ s ∷ m ∷ a ∷ k ∷ z ∷ e ∷ t)
    (code_of (head_of (p ∷ q ∷ s ∷ m ∷ a ∷ k ∷ z ∷ e ∷ t)) (p ∷ q ∷ s ∷ m ∷ a ∷ k ∷ z ∷ e ∷ t)))) where
  abbrev h : Head
  h = head_of (p ∷ q ∷ s ∷ m ∷ a ∷ k ∷ z ∷ e ∷ t)

  abbrev vs : List ℕ
  vs = p ∷ q ∷ s ∷ m ∷ a ∷ k ∷ z ∷ e ∷ t

  abbrev g : Rows
  g = rows_of (s + 1) (2 ^ p) (drop ((k + 1) * 4) t)

  parts : T (good_fields (k + 1) (k + 1) t) × T (all (all (good_target (s + 1))) g) × T (eqb (filler h vs) 0)
  parts =
      let (x, r) = and→ (good_fields (k + 1) (k + 1) t) (all (all (good_target (s + 1))) g && eqb (filler h vs) 0) u in
      let (y, l) = and→ (all (all (good_target (s + 1))) g) (eqb (filler h vs) 0) r in
      (x, y, l)

  values-again : values (code_of h vs) ≡ vs
  values-again =
      let (b, _, l) = parts in
      let es : length g - 1 ≡ s = rw (length-rows_of (s + 1) (2 ^ p) (drop ((k + 1) * 4) t)) (omega arith) in
      let ek : length (nexts_of (k + 1) t) - 1 ≡ k = rw (length-nexts_of (k + 1) t) (omega arith) in
      cc (tail-again h t f.1.1.1.1.1.1.1.1 b l)

  in-range : T (good_head h) → T (in_range h)
  in-range = head-range vs f.1.1.0 f.1.1.1.0 f.1.1.1.1.0 f.1.1.1.1.1.0

  formed-again : T (good_head h) → T (formed (code_of h vs))
  unfolding formed
  formed-again w =
      let (b, y, _) = parts in
      let (_, fr) = nexts-again (k + 1) (k + 1) _ t f.1.1.1.1.1.1.1.1 b in
      →and (in_range (head (code_of h vs))) _ (subst (λ x. T (in_range x)) (sym (head-again h vs)) (in-range w))
      (→and (all (good_next (length (nexts_of (k + 1) t))) (nexts_of (k + 1) t)) (all (good_row p q (length g)) g)
      (rw (length-nexts_of (k + 1) t) (nexts-good (k + 1) (k + 1) t b))
      (rw (length-rows_of (s + 1) (2 ^ p) (drop ((k + 1) * 4) t))
      (rows-good (s + 1) p q (s + 1) (fill h ∷ []) (drop ((k + 1) * 4) t) fr y)))

module _ (xs : List ℕ) where
  abbrev front : Head
  front = head_of (read header (bits_of xs))

  abbrev fields_in : List ℕ
  fields_in = read (widths front) (bits_of xs)

  fits-again : (h : Head) → length xs ≡ size h → Fits (widths h) (read (widths h) (bits_of xs))
  fits-again h l =
      let lb : sum (widths h) ≡ length (bits_of xs) =
      sum-widths h ∙ sum-replicate (size h) 8 ∙ ap (λ n. n * 8) (sym l) ∙ sym (length-bits_of xs) in
      fits_read (widths h) (bits_of xs) (below-write (replicate (length xs) 8) xs)
      (subst (λ n. sum (widths h) ≤ n) lb (le_refl (sum (widths h))))

  -- what the checks of the fields say
  checks : (c : Code) → fields_checked xs ≡ done c → (length xs ≡ size front) × T (good_head front)
      × T (good_rest front fields_in (code_of front fields_in)) × (code_of front fields_in ≡ c)
  unfolding fields_checked
  checks c e =
      let d = code_of front fields_in in
      let rest = unless Field (good_rest front fields_in d) (done d) in
      let (_, e₀) = unless→ Length (leb header_bytes (length xs)) (fields_good (length xs) front (bits_of xs)) c e in
      let (t, e₁) = unless→ Field (good_head front) (unless Length (eqb (length xs) (size front)) rest) c e₀ in
      let (l, e₂) = unless→ Length (eqb (length xs) (size front)) rest c e₁ in
      let (u, e₃) = unless→ Field (good_rest front fields_in d) (done d) c e₂ in
      (eqb→eq (length xs) (size front) l, t, u, done_inj d c e₃)

  -- bytes whose fields are good name a code with its fields in range
  pub fields-formed : (c : Code) → fields_checked xs ≡ done c → T (formed c)
  fields-formed c e =
      let (l, t, u, k) = checks c e in
      subst (λ d. T (formed d)) k (formed-again _ _ _ _ _ _ _ _ _ (fits-again front l) u t)

  -- so a table that holds that code is ready
  pub read-ready : (t : Table) → done (code_in t) ≡ fields_checked xs → T (ready t)
  unfolding ready
  read-ready t e = fields-formed (code_in t) (sym e)

  module _ (bytes : Below 256 xs) where
    -- the record's fields, with l bytes
    packed-again : (h : Head) (vs : List ℕ) → length xs ≡ size h → vs ≡ read (widths h) (bits_of xs)
        → values (code_of h vs) ≡ vs → pack (code_of h vs) ≡ xs
    unfolding pack
    packed-again h vs l e v =
        let bs = bits_of xs in
        let lb : length bs ≡ sum (widths h) =
        length-write (replicate (length xs) 8) xs (fits-uniform 8 xs bytes) ∙ ap (λ n. sum (replicate n 8)) l
        ∙ sym (sum-widths h) in
        ap (λ k. read (replicate (size k) 8) (write (widths k) (values (code_of h vs)))) (head-again h vs)
        ∙ ap (λ ws. read (replicate (size h) 8) (write (widths h) ws)) (v ∙ e)
        ∙ rw (write_read (widths h) bs (below-write (replicate (length xs) 8) xs) lb, ← l)
        (read_back (replicate (length xs) 8) xs (fits-uniform 8 xs bytes))

    -- fields that are in range are those of a code in range, and the bytes are its record
    pub fields-again : let h = head_of (read header (bits_of xs)) in let vs = read (widths h) (bits_of xs) in
        length xs ≡ size h → T (good_head h) → T (good_rest h vs (code_of h vs))
        → T (formed (code_of h vs)) × (pack (code_of h vs) ≡ xs)
    fields-again l t u =
        let f = fits-again front l in (
          formed-again _ _ _ _ _ _ _ _ _ f u t,
          packed-again front fields_in l refl (values-again _ _ _ _ _ _ _ _ _ f u),
        )

    pub record Checked (c : Code) : Type 0 where
      pub formed : T (formed c)
      pub canonical : pack c ≡ xs

    -- bytes whose fields are good are the record of a code with its fields in range
    pub fields-good : (c : Code) → fields_checked xs ≡ done c → Checked c
    fields-good c e =
        let (l, t, u, k) = checks c e in
        let (f, p) = fields-again l t u in
        subst Checked k (record { formed = f; canonical = p })
