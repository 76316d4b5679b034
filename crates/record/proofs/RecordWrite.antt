-- A code with its fields in range, written as a record and read again, is the same code.
-- In order: length-nexts, length_pairs, length-rows; code-back, length-pack, bits-pack, tail-place,
-- fields-pack.
-- Assumes nothing.
use Rattle.std.proofs.Common.{◌≡◌, ◌&&◌, ◌∷◌, ◌++◌, ◌+◌, ◌*◌, ◌-◌, ◌^◌}
use Rattle.laws.proofs.All.{T→true, eq-eqb, eqb_is, so, nay, refl, sym, ap, ap₂, subst, ◌∙◌, List}
use Rattle.laws.proofs.All.{[], append_assoc, ℕ, suc-mul, arith, T, ltb, leb}
use Rattle.laws.proofs.All.{eqb, eqb→eq, le→leb, lt→ltb, length, get_or, take, drop, replicate, length-append}
use Rattle.laws.proofs.All.{length-replicate, lit<, drop_at, all, Each, and→, →and, each_map, all-each, all_of}
use Rattle.answer.specs.declared.Refusal.TheVariants.{Field, Length}
use Rattle.answer.specs.Outcomes.{Outcome, done, unless}
use Rattle.constraint.specs.Walking.{Constraint, none}
use Rattle.table.specs.Rows.{Edge, Rows, Code}
use Rattle.bits.specs.Fields.{field, read, write, bits_of}
use Rattle.bits.proofs.Fields.{regroup, read_back, read_at, length-read}
use Rattle.table.specs.declared.Head.{Head}
use Rattle.table.specs.Formed.{head, good_state, good_next, good_edge, good_row, formed, Formed, Ranges}
use Rattle.record.specs.Layout.{header_fields, header_bytes, header, head_of, size, widths, present, shown}
use Rattle.record.specs.Layout.{nexts, pairs, rows, values, pack, opened, nexts_of, edges_of, rows_of, code_of}
use Rattle.record.specs.Parse.{good_head, good_field, good_fields, good_target, filler, good_rest}
use Rattle.record.specs.Checks.{fields_good, fields_checked}
use Rattle.table.proofs.Formed.{formed→}
use Rattle.record.proofs.RecordFits.{sum-widths, fits-values}
use Rattle.answer.proofs.Outcomes.{unless-true}

-- ---- a code from its values
opened-present : (s : ℕ) → opened (present s) (shown s) ≡ s
opened-present s = elim (eqb_is s none) [ so p q ↦ rw q (sym p) | nay p q ↦ rw q ]

pub length-nexts : (c : Constraint) → length (nexts c) ≡ length c * 4
length-nexts [] = refl
length-nexts (r ∷ c) = rw (length-nexts c) (omega arith)

pub length_pairs : (es : List Edge) → length (pairs es) ≡ length es * 2
length_pairs [] = refl
length_pairs (e ∷ es) = rw (length_pairs es) (omega arith)

nexts-back : (c : Constraint) (r : List ℕ) → nexts_of (length c) (nexts c ++ r) ≡ c
nexts-back [] r = refl
nexts-back (x ∷ c) r =
    ap₂ ◌∷◌ (ap₂ (λ a b. record { zero = a; one = b }) (opened-present x.zero) (opened-present x.one))
    (nexts-back c r)

edges-back : (es : List Edge) (r : List ℕ) → edges_of (length es) (pairs es ++ r) ≡ es
edges-back [] r = refl
edges-back (e ∷ es) r = ap (λ l. e ∷ l) (edges-back es r)

-- rows with the same number of edges each
rows_back : (n : ℕ) (g : Rows) (r : List ℕ) → Each (λ es. length es ≡ n) g → rows_of (length g) n (rows g ++ r) ≡ g
rows_back n [] r h = refl
rows_back n (es ∷ g) r (l, h) =
    rw append_assoc (ap₂ ◌∷◌ (ap (λ m. edges_of m (pairs es ++ (rows g ++ r))) (sym l) ∙ edges-back es (rows g ++ r))
    (ap (rows_of (length g) n) (drop_at (pairs es) (rows g ++ r) (n * 2) (length_pairs es ∙ ap (λ m. m * 2) l))
    ∙ rows_back n g r h))

pub length-rows : (n : ℕ) (g : Rows) → Each (λ es. length es ≡ n) g → length (rows g) ≡ length g * (n * 2)
length-rows n [] h = omega arith
length-rows n (es ∷ g) (l, h) =
    length-append (pairs es) (rows g) ∙ rw (length_pairs es, length-rows n g h, l, suc-mul) (omega arith)

good-even : (p q n : ℕ) (g : Rows) → T (all (good_row p q n) g) → Each (λ es. length es ≡ 2 ^ p) g
good-even p q n g t =
    each_map (λ es. T (good_row p q n es)) (λ es. length es ≡ 2 ^ p)
    (λ es x. eqb→eq (length es) (2 ^ p) (and→ (eqb (length es) (2 ^ p)) (all (good_edge q n) es) x).0) g
    (all-each (good_row p q n) g t)

pub code-back : (c : Code) → Formed c → code_of (head c) (values c) ≡ c
code-back c f =
    rw (
      nexts-back c.constraint (rows c.table ++ (0 ∷ [])),
      drop_at (nexts c.constraint)
          (rows c.table ++ (0 ∷ [])) (length c.constraint * 4) (length-nexts c.constraint),
      rows_back (2 ^ c.p) c.table (0 ∷ []) (good-even c.p c.q (length c.table) c.table f.rows),
    )

-- ---- the checks of a record that was written
field-good : (k s : ℕ) → T (good_state k s) → T (good_field k (present s) (shown s))
field-good k s t = elim (eqb_is s none) [ so p q ↦ rw q tt | nay p q ↦ rw q (rw q at t) ]

fields-good : (k : ℕ) (c : Constraint) (r : List ℕ) → T (all (good_next k) c)
    → T (good_fields k (length c) (nexts c ++ r))
fields-good k [] r t = tt
fields-good k (x ∷ c) r t =
    let (a, b) = and→ (good_next k x) (all (good_next k) c) t in
    let (y, z) = and→ (good_state k x.zero) (good_state k x.one) a in
    →and (good_field k (present x.zero) (shown x.zero) && good_field k (present x.one) (shown x.one))
    (good_fields k (length c) (nexts c ++ r))
    (→and (good_field k (present x.zero) (shown x.zero)) (good_field k (present x.one) (shown x.one))
    (field-good k x.zero y) (field-good k x.one z)) (fields-good k c r b)

targets-good : (q n : ℕ) (es : List Edge) → T (all (good_edge q n) es) → T (all (good_target n) es)
targets-good q n es t =
    all_of (good_target n) es (each_map (λ e. T (good_edge q n e)) (λ e. T (good_target n e))
    (λ e x. (and→ (ltb e.word (2 ^ q)) (ltb e.next n) x).1) es (all-each (good_edge q n) es t))

rows-good : (p q n : ℕ) (g : Rows) → T (all (good_row p q n) g) → T (all (all (good_target n)) g)
rows-good p q n g t =
    all_of (all (good_target n)) g (each_map (λ es. T (good_row p q n es)) (λ es. T (all (good_target n) es))
    (λ es x. targets-good q n es (and→ (eqb (length es) (2 ^ p)) (all (good_edge q n) es) x).1) g
    (all-each (good_row p q n) g t))

rest-good : (c : Code) → Formed c → T (good_rest (head c) (values c) c)
rest-good c f =
    let K = length c.constraint in
    let S = length c.table in
    let e : drop (S * (2 ^ c.p * 2)) (drop (K * 4) (nexts c.constraint ++ (rows c.table ++ (0 ∷ [])))) ≡ 0 ∷
    [] =
    ap (drop (S * (2 ^ c.p * 2)))
    (drop_at (nexts c.constraint) (rows c.table ++ (0 ∷ [])) (K * 4) (length-nexts c.constraint))
    ∙ drop_at (rows c.table) (0 ∷ []) (S * (2 ^ c.p * 2))
    (length-rows (2 ^ c.p) c.table (good-even c.p c.q S c.table f.rows)) in
    →and (good_fields K K (nexts c.constraint ++ (rows c.table ++ (0 ∷ []))))
    (all (all (good_target S)) c.table && eqb (filler (head c) (values c)) 0)
    (fields-good K c.constraint (rows c.table ++ (0 ∷ [])) f.nexts)
    (→and (all (all (good_target S)) c.table) (eqb (filler (head c) (values c)) 0)
    (rows-good c.p c.q S c.table f.rows) (subst (λ l. T (eqb (get_or l 0 0) 0)) (sym e) tt))

head-good : (h : Head) → Ranges h → T (good_head h)
head-good h r =
    →and (leb 1 h.p && leb h.p 4) _
    (→and (leb 1 h.p) (leb h.p 4) (le→leb 1 h.p r.p₁) (le→leb h.p 4 r.p₂))
    (→and (leb 1 h.q && leb h.q 8) (ltb h.start h.count && ltb h.tail (2 ^ h.p))
    (→and (leb 1 h.q) (leb h.q 8) (le→leb 1 h.q r.q₁) (le→leb h.q 8 r.q₂))
    (→and (ltb h.start h.count) (ltb h.tail (2 ^ h.p)) (lt→ltb h.start h.count r.start)
    (lt→ltb h.tail (2 ^ h.p) r.tail)))

pub length-pack : (c : Code) → length (pack c) ≡ size (head c)
unfolding pack
length-pack c = length-read (replicate (size (head c)) 8) (write (widths (head c)) (values c))
    ∙ length-replicate (size (head c)) 8

-- the bits of a written record are its fields
pub bits-pack : (c : Code) → Formed c → bits_of (pack c) ≡ write (widths (head c)) (values c)
unfolding pack
bits-pack c f =
    ap (λ n. write (replicate n 8) (pack c)) (length-pack c)
    ∙ regroup (widths (head c)) (replicate (size (head c)) 8) (values c) (fits-values c f) (sum-widths (head c))

fields_back : (c : Code) → Formed c → read (widths (head c)) (write (widths (head c)) (values c)) ≡ values c
fields_back c f = read_back (widths (head c)) (values c) (fits-values c f)

head-back : (c : Code) → Formed c → head_of (read header (write (widths (head c)) (values c))) ≡ head c
head-back c f =
    let r = f.range in
    let s : length c.table - 1 + 1 ≡ length c.table = omega (arith, r.s₁) in
    let k : length c.constraint - 1 + 1 ≡ length c.constraint = omega (arith, r.k₁) in
    ap (λ vs. head_of (take header_fields vs)) (fields_back c f)
    ∙ rw (s, k)

-- the fields of the constraint start and of the tail datum stand at their places
pub tail-place : (c : Code) → T (formed c)
    → (field (bits_of (pack c)) 26 4 ≡ c.start) × (field (bits_of (pack c)) 30 4 ≡ c.tail)
tail-place c t =
    let f = formed→ c t in
    let e : head_of (read header (bits_of (pack c))) ≡ head c =
    ap (λ bs. head_of (read header bs)) (bits-pack c f) ∙ head-back c f in (
      sym (read_at header (bits_of (pack c)) 6 (lit< tt)) ∙ ap (λ h. h.start) e,
      sym (read_at header (bits_of (pack c)) 7 (lit< tt)) ∙ ap (λ h. h.tail) e,
    )

passed : (l : ℕ) (h : Head) (bs vs : List ℕ) (c : Code) → read (widths h) bs ≡ vs → code_of h vs ≡ c → T (good_head h)
    → l ≡ size h → T (good_rest h vs c)
    → fields_good l h bs ≡ done c
passed l h bs vs c e e' t₁ t₂ t₃ =
    ap (λ vs. checked vs (code_of h vs)) e ∙ ap (checked vs) e'
    ∙ rw (T→true (good_head h) t₁, eq-eqb l (size h) t₂, T→true (good_rest h vs c) t₃)
  where
    checked : List ℕ → Code → Outcome Code
    checked vs c = unless Field (good_head h)
        (unless Length (eqb l (size h)) (unless Field (good_rest h vs c) (done c)))

-- a code with its fields in range, packed and read, is the code
pub fields-pack : (c : Code) → T (formed c) → fields_checked (pack c) ≡ done c
unfolding fields_checked
fields-pack c t =
    let f = formed→ c t in
    let l = length-pack c in
    unless-true Length (leb header_bytes (length (pack c)))
    (fields_good (length (pack c)) (head_of (read header (bits_of (pack c)))) (bits_of (pack c)))
    (rw l (le→leb header_bytes (size (head c)) (omega (arith, f.range.k₁))))
    ∙ ap (λ n. fields_good n (head_of (read header (bits_of (pack c)))) (bits_of (pack c))) l
    ∙ ap (λ bs. fields_good (size (head c)) (head_of (read header bs)) bs) (bits-pack c f)
    ∙ ap (λ h. fields_good (size (head c)) h (write (widths (head c)) (values c))) (head-back c f)
    ∙ passed (size (head c)) (head c) (write (widths (head c)) (values c)) (values c) c (fields_back c f)
    (code-back c f) (head-good (head c) f.range) refl (rest-good c f)
