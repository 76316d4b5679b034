-- Fields that are read and written again, and the code that they name.
-- In order: nexts-again, edges-again, rows-again, fields written again; nexts-good, edges-good, fields in range;
-- length-edges_of; rows-good; length-nexts_of, length-rows_of; tail-again, head-again.
-- Assumes nothing.
use Rattle.std.proofs.Common.{◌≡◌, ◌&&◌, ◌∷◌, ◌++◌, ◌+◌, ◌*◌, ◌^◌, ◌<◌}
use Rattle.laws.proofs.All.{eqb_is, so, nay, refl, sym, ap, ◌∙◌, List, [], append_assoc, ℕ}
use Rattle.laws.proofs.All.{zero, suc, suc-mul, zero-mul, arith, T, ltb, eqb, eqb→eq, eqb_refl}
use Rattle.laws.proofs.All.{lt→ltb, length, get_or, drop, drop-drop, all, repeat, and→, →and, →or_r}
use Rattle.constraint.specs.Walking.{none}
use Rattle.bits.specs.Fields.{Fits}
use Rattle.table.specs.declared.Head.{Head}
use Rattle.table.specs.Formed.{head, good_state, good_next, good_edge, good_row}
use Rattle.record.specs.Layout.{fill, present, shown, nexts, pairs, rows, opened, nexts_of, edges_of, rows_of}
use Rattle.record.specs.Layout.{code_of}
use Rattle.record.specs.Parse.{good_field, good_fields, good_target}

-- ---- fields that are written again
again : (k b s : ℕ) → b < 2 → s < 16 → T (good_field k b s) → (present (opened b s) ≡ b) × (shown (opened b s) ≡ s)
again k zero s hb hs t = (refl, sym (eqb→eq s 0 t))
again k (suc zero) s hb hs t = elim (eqb_is s none) [ so p q ↦ absurd (omega arith) | nay p q ↦ rw q (refl, refl) ]
again k (suc (suc b)) s hb hs t = absurd (omega arith)

pub nexts-again : (n k : ℕ) (us vs : List ℕ) → Fits (repeat k (1 ∷ 4 ∷ 1 ∷ 4 ∷ []) ++ us) vs → T (good_fields n k vs)
    → (nexts (nexts_of k vs) ++ drop (k * 4) vs ≡ vs) × Fits us (drop (k * 4) vs)
nexts-again n zero us vs f t = (refl, f)
nexts-again n (suc k) us [] f t = absurd f
nexts-again n (suc k) us (a ∷ []) f t = absurd f.1
nexts-again n (suc k) us (a ∷ b ∷ []) f t = absurd f.1.1
nexts-again n (suc k) us (a ∷ b ∷ c ∷ []) f t = absurd f.1.1.1
nexts-again n (suc k) us (a ∷ b ∷ c ∷ d ∷ vs) (fa, (fb, (fc, (fd, f)))) t =
    let (t₁, t₂) = and→ (good_field n a b && good_field n c d) (good_fields n k vs) t in
    let (ta, tc) = and→ (good_field n a b) (good_field n c d) t₁ in
    let (ea, eb) = again n a b fa fb ta in
    let (ec, ed) = again n c d fc fd tc in
    let (e, g) = nexts-again n k us vs f t₂ in
    let m : suc k * 4 ≡ suc (suc (suc (suc (k * 4)))) = omega arith in
    rw (m, ea, eb, ec, ed) (ap (λ l. a ∷ b ∷ c ∷ d ∷ l) e, g)

edges-again : (n q : ℕ) (us vs : List ℕ) → Fits (repeat n (q ∷ 7 ∷ []) ++ us) vs
    → (pairs (edges_of n vs) ++ drop (n * 2) vs ≡ vs) × Fits us (drop (n * 2) vs)
edges-again zero q us vs f = (refl, f)
edges-again (suc n) q us [] f = absurd f
edges-again (suc n) q us (a ∷ []) f = absurd f.1
edges-again (suc n) q us (a ∷ b ∷ vs) (fa, (fb, f)) =
    let (e, g) = edges-again n q us vs f in
    let m : suc n * 2 ≡ suc (suc (n * 2)) = omega arith in
    rw m (ap (λ l. a ∷ b ∷ l) e, g)

rows-again : (s n q : ℕ) (us vs : List ℕ) → Fits (repeat s (repeat n (q ∷ 7 ∷ [])) ++ us) vs
    → (rows (rows_of s n vs) ++ drop (s * (n * 2)) vs ≡ vs) × Fits us (drop (s * (n * 2)) vs)
rows-again zero n q us vs f = rw (zero-mul (n * 2)) (refl, f)
rows-again (suc s) n q us vs f =
    let (e, g) = edges-again n q (repeat s (repeat n (q ∷ 7 ∷ [])) ++ us) vs (rw append_assoc at f) in
    let (e', g') = rows-again s n q us (drop (n * 2) vs) g in
    let m : n * 2 + s * (n * 2) ≡ suc s * (n * 2) = omega (arith, suc-mul s (n * 2)) in
    let d : drop (s * (n * 2)) (drop (n * 2) vs) ≡ drop (suc s * (n * 2)) vs =
    drop-drop (s * (n * 2)) (n * 2) vs ∙ ap (λ m. drop m vs) m in
    (rw (← d, append_assoc) (ap (λ l. pairs (edges_of n vs) ++ l) e' ∙ e), rw d at g')

-- ---- a code that is read has its fields in range
state-good : (k b s : ℕ) → T (good_field k b s) → T (good_state k (opened b s))
state-good k b s t =
    elim (eqb_is b 0) [ so p q ↦ rw q tt | nay p q ↦ rw q (→or_r (eqb s none) (ltb s k) (rw q at t)) ]

pub nexts-good : (n k : ℕ) (vs : List ℕ) → T (good_fields n k vs) → T (all (good_next n) (nexts_of k vs))
nexts-good n zero vs t = tt
nexts-good n (suc k) vs t =
    let a = get_or vs 0 0 in
    let b = get_or vs 1 0 in
    let c = get_or vs 2 0 in
    let d = get_or vs 3 0 in
    let (x, y) = and→ (good_field n a b && good_field n c d) (good_fields n k (drop 4 vs)) t in
    let (u, v) = and→ (good_field n a b) (good_field n c d) x in
    →and (good_state n (opened a b) && good_state n (opened c d)) (all (good_next n) (nexts_of k (drop 4 vs)))
    (→and (good_state n (opened a b)) (good_state n (opened c d)) (state-good n a b u) (state-good n c d v))
    (nexts-good n k (drop 4 vs) y)

edges-good : (n q m : ℕ) (us vs : List ℕ) → Fits (repeat n (q ∷ 7 ∷ []) ++ us) vs
    → T (all (good_target m) (edges_of n vs)) → T (all (good_edge q m) (edges_of n vs))
edges-good zero q m us vs f t = tt
edges-good (suc n) q m us [] f t = absurd f
edges-good (suc n) q m us (a ∷ []) f t = absurd f.1
edges-good (suc n) q m us (a ∷ b ∷ vs) (fa, (fb, f)) t =
    let (x, y) = and→ (ltb b m) (all (good_target m) (edges_of n vs)) t in
    →and (ltb a (2 ^ q) && ltb b m) (all (good_edge q m) (edges_of n vs))
    (→and (ltb a (2 ^ q)) (ltb b m) (lt→ltb a (2 ^ q) fa) x) (edges-good n q m us vs f y)

pub length-edges_of : (n : ℕ) (vs : List ℕ) → length (edges_of n vs) ≡ n
length-edges_of zero vs = refl
length-edges_of (suc n) vs = ap suc (length-edges_of n (drop 2 vs))

pub rows-good : (s p q m : ℕ) (us vs : List ℕ) → Fits (repeat s (repeat (2 ^ p) (q ∷ 7 ∷ [])) ++ us) vs
    → T (all (all (good_target m)) (rows_of s (2 ^ p) vs)) → T (all (good_row p q m) (rows_of s (2 ^ p) vs))
rows-good zero p q m us vs f t = tt
rows-good (suc s) p q m us vs f t =
    let es = edges_of (2 ^ p) vs in
    let (x, y) = and→ (all (good_target m) es) (all (all (good_target m)) (rows_of s (2 ^ p) (drop (2 ^ p * 2) vs))) t
    in
    let f' : Fits (repeat (2 ^ p) (q ∷ 7 ∷ []) ++ (repeat s (repeat (2 ^ p) (q ∷ 7 ∷ [])) ++ us)) vs =
    rw append_assoc at f in
    →and (good_row p q m es) (all (good_row p q m) (rows_of s (2 ^ p) (drop (2 ^ p * 2) vs)))
    (→and (eqb (length es) (2 ^ p)) (all (good_edge q m) es) (rw (length-edges_of (2 ^ p) vs) (eqb_refl (2 ^ p)))
    (edges-good (2 ^ p) q m _ vs f' x))
    (rows-good s p q m us (drop (2 ^ p * 2) vs) (edges-again (2 ^ p) q _ vs f').1 y)

pub length-nexts_of : (k : ℕ) (vs : List ℕ) → length (nexts_of k vs) ≡ k
length-nexts_of zero vs = refl
length-nexts_of (suc k) vs = ap suc (length-nexts_of k (drop 4 vs))

pub length-rows_of : (s n : ℕ) (vs : List ℕ) → length (rows_of s n vs) ≡ s
length-rows_of zero n vs = refl
length-rows_of (suc s) n vs = ap suc (length-rows_of s n (drop (n * 2) vs))

last : (w : ℕ) (r : List ℕ) → Fits (w ∷ []) r → T (eqb (get_or r 0 0) 0) → r ≡ 0 ∷ []
last w [] f t = absurd f
last w (x ∷ []) f t = ap (λ y. y ∷ []) (eqb→eq x 0 t)
last w (x ∷ y ∷ r) f t = absurd f.1

pub tail-again : (h : Head) (t : List ℕ)
    → Fits (repeat h.count (1 ∷ 4 ∷ 1 ∷ 4 ∷ []) ++
    (repeat h.states (repeat (2 ^ h.p) (h.q ∷ 7 ∷ [])) ++ (fill h ∷ []))) t
    → T (good_fields h.count h.count t)
    → T (eqb (get_or (drop (h.states * (2 ^ h.p * 2)) (drop (h.count * 4) t)) 0 0) 0)
    → nexts (nexts_of h.count t) ++ (rows (rows_of h.states (2 ^ h.p) (drop (h.count * 4) t)) ++ (0 ∷ [])) ≡ t
tail-again h t f b z =
    let (e, g) = nexts-again h.count h.count _ t f b in
    let (e', g') = rows-again h.states (2 ^ h.p) h.q (fill h ∷ []) (drop (h.count * 4) t) g in
    ap (λ l. nexts (nexts_of h.count t) ++ l)
    (ap (λ l. rows (rows_of h.states (2 ^ h.p) (drop (h.count * 4) t)) ++ l) (sym (last (fill h) _ g' z))
    ∙ e') ∙ e

pub head-again : (h : Head) (vs : List ℕ) → head (code_of h vs) ≡ h
head-again h vs = rw (length-rows_of h.states (2 ^ h.p), length-nexts_of h.count)

-- ---- the bits of bytes
