-- Parts put one after the other among lent bits, and the bytes that they make.
-- In order: spliced-next, run-next; same_bytes, bytes-in-front; size_holds.
-- Assumes nothing.
use Rattle.std.proofs.Common.{◌≡◌, ◌++◌, ◌+◌, ◌*◌, ◌/◌, ◌≤◌}
use Rattle.laws.proofs.All.{sym, ap, ap₂, ◌∙◌, List, map, ℕ, arith, length, drop}
use Rattle.laws.proofs.All.{replicate, length-append, length-drop, concat, range, Below, below-append, below-drop}
use Rattle.laws.proofs.All.{concat-more, length_run}
use Rattle.bits.specs.Fields.{read, bits_of}
use Rattle.bits.specs.Bytes.{spliced}
use Rattle.bits.proofs.Fields.{read_back, fits-uniform, below-read, read_count, uniform-read}
use Rattle.bits.proofs.Places.{drop-bytes}
use Rattle.bits.proofs.Puts.{bits_of-append, spliced-twice}

-- one part after another
pub spliced-next : (B B₁ B₂ F G : List ℕ) (at m : ℕ) → m ≡ at + length F → m + length G ≤ length B
    → B₁ ≡ spliced at F B → B₂ ≡ spliced m G B₁ → B₂ ≡ spliced at (F ++ G) B
spliced-next B B₁ B₂ F G at m e h p q =
    q ∙ ap₂ (λ o l. spliced o G l) e p ∙ spliced-twice B F G at (omega arith)

-- one more of pieces of one length
pub run-next : (f : ℕ → List ℕ) (w : ℕ) → ((k : ℕ) → length (f k) ≡ w) → (B B₁ B₂ : List ℕ) (at n m : ℕ)
    → m ≡ at + n * w → m + w ≤ length B → B₁ ≡ spliced at (concat (map f (range n))) B → B₂ ≡ spliced m (f n) B₁
    → B₂ ≡ spliced at (concat (map f (range (n + 1)))) B
run-next f w h B B₁ B₂ at n m e l p q =
    let r = length_run f w n h in
    spliced-next B B₁ B₂ (concat (map f (range n))) (f n) at m (omega arith) (omega (arith, h n)) p q
    ∙ ap (λ x. spliced at x B) (sym (concat-more f n))

-- bytes are known by their bits
pub same_bytes : (xs ys : List ℕ) → Below 256 xs → Below 256 ys → length xs ≡ length ys → bits_of xs ≡ bits_of ys
    → xs ≡ ys
same_bytes xs ys b d l e =
    sym (read_back (replicate (length xs) 8) xs (fits-uniform 8 xs b))
    ∙ ap₂ (λ n t. read (replicate n 8) t) l e ∙ read_back (replicate (length ys) 8) ys (fits-uniform 8 ys d)

-- bytes with whole bytes of bits in front, and as lent after them
pub bytes-in-front : (W : List ℕ) (k : ℕ) → Below 2 W → length W ≡ k * 8 → (out new : List ℕ) → Below 256 out
    → Below 256 new → k ≤ length out → length new ≡ length out → bits_of new ≡ spliced 0 W (bits_of out)
    → new ≡ read (replicate k 8) W ++ drop k out
bytes-in-front W k two long out new b d h l e =
    let P = read (replicate k 8) W in
    let lp : length P ≡ k = read_count 8 k W in
    let ln : length new ≡ length (P ++ drop k out) =
    l ∙ sym (length-append P (drop k out) ∙ ap₂ ◌+◌ lp (length-drop k out) ∙ omega arith) in
    let lw : k * 8 ≡ 0 + length W = omega arith in
    same_bytes new (P ++ drop k out) d
    (below-append 256 P (drop k out) (below-read 8 k W two) (below-drop 256 k out b)) ln
    (e ∙ sym (bits_of-append P (drop k out) ∙ ap₂ ◌++◌ (uniform-read 8 k W two long)
    (sym (drop-bytes k out) ∙ ap (λ n. drop n (bits_of out)) lw)))

-- bytes for b bits hold them
pub size_holds : (b : ℕ) → b ≤ 8 * ((b + 7) / 8)
size_holds b = omega arith
