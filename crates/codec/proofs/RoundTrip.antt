-- Under a sound table decoding a recording gives its data, and the lists that are recordings are recognised.
-- In order: clear_self; decode-recording; recognised; recording-inj.
-- Assumes nothing.
use Rattle.std.proofs.Common.{◌≡◌, ◌↔◌, ◌+◌, ◌≤◌, ◌<◌}
use Rattle.laws.proofs.All.{refl, sym, ap, ◌∙◌, inl, inr, List, ℕ, arith, dec_lt}
use Rattle.laws.proofs.All.{length, ext_get_or}
use Rattle.table.specs.Rows.{Code}
use Rattle.table.specs.Paths.{Blocks, recording}
use Rattle.record_check.specs.Accepted.{Sound}
use Rattle.table.proofs.Paths.{length-recording}
use Rattle.codec_steps.specs.Reading.{decode}
use Rattle.codec.specs.Damage.{StandsClear, Recording}
use Rattle.codec.proofs.Damage.{recovered}
use Rattle.codec.proofs.Decoded.{length-decode}

-- a block of the recording itself stands clear at its own place
clear_self : (c : Code) (R : List ℕ) (i : ℕ) → i + c.window.lookahead < length R → Dec (i < c.window.memory)
    → StandsClear c R R i i
clear_self c R i l (yes h) = (l, inr (h, refl, refl))
clear_self c R i l (no h) = (l, inl (omega arith, omega arith, refl))

-- decoding a recording returns its data
pub decode-recording : (c : Code) → Sound c → (ds : List ℕ) → Blocks c ds → decode c (recording c ds) ≡ ds
decode-recording c g ds b =
    let R = recording c ds in
    let a = c.window.lookahead in
    let lr : length R ≡ length ds + a = length-recording c ds in
    let ld : length (decode c R) ≡ length ds = sym (length-decode c R) ∙ omega arith in
    ext_get_or 0 (decode c R) ds ld
    (λ i h. recovered c g ds R b i i 0 (omega arith) (clear_self c R i (omega arith) (dec_lt i c.window.memory)))

-- a list is a recording exactly when it is long enough, its blocks can be recorded (none is a mark) and their
-- recording is the list
pub recognised : (c : Code) → Sound c → (L : List ℕ)
    → Recording c L
    ↔ ((c.window.lookahead ≤ length L) × Blocks c (decode c L) × (recording c (decode c L) ≡ L))
recognised c g L = (go, (λ (l, b, e). (decode c L, b, e)))
  where
    go : Recording c L → (c.window.lookahead ≤ length L) × Blocks c (decode c L) × (recording c (decode c L) ≡ L)
    go (ds, b, e) =
        let d : decode c L ≡ ds = ap (decode c) (sym e) ∙ decode-recording c g ds b in
        let l : length ds + c.window.lookahead ≡ length L = sym (length-recording c ds) ∙ ap length e in
        (omega arith, rw d b, rw d e)

-- recordings of different data differ
pub recording-inj : (c : Code) → Sound c → (ds es : List ℕ) → Blocks c ds → Blocks c es
    → recording c ds ≡ recording c es → ds ≡ es
recording-inj c g ds es b b' e =
    sym (decode-recording c g ds b) ∙ ap (decode c) e ∙ decode-recording c g es b'
