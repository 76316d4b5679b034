-- Demands 2 and 3 from bytes to bytes: of the record's bytes, the blocks and the words.
-- In order: facts; demand-2-returns; demand-2-recognised; demand-3; different-data.
-- Assumes nothing.
use Rattle.std.proofs.Common.{◌≡◌, ◌↔◌, ◌-◌, ◌^◌, ◌≤◌, ◌<◌}
use Rattle.laws.proofs.All.{sym, ◌∙◌, List, ℕ, length, get_or, Below}
use Rattle.answer.specs.Outcomes.{done}
use Rattle.answer.proofs.Outcomes.{onward→}
use Rattle.table.specs.Rows.{Code}
use Rattle.table.specs.Paths.{Blocks, recording}
use Rattle.window.specs.Window.{Window}
use Rattle.table.specs.Formed.{Formed}
use Rattle.table.proofs.Formed.{formed→}
use Rattle.record_check.proofs.Acceptance.{sound}
use Rattle.record_check.specs.Parse.{parse}
use Rattle.record_check.proofs.Accepted.{parse-exact}
use Rattle.codec_steps.specs.Reading.{mark_ahead, decode}
use Rattle.codec.specs.Answers.{encoded, encode_under, decode_under}
use Rattle.codec.specs.Damage.{StandsClear, Recording}
use Rattle.codec.proofs.Damage.{recovered}
use Rattle.codec.proofs.RoundTrip.{recording-inj}
use Rattle.codec.proofs.Answers.{encoded→, →decoded, returns, recognised-answers}

module _ (xs : List ℕ) (bytes : Below 256 xs) where
  -- what an accepted record says
  pub facts : (c : Code) → parse xs ≡ done c → Formed c × Window c.table c.window
  facts c e = let (t, _, (_, w)) = (parse-exact xs bytes c).0 e in (formed→ c t, w)

  -- decoding what was recorded returns the data
  pub demand-2-returns : (room room' : ℕ) (ds R : List ℕ) → length ds ≤ room' → encode_under xs room ds ≡ done R
      → decode_under xs room' R ≡ done ds
  unfolding encode_under decode_under
  demand-2-returns room room' ds R h e =
      let (c, p, q) = onward→ (parse xs) (λ c. encoded c room ds) R e in
      let (f, w) = facts c p in
      rw p (returns c f w room room' ds R h q)

  -- recordings are recognised
  pub demand-2-recognised : (c : Code) → parse xs ≡ done c → (room : ℕ) (L : List ℕ) → length L ≤ room
      → Recording c L ↔ ((ds : List ℕ) × (decode_under xs room L ≡ done ds) × (encode_under xs room ds ≡ done L))
  unfolding encode_under decode_under
  demand-2-recognised c p room L h =
      let (f, w) = facts c p in
      rw p (recognised-answers c f w room L h)

  -- demand 3, one claim over whole lists
  pub demand-3 : (c : Code) → parse xs ≡ done c → (ds L : List ℕ) (room : ℕ) → Blocks c ds → Below (2 ^ c.q) L
      → c.window.lookahead ≤ length L → length L - c.window.lookahead ≤ room
      → (out : List ℕ) × (decode_under xs room L ≡ done out)
      × ((i j : ℕ) → i < length ds → StandsClear c (recording c ds) L i j → get_or out j mark_ahead ≡ get_or ds i 0)
  unfolding decode_under
  demand-3 c p ds L room b w l h =
      let (f, k) = facts c p in (
        decode c L,
        rw p (→decoded c room L l h w),
        (λ i j hi cl. recovered c (sound c f k) ds L b i j mark_ahead hi cl),
      )

  -- recordings of different data differ
  pub different-data : (room room' : ℕ) (ds es R : List ℕ) → encode_under xs room ds ≡ done R
      → encode_under xs room' es ≡ done R → ds ≡ es
  unfolding encode_under
  different-data room room' ds es R e e' =
      let (c, p, q) = onward→ (parse xs) (λ c. encoded c room ds) R e in
      let (f, w) = facts c p in
      let (_, b, r) = encoded→ c room ds R q in
      let (_, b', r') = encoded→ c room' es R (rw p at e') in
      recording-inj c (sound c f w) ds es b b' (r ∙ sym r')
