-- Demand 2, second half, of the outcomes of encoding and decoding under a code: round trip, and recordings recognised.
-- In order: →encoded, encoded→, →decoded, decoded→; words-below; returns; recognised-answers.
-- Assumes nothing.
use Rattle.std.proofs.Common.{◌≡◌, ◌↔◌, ◌++◌, ◌+◌, ◌-◌, ◌^◌, ◌≤◌}
use Rattle.laws.proofs.All.{sym, ap, subst, ◌∙◌, List, ℕ, arith, leb, leb→le}
use Rattle.laws.proofs.All.{le-leb, length, Below}
use Rattle.answer.specs.declared.Refusal.TheVariants.{TooFewWords, ShortOutput}
use Rattle.answer.specs.Outcomes.{done, unless}
use Rattle.answer.specs.FirstBad.{all_below}
use Rattle.answer.proofs.FirstBad.{all_below-true, all_below→}
use Rattle.answer.proofs.Outcomes.{unless→}
use Rattle.table.specs.Rows.{Code}
use Rattle.table.specs.Paths.{Blocks, recording, closing}
use Rattle.window.specs.Window.{Window}
use Rattle.table.specs.Formed.{Formed}
use Rattle.record_check.specs.Accepted.{Sound}
use Rattle.table.proofs.Paths.{closed-blocks, length-recording, blocks→path, path-words}
use Rattle.table.proofs.Shape.{words}
use Rattle.record_check.proofs.Acceptance.{sound}
use Rattle.codec_steps.specs.Reading.{decode}
use Rattle.codec.specs.Answers.{encoded, decoded}
use Rattle.codec.specs.Damage.{Recording}
use Rattle.codec.proofs.RoundTrip.{decode-recording}

-- ---- when encoding and decoding are done
module _ (c : Code) where
  pub →encoded : (room : ℕ) (ds : List ℕ) → Blocks c ds → length ds + c.window.lookahead ≤ room
      → encoded c room ds ≡ done (recording c ds)
  unfolding encoded
  →encoded room ds b h =
      rw (le-leb (length ds + c.window.lookahead) room h) (all_below-true (2 ^ c.p) ds (recording c ds) b)

  pub encoded→ : (room : ℕ) (ds xs : List ℕ) → encoded c room ds ≡ done xs
      → (length ds + c.window.lookahead ≤ room) × Blocks c ds × (recording c ds ≡ xs)
  unfolding encoded
  encoded→ room ds xs e =
      let (t, q) = unless→ ShortOutput (leb (length ds + c.window.lookahead) room)
      (all_below (2 ^ c.p) ds (recording c ds)) xs e in
      let (b, r) = all_below→ (2 ^ c.p) ds (recording c ds) xs q in
      (leb→le (length ds + c.window.lookahead) room t, b, r)

  pub →decoded : (room : ℕ) (ws : List ℕ) → c.window.lookahead ≤ length ws
      → length ws - c.window.lookahead ≤ room → Below (2 ^ c.q) ws → decoded c room ws ≡ done (decode c ws)
  unfolding decoded
  →decoded room ws l h b =
      rw (le-leb c.window.lookahead (length ws) l, le-leb (length ws - c.window.lookahead) room h)
      (all_below-true (2 ^ c.q) ws (decode c ws) b)

  pub decoded→ : (room : ℕ) (ws xs : List ℕ) → decoded c room ws ≡ done xs → decode c ws ≡ xs
  unfolding decoded
  decoded→ room ws xs e =
      let a = c.window.lookahead in
      let last = all_below (2 ^ c.q) ws (decode c ws) in
      let (_, e') =
      unless→ TooFewWords (leb a (length ws)) (unless ShortOutput (leb (length ws - a) room) last) xs e in
      let (_, e'') = unless→ ShortOutput (leb (length ws - a) room) last xs e' in
      (all_below→ (2 ^ c.q) ws (decode c ws) xs e'').1

-- ---- under an accepted table
module _ (c : Code) (f : Formed c) (w : Window c.table c.window) where
  -- the words of a recording have q bits
  pub words-below : (ds : List ℕ) → Blocks c ds → Below (2 ^ c.q) (recording c ds)
  words-below ds b =
      let g : Sound c = sound c f w in
      let D = ds ++ closing c in
      path-words c.table (2 ^ c.q) (words c.p c.q (length c.table) c.table f.rows) D 0
      (blocks→path c.table (2 ^ c.p) g.closed g.full D 0 g.some (closed-blocks c g.tail ds b))

  -- decoding a recording returns its data
  pub returns : (room room' : ℕ) (ds R : List ℕ) → length ds ≤ room' → encoded c room ds ≡ done R
      → decoded c room' R ≡ done ds
  returns room room' ds R h e =
      let (_, b, q) = encoded→ c room ds R e in
      let l : length R ≡ length ds + c.window.lookahead = ap length (sym q) ∙ length-recording c ds in
      →decoded c room' R (omega arith) (omega arith) (subst (Below (2 ^ c.q)) q (words-below ds b))
      ∙ ap done (ap (decode c) (sym q) ∙ decode-recording c (sound c f w) ds b)

  -- a list is a recording exactly when decoding it is done and encoding what it gives is done and gives the list
  pub recognised-answers : (room : ℕ) (L : List ℕ) → length L ≤ room
      → Recording c L ↔ ((ds : List ℕ) × (decoded c room L ≡ done ds) × (encoded c room ds ≡ done L))
  recognised-answers room L h = (there, (λ (ds, d, e). let (_, b, q) = encoded→ c room ds L e in (ds, b, q)))
    where
      there : Recording c L → (ds : List ℕ) × (decoded c room L ≡ done ds) × (encoded c room ds ≡ done L)
      there (ds, b, e) =
          let l : length ds + c.window.lookahead ≡ length L = sym (length-recording c ds) ∙ ap length e in
          let q : encoded c room ds ≡ done L = →encoded c room ds b (omega arith) ∙ ap done e in
          (ds, returns room room ds L (omega arith) q, q)
