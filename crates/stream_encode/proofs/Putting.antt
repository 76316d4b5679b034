-- The words of a path put into bytes as a stream, edge by edge; copies of the tail datum stand after the blocks.
-- In order: Puts, puts_none, puts-more, puts-room, puts-end; recorded-size, recorded-in, a recording under a table by
-- value.
-- Assumes nothing.
use Rattle.std.proofs.Common.{◌≡◌, ◌∷◌, ◌++◌, ◌+◌, ◌-◌, ◌*◌, ◌≤◌, ◌<◌}
use Rattle.laws.proofs.All.{refl, sym, ap, subst, ◌∙◌, List, [], ℕ, arith}
use Rattle.laws.proofs.All.{length, take, drop, get_or, length-take-le}
use Rattle.laws.proofs.All.{take_all}
use Rattle.bits.specs.Fields.{bits, uniform}
use Rattle.table.specs.declared.Table.{Table}
use Rattle.table.specs.Paths.{ends, spells, recording}
use Rattle.table.specs.Value.{code_in}
use Rattle.table.specs.Edges.{Arrays, Fits, lent, rows_of, word_of, next_of}
use Rattle.table.proofs.Paths.{length-spells, length-recording}
use Rattle.table.proofs.RowsOf.{place-next, next-state, next-words}
use Rattle.stream_pack.specs.declared.writing.Waiting.{Waiting}
use Rattle.stream_pack.specs.Streams.{stream_size, packed}
use Rattle.stream_pack.specs.Waiting.{Waits}
use Rattle.stream_pack.proofs.Streams.{packed-size}
use Rattle.stream_pack.proofs.Waiting.{waits-word, waits-room}
use Rattle.codec_spell.proofs.Writing.{closed}

-- ---- the words of the first k data of the path from state 0 are put; s is the state there
pub record Puts (t : Arrays) (q : ℕ) (ds before : List ℕ) (k s : ℕ) (p : Waiting) (out : List ℕ) : Type 0 where
  pub inside : s < t.states
  pub state : s ≡ ends (rows_of t) 0 (take k ds)
  pub waits : Waits (uniform q (spells (rows_of t) 0 (take k ds))) p before out

module _ (t : Arrays) (q : ℕ) (ds before : List ℕ) where
  pub puts_none : (p : Waiting) → 0 < t.states → Waits [] p before before → Puts t q ds before 0 0 p before
  puts_none p h w = record { inside = h; state = refl; waits = w }

  module _ (k s : ℕ) (p : Waiting) (out : List ℕ) (m : Puts t q ds before k s p out) where
    pub puts-more : Fits t → k < length ds → get_or ds k 0 < t.ways → (e : ℕ) → e ≡ s * 16 + get_or ds k 0
        → (p' : Waiting) (out' : List ℕ)
        → Waits (uniform q (spells (rows_of t) 0 (take k ds)) ++ bits q (word_of t e)) p' before out'
        → Puts t q ds before (k + 1) (next_of t e) p' out'
    puts-more g h d e r p' out' w = record {
      inside = rw r (place-next t s (get_or ds k 0) g m.inside d);
      state = ap (next_of t) r ∙ next-state t 0 ds k s m.state m.inside h d;
      waits = waits-word q (spells (rows_of t) 0 (take k ds)) before out' p' (word_of t e)
          (spells (rows_of t) 0 (take (k + 1) ds))
          (next-words t 0 ds k s m.state m.inside h d
          ∙ ap (λ x. spells (rows_of t) 0 (take k ds) ++ word_of t x ∷ []) (sym r)) w;
    }

    -- j more words find room
    pub puts-room : (j n : ℕ) → k + j ≤ n → k ≤ length ds → stream_size q n ≤ length before
        → p.at * 8 + p.count + j * q ≤ 8 * length out
    puts-room j n h l =
        waits-room q (spells (rows_of t) 0 (take k ds)) before out p j n m.waits
        (rw (length-spells (rows_of t) (take k ds) 0, length-take-le k ds l) h)

    -- all words
    pub puts-end : length ds ≤ k → Waits (uniform q (spells (rows_of t) 0 ds)) p before out
    puts-end h = subst (λ x. Waits (uniform q (spells (rows_of t) 0 x)) p before out) (take_all k ds h) m.waits

-- ---- under a table by value, with the edges that the code has lent and the size that it has computed
module _ (t : Table) (ds : List ℕ) (size : ℕ) (z : size ≡ stream_size t.q (length ds + t.lookahead)) where
  pub recorded-size : size ≡ length (packed t.q (recording (code_in t) ds))
  recorded-size =
      z ∙ sym (packed-size t.q (recording (code_in t) ds) ∙ ap (stream_size t.q) (length-recording (code_in t) ds))

  pub recorded-in : (e : Arrays) (q : ℕ) (before out : List ℕ) → e ≡ lent t → q ≡ t.q
      → let count = length ds + t.lookahead in
      out ≡ packed q (spells (rows_of e) 0 (closed ds t.tail count)) ++ drop (stream_size q count) before
      → out ≡ packed t.q (recording (code_in t) ds) ++ drop size before
  recorded-in e q before out f g w =
      let a : length ds + t.lookahead - length ds ≡ t.lookahead = omega arith in w ∙ rw (f, g, z, a)
