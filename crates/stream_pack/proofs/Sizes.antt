-- How many bytes and bits of fill words take, and bytes that are their stream.
-- In order: stream-holds, stream-sized; stream_bits; packed-is.
-- Assumes nothing.
use Rattle.std.proofs.Common.{◌≡◌, ◌∷◌, ◌++◌, ◌+◌, ◌*◌, ◌≤◌, ◌<◌}
use Rattle.laws.proofs.All.{sym, ap, ap₂, ◌∙◌, List, [], append-nil, ℕ, arith}
use Rattle.laws.proofs.All.{length, length-append, length-replicate, replicate, Below}
use Rattle.bits.specs.Fields.{bits, read, write, uniform, bits_of}
use Rattle.bits.proofs.Fields.{length-bits, write-append, read_back, fits-uniform}
use Rattle.bits.proofs.Puts.{length-uniform, length-bits_of}
use Rattle.bits.proofs.Runs.{size_holds}
use Rattle.stream_pack.specs.Streams.{stream_size, stream_fill, stream_widths, packed}

-- the bytes hold the words, with fewer than eight bits to spare
pub stream-holds : (q count : ℕ) → count * q ≤ 8 * stream_size q count
stream-holds q count = size_holds (count * q)

-- n bytes of the words and fewer than eight bits are the stream's
pub stream-sized : (q count n f : ℕ) → n * 8 ≡ count * q + f → f < 8
    → (stream_size q count ≡ n) × (stream_fill q count ≡ f)
stream-sized q count n f e h = (omega arith, omega arith)

-- the bits of a stream: those of the words, then the fill
pub stream_bits : (q : ℕ) (ws : List ℕ)
    → write (stream_widths q (length ws)) (ws ++ 0 ∷ []) ≡ uniform q ws ++ bits (stream_fill q (length ws)) 0
stream_bits q ws =
    write-append (replicate (length ws) q) (stream_fill q (length ws) ∷ []) ws (0 ∷ []) (length-replicate (length ws) q)
    ∙ ap (λ l. uniform q ws ++ l) (append-nil (bits (stream_fill q (length ws)) 0))

-- bytes of the bits of the words and fewer than eight bits 0 are the stream of the words
pub packed-is : (q : ℕ) (ws xs : List ℕ) (f : ℕ) → f < 8 → Below 256 xs → bits_of xs ≡ uniform q ws ++ bits f 0
    → (packed q ws ≡ xs) × (stream_size q (length ws) ≡ length xs)
unfolding packed
packed-is q ws xs f h b e =
    let long : length xs * 8 ≡ length ws * q + f =
    sym (length-bits_of xs) ∙ ap length e ∙ length-append (uniform q ws) (bits f 0)
    ∙ ap₂ ◌+◌ (length-uniform q ws) (length-bits f 0) in
    let (s, t) = stream-sized q (length ws) (length xs) f long h in (
      ap₂ (λ n l. read (replicate n 8) l) s (stream_bits q ws ∙ ap (λ n. uniform q ws ++ bits n 0) t ∙ sym e)
          ∙ read_back (replicate (length xs) 8) xs (fits-uniform 8 xs b),
      s,
    )
