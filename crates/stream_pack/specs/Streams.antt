-- Words as a bit stream: "a bit stream, eight to the byte, first bit highest, last byte filled with 0".
-- In order: limit; stream_size, stream_fill, stream_widths, how words stand in bytes; packed, unpacked, the two ways;
-- good_stream, good_width, the checks; pack_into, unpack_into, what packing and unpacking come to.
-- `room` is the length of the output that was lent.
-- Assumes nothing.
use Rattle.std.specs.Prelude.{Bool, ◌&&◌, List, [], ◌∷◌, ◌++◌, ℕ, ◌+◌, ◌*◌, ◌-◌, ◌/◌, ◌^◌, leb, eqb, length, replicate}
use Rattle.answer.specs.declared.Refusal.TheVariants.{Parameters, ShortOutput, Stream}
use Rattle.answer.specs.Outcomes.{Outcome, done, unless}
use Rattle.answer.specs.FirstBad.{all_below}
use Rattle.bits.specs.Fields.{write, read, bits_of, field}

-- "The word count, at most 1,000,000"
abbrev pub limit : ℕ
limit = 1000000

-- "count × q / 8 rounded up" bytes
abbrev pub stream_size : ℕ → ℕ → ℕ
stream_size q count = (count * q + 7) / 8

-- the bits of the last byte that hold no word
abbrev pub stream_fill : ℕ → ℕ → ℕ
stream_fill q count = 8 * stream_size q count - count * q

-- q bits for each word, then the fill
abbrev pub stream_widths : ℕ → ℕ → List ℕ
stream_widths q count = replicate count q ++ stream_fill q count ∷ []

-- the bytes of the words in q bits each, "last byte filled with 0"
unfoldable pub packed : ℕ → List ℕ → List ℕ
packed q ws = read (replicate (stream_size q (length ws)) 8) (write (stream_widths q (length ws)) (ws ++ 0 ∷ []))

-- the first `count` words of q bits each
unfoldable pub unpacked : ℕ → ℕ → List ℕ → List ℕ
unpacked q count xs = read (replicate count q) (bits_of xs)

-- none of "a word count over the limit, a byte length other than count × q / 8 rounded up, or a fill that is not 0"
unfoldable pub good_stream : ℕ → ℕ → List ℕ → Bool
good_stream q count xs =
    leb count limit
    && (eqb (length xs) (stream_size q count) && eqb (field (bits_of xs) (count * q) (stream_fill q count)) 0)

-- q is 1 to 8
abbrev pub good_width : ℕ → Bool
good_width q = leb 1 q && leb q 8

-- packing: "Packing and unpacking alone give 1 first for a q out of range; packing looks for 13 before 11"
unfoldable pub pack_into : ℕ → ℕ → List ℕ → Outcome (List ℕ)
pack_into q room ws =
    unless Parameters (good_width q) (unless Stream (leb (length ws) limit)
    (unless ShortOutput (leb (stream_size q (length ws)) room) (all_below (2 ^ q) ws (packed q ws))))

-- unpacking: 1 first, and "15 before 13"
unfoldable pub unpack_into : ℕ → ℕ → ℕ → List ℕ → Outcome (List ℕ)
unpack_into q count room xs =
    unless Parameters (good_width q) (unless Stream (good_stream q count xs)
    (unless ShortOutput (leb count room) (done (unpacked q count xs))))
