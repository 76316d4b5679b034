-- The theorems of the later requests, of verifying and of what each call answers, each written out in full as on Main.
-- In order: (a) joint, joined-pairs, numbered, joined-steps, too-many-pairs, joined-job, joined-read, both-obeyed; (b)
-- streams, packed-bits, good-streams, stream-numbers, pack-calls, unpack-calls, pack-returns, stream-words,
-- stream-returns, stream-calls, unstream-calls, stream-recognised, stream-clear, bits-reach, reach-quoted, reach-told;
-- (c) labels, labels-row, labels-rule, labels-hold, table-rule; (d) decoded-blocks, marks, read-datum, no-mark-ahead,
-- clear-unmarked; (e) closes, tail-free, tail-place, closes-record; (f) depth-numbers, weave-calls, unweave-calls,
-- weave-spreads, weave-returns, weave-places, weaving, one-word-each, fewer-places, scratch; (g) state-sets, step-bits,
-- back-bits, pair-step-bits, pair-hit-bits; (h) brought-used, bad-weights, brought-ends, brought-alike; Verify:
-- verified, verified-place, verified-mark, verified-near, verified-stream, verify-calls, verify-stream-calls; Calls:
-- job-order, job_read, run-length-order, run-length-read, joined-order, listing-call; set-layout, set-order, set-count;
-- encode-calls, decode-calls, checked-calls; info-numbers, phrase-words, phrases, with-tail; refusal-numbers,
-- answer-words, word-numbers, set_words, outputs.
-- Assumes nothing.
use Rattle.std.specs.Prelude.{Result, Ok, Err}
use Rattle.std.specs.Prelude.{if◌then◌else◌, ◌≡◌, ◌⊎◌, ◌↔◌, true, not, ◌&&◌, List, [], ◌∷◌, ◌++◌, map, ℕ, ◌+◌, ◌*◌, ◌-◌}
use Rattle.std.specs.Prelude.{◌/◌, ◌%◌, ◌^◌, ◌≤◌, ◌<◌, min, None, T, eqb, length, get_or, take, drop, replicate}
use Rattle.std.specs.Int.Count.{ones, count_trailing_zeros}
use Rattle.laws.specs.Lists.{range, concat, sum, elem}
use Rattle.laws.specs.Sums.{Each, Once, Below}
use Rattle.answer.specs.declared.Refusal.{Refusal}
use Rattle.answer.specs.declared.Refusal.TheVariants.{Parameters, States, NoCode, TooHeavy, TooManyEdges, NoWindow}
use Rattle.answer.specs.declared.Refusal.TheVariants.{Field, Length, Disobeys, WindowFails, BadByte, TooFewWords}
use Rattle.answer.specs.declared.Refusal.TheVariants.{ShortOutput, TooManyPairs, Stream, Depth, BadWeights}
use Rattle.answer.specs.Refusals.{number_of, place_of}
use Rattle.answer.specs.Answers.{answer_value}
use Rattle.answer.specs.Outcomes.{done, refused, onward, answer_of, output_of}
use Rattle.answer.specs.FirstBad.{first_bad}
use Rattle.answer.specs.Orders.{check, First}
use Rattle.bits.specs.Fields.{field, bits_of}
use Rattle.constraint.specs.Walking.{Constraint, run_length, after, Lawful}
use Rattle.constraint.specs.Follow.{Finds, channel}
use Rattle.joining.specs.Joined.{pair_of, pairs, joined, Reachable, FirstMet}
use Rattle.table.specs.Rows.{Rows, edges, at, Code, with_tail}
use Rattle.table.specs.Paths.{spells, Blocks, recording, Full}
use Rattle.table.specs.Formed.{Formed}
use Rattle.table.specs.Marks.{some}
use Rattle.table.specs.Edges.{Arrays, Fits, places, is_edge, word_of as word_at, rows_of}
use Rattle.bitsets.specs.declared.BitSet.{BitSet}
use Rattle.bitsets.specs.BitSets.{holds, yes_no, set_at}
use Rattle.bitsets.specs.StateSets.{Words, joined as joined_sets, yeses, first_yes, some_yes, either}
use Rattle.window.specs.Works.{into, reversed}
use Rattle.window.specs.Search.{hits}
use Rattle.window_pairs.specs.PairSets.{pairs_in, joins_by, clashes_by}
use Rattle.codec_groups.specs.Groups.{Grouped, between, steps_to, leads_into}
use Rattle.record.specs.Layout.{pack}
use Rattle.record_check.specs.Parse.{parse}
use Rattle.codec_steps.specs.StateSets.{along, back}
use Rattle.codec_steps.specs.Reading.{mark_ahead, block, decode}
use Rattle.codec.specs.Answers.{encode_under, decode_under, encode_checked, decode_checked}
use Rattle.codec.specs.Follows.{Follows}
use Rattle.codec.specs.Damage.{StandsClear, Recording, SameOutside, differences}
use Rattle.compile_graph.specs.Arcs.{Arc, arc, out, power}
use Rattle.compile_graph.specs.Weights.{Passing}
use Rattle.compile_graph.specs.Invariant.{count}
use Rattle.compile_graph.specs.Reachable.{Reachable as ReachableBy}
use Rattle.compile_graph.specs.Splitting.{sort}
use Rattle.compile_table.specs.TableOf.{table_of}
use Rattle.compile_labels.specs.Labels.{relabelled_row, relabelled, Rearranged}
use Rattle.compile_job.specs.Jobs.{computed, brought, Job, Allowed, states_of, read_job, read_run_length, read_listed}
use Rattle.compile_job.specs.Jobs.{read_joined, Joins}
use Rattle.compile.specs.Compile.{ways, graph_of, weights_of, component_of, finished_of, compile, compile_job}
use Rattle.compile.specs.Compile.{compile_run_length, compile_joined}
use Rattle.compile.specs.Kinds.{Kind, held_as, read_as, compile_as}
use Rattle.stream_pack.specs.Streams.{packed, unpacked, good_stream, pack_into, unpack_into}
use Rattle.weaving.specs.Weaving.{woven, unwoven, part, good_depth, weave_into, unweave_into}
use Rattle.stream.specs.Recorded.{encode_stream, decode_stream}
use Rattle.stream_damage.specs.declared.BitNo.{BitNo}
use Rattle.stream_damage.specs.declared.BlockNo.{BlockNo}
use Rattle.stream_damage.specs.declared.BitRange.{BitRange}
use Rattle.stream_damage.specs.declared.BlockRange.{BlockRange}
use Rattle.stream_damage.specs.BitReach.{reach_under, reach_answer, reach_number, reach_values}
use Rattle.record_tail.specs.Closing.{closed_with}
use Rattle.codec_verify.specs.Fronts.{same_front}
use Rattle.codec_verify.specs.Verify.{rebuilt, verify_under, verify_stream}
use Rattle.set_places.specs.Offsets.{offset_of}
use Rattle.set_check.specs.Sets.{read_set}
use Rattle.set_check.specs.Results.{bad, set_answer}
use Rattle.set_check.specs.Outcomes.{record_of}
use Rattle.text.specs.Texts.{bytes}
use Rattle.view_refusals.specs.Phrases.{words_of}
use Rattle.view_listing.specs.Listing.{listing}
use Rattle.view_job.specs.Listings.{list_into}
use Rattle.info.specs.Info.{info_under, phrase_into}
use Rattle.word.specs.Words.{word_of}
use Rattle.sbc.specs.Words.{set_word_of}

-- ---- (a) Two constraints on one medium. What the main page says of a `Kind` of job holds of this kind too: its record
-- passes the checker (`compiled-passes`), and 3 to 6 and 13 come exactly where they are due.

-- A string is allowed from the joint start exactly when both constraints allow it from their states 0.
pub joint : (c d : Constraint) → Lawful c → Lawful d → length (pairs c d) ≤ 16 → (bs : List ℕ)
    → Finds (joined c d) 0 bs ↔ (Finds c 0 bs × Finds d 0 bs)
joint = Rattle.joining.proofs.Joined.joint

-- The joined states are the pairs reachable from both states 0, each once: all of them where there are at most 16.
pub joined-pairs : (c d : Constraint) → Lawful c → Lawful d
    → Once (pairs c d) × Each (λ z. Reachable c d (z / 16) (z % 16)) (pairs c d) × (get_or (pairs c d) 0 1 ≡ 0)
    × (length (pairs c d) ≤ 16 → (x y : ℕ) → Reachable c d x y → T (elem (pair_of x y) (pairs c d)))
joined-pairs = Rattle.joining.proofs.Joined.joined-pairs

-- They are numbered as first met, walking pairs in number order, bit 0 before bit 1: the places of first meeting rise.
pub numbered : (c d : Constraint) → (place : ℕ → ℕ)
    × ((j : ℕ) → 0 < j → j < length (pairs c d) → FirstMet c d (pairs c d) (place j) (get_or (pairs c d) j 0))
    × ((i j : ℕ) → 0 < i → i < j → j < length (pairs c d) → place i < place j)
numbered = Rattle.joining.proofs.Numbered.numbered

-- From a pair a bit leads to the pair of both next states, and nowhere (255) exactly where one of these is missing.
pub joined-steps : (c d : Constraint) → Lawful c → Lawful d → length (pairs c d) ≤ 16
    → (length (joined c d) ≡ length (pairs c d)) × ((i b : ℕ) → i < length (pairs c d)
    → let z = get_or (pairs c d) i 0 in let x = after c (z / 16) b in let y = after d (z % 16) b in
    let j = after (joined c d) i b in ((j ≡ 255) ↔ ((x ≡ 255) ⊎ (y ≡ 255)))
    × ((j ≡ 255 → ⊥) → (j < length (pairs c d)) × (get_or (pairs c d) j 0 ≡ x * 16 + y)))
joined-steps = Rattle.joining.proofs.Joined.joined-steps

-- 14 comes exactly when both constraints pass their checks and more than 16 pairs are reachable from both states 0.
pub too-many-pairs : (xs : List ℕ) (room : ℕ) → (compile_joined xs room ≡ refused TooManyPairs)
    ↔ ((c : Constraint) × (d : Constraint) × Joins xs c d
    × ((zs : List ℕ) × Once zs × Each (λ z. Reachable c d (z / 16) (z % 16)) zs × (16 < length zs)))
too-many-pairs = Rattle.compile.proofs.Joined.too-many-pairs

-- The job that is read has p, q, cap and the two constraints of its bytes, joined: the above holds of every call.
pub joined-job : (xs : List ℕ) (j : Job) → read_joined xs ≡ done j → (c : Constraint) × (d : Constraint) × Joins xs c d
    × Lawful c × Lawful d × (length (pairs c d) ≤ 16) × (j.constraint ≡ joined c d)
    × (j.p ≡ get_or xs 0 0) × (j.q ≡ get_or xs 1 0) × (j.cap ≡ get_or xs 2 0)
joined-job = Rattle.compile_job.proofs.Joining.joined-job

-- Of these the first has K states, by byte 3, with two next states each after it; the second follows in the same way.
pub joined-read : (xs : List ℕ) (c d : Constraint) → Joins xs c d → let K = get_or xs 3 0 in
    let L = get_or xs (4 + 2 * K) 0 in (length c ≡ K)
    × ((s b : ℕ) → s < K → b < 2 → after c s b ≡ get_or xs (4 + 2 * s + b) 0)
    × (length d ≡ L) × ((s b : ℕ) → s < L → b < 2 → after d s b ≡ get_or xs (5 + 2 * K + 2 * s + b) 0)
joined-read = Rattle.compile_job.proofs.ReadBytes.joined-read

-- Every recording under the record obeys both constraints, each from its state of the pair that is the record's start.
pub both-obeyed : (xs : List ℕ) (room : ℕ) (r : List ℕ) → compile_joined xs room ≡ done r → (k : Code)
    → parse r ≡ done k → (c : Constraint) × (d : Constraint) × Joins xs c d
    × (let z = get_or (pairs c d) k.start 0 in Reachable c d (z / 16) (z % 16) × ((ds : List ℕ) → Blocks k ds
    → let bs = channel k.q (recording k ds) in Finds c (z / 16) bs × Finds d (z % 16) bs))
both-obeyed = Rattle.compile.proofs.Joined.both-obeyed

-- ---- (b) Recordings as the head sees them: words of q bits as a bit stream. Bits and blocks have numbers of their own
-- types, `BitNo` and `BlockNo`.

-- Packing and unpacking undo each other, for every q.
pub streams : (q : ℕ) → ((ws : List ℕ) → Below (2 ^ q) ws → length ws ≤ 1000000
    → (unpacked q (length ws) (packed q ws) ≡ ws) × T (good_stream q (length ws) (packed q ws)))
    × ((count : ℕ) (xs : List ℕ) → Below 256 xs → T (good_stream q count xs) → packed q (unpacked q count xs) ≡ xs)
streams q = (Rattle.stream_pack.proofs.Streams.unpacked-packed q, Rattle.stream_pack.proofs.Streams.packed-unpacked q)

-- Bit i of a stream, each byte's highest first, is bit i % q of word i / q, its highest first, and 0 past the words.
pub packed-bits : (q : ℕ) (ws : List ℕ) → 0 < q → let xs = packed q ws in let n = length ws * q in
    (length xs ≡ (n + 7) / 8) × Below 256 xs
    × ((i : ℕ) → i < n → get_or xs (i / 8) 0 / 2 ^ (7 - i % 8) % 2 ≡ get_or ws (i / q) 0 / 2 ^ (q - 1 - i % q) % 2)
    × ((i : ℕ) → n ≤ i → get_or xs (i / 8) 0 / 2 ^ (7 - i % 8) % 2 ≡ 0)
packed-bits = Rattle.stream_pack.proofs.Places.packed-bits

-- The check of 15 passes exactly the streams that packing makes of as many words, within the limit.
pub good-streams : (q count : ℕ) (xs : List ℕ) → Below 256 xs → T (good_stream q count xs)
    ↔ ((count ≤ 1000000) × ((ws : List ℕ) × Below (2 ^ q) ws × (length ws ≡ count) × (packed q ws ≡ xs)))
good-streams = Rattle.stream_pack.proofs.Streams.good-streams

-- That check by numbers: at most 1,000,000 words, bytes for count × q / 8 rounded up, and the bits that are left 0.
pub stream-numbers : (q count : ℕ) (xs : List ℕ) → let size = (count * q + 7) / 8 in T (good_stream q count xs)
    ↔ ((count ≤ 1000000) × (length xs ≡ size) × (field (bits_of xs) (count * q) (8 * size - count * q) ≡ 0))
stream-numbers = Rattle.stream_pack.proofs.Calls.stream-numbers

-- Packing is done exactly for q 1 to 8, at most 1,000,000 words, room and words below 2^q; else 1, 15, 13, 11 as due.
pub pack-calls : (q room : ℕ) (ws : List ℕ) → let n = length ws in let o = pack_into q room ws in
    ((xs : List ℕ) → (o ≡ done xs) ↔ ((1 ≤ q) × (q ≤ 8) × (n ≤ 1000000) × ((n * q + 7) / 8 ≤ room)
    × Below (2 ^ q) ws × (packed q ws ≡ xs)))
    × ((o ≡ refused Parameters) ↔ ((q < 1) ⊎ (8 < q)))
    × ((o ≡ refused Stream) ↔ ((1 ≤ q) × (q ≤ 8) × (1000000 < n)))
    × ((o ≡ refused ShortOutput) ↔ ((1 ≤ q) × (q ≤ 8) × (n ≤ 1000000) × (room < (n * q + 7) / 8)))
    × ((k : ℕ) → (o ≡ refused (BadByte k)) ↔ ((1 ≤ q) × (q ≤ 8) × (n ≤ 1000000) × ((n * q + 7) / 8 ≤ room)
    × (k < n) × Below (2 ^ q) (take k ws) × (2 ^ q ≤ get_or ws k 0)))
pack-calls = Rattle.stream_pack.proofs.Calls.pack-calls

-- Unpacking is done exactly for q 1 to 8, a good stream of at most 1,000,000 words, and room; else 1, 15, 13 as due.
pub unpack-calls : (q count room : ℕ) (xs : List ℕ) → let size = (count * q + 7) / 8 in
    let fill = field (bits_of xs) (count * q) (8 * size - count * q) in let o = unpack_into q count room xs in
    ((ws : List ℕ) → (o ≡ done ws) ↔ ((1 ≤ q) × (q ≤ 8) × (count ≤ 1000000) × (length xs ≡ size) × (fill ≡ 0)
    × (count ≤ room) × (unpacked q count xs ≡ ws)))
    × ((o ≡ refused Parameters) ↔ ((q < 1) ⊎ (8 < q)))
    × ((o ≡ refused Stream)
    ↔ ((1 ≤ q) × (q ≤ 8) × ((1000000 < count) ⊎ ((length xs ≡ size → ⊥) ⊎ (fill ≡ 0 → ⊥)))))
    × ((o ≡ refused ShortOutput)
    ↔ ((1 ≤ q) × (q ≤ 8) × (count ≤ 1000000) × (length xs ≡ size) × (fill ≡ 0) × (room < count)))
unpack-calls = Rattle.stream_pack.proofs.Calls.unpack-calls

-- What a packing call wrote an unpacking call gives back, and the other way.
pub pack-returns : (q room room' : ℕ) → ((ws xs : List ℕ) → pack_into q room ws ≡ done xs → length ws ≤ room'
    → unpack_into q (length ws) room' xs ≡ done ws)
    × ((count : ℕ) (xs ws : List ℕ) → Below 256 xs → unpack_into q count room xs ≡ done ws → length xs ≤ room'
    → pack_into q room' ws ≡ done xs)
pack-returns q room room' = (
  Rattle.stream_pack.proofs.Calls.pack-returns q room room',
  λ count. Rattle.stream_pack.proofs.Calls.unpack-returns q count room room',
)

-- A stream is recorded as the recording's words, packed, and read as its words are: all that Main says of words holds.
pub stream-words : (rec : List ℕ) (c : Code) → parse rec ≡ done c → ((room : ℕ) (ds xs : List ℕ)
    → encode_stream rec room ds ≡ done xs → (R : List ℕ)
    × (encode_under rec (length ds + c.window.lookahead) ds ≡ done R) × (packed c.q R ≡ xs))
    × ((count room : ℕ) (xs : List ℕ) → T (good_stream c.q count xs)
    → decode_stream rec count room xs ≡ decode_under rec room (unpacked c.q count xs))
stream-words rec c e =
    (Rattle.stream.proofs.Written.stream-encodes rec c e, Rattle.stream.proofs.Decoded.stream-decodes rec c e)

-- Decoding a recorded stream returns its data.
pub stream-returns : (rec : List ℕ) → Below 256 rec → (c : Code) → parse rec ≡ done c → (room room' : ℕ)
    → (ds xs : List ℕ) → length ds ≤ room' → encode_stream rec room ds ≡ done xs
    → decode_stream rec (length ds + c.window.lookahead) room' xs ≡ done ds
stream-returns = Rattle.stream.proofs.Returns.stream-returns

-- Encoding is done exactly for an accepted record, at most 1,000,000 words in all, room, good blocks; else 15, 13, 11.
pub stream-calls : (rec : List ℕ) (room : ℕ) (ds : List ℕ) → let o = encode_stream rec room ds in
    ((c : Code) → parse rec ≡ done c → let n = length ds + c.window.lookahead in let size = (n * c.q + 7) / 8 in
    ((xs : List ℕ) → (o ≡ done xs)
    ↔ ((n ≤ 1000000) × (size ≤ room) × Below (2 ^ c.p) ds × (packed c.q (recording c ds) ≡ xs)))
    × ((o ≡ refused Stream) ↔ (1000000 < n))
    × ((o ≡ refused ShortOutput) ↔ ((n ≤ 1000000) × (room < size)))
    × ((k : ℕ) → (o ≡ refused (BadByte k)) ↔ ((n ≤ 1000000) × (size ≤ room) × (k < length ds)
    × Below (2 ^ c.p) (take k ds) × (2 ^ c.p ≤ get_or ds k 0))))
    × ((r : Refusal) → parse rec ≡ refused r → (o ≡ refused r) × (7 ≤ number_of r) × (number_of r ≤ 10))
stream-calls = Rattle.stream.proofs.Calls.stream-calls

-- Decoding is done exactly for an accepted record, a good stream, a or more words and room; else 15, 12, 13 as due.
pub unstream-calls : (rec : List ℕ) (count room : ℕ) (xs : List ℕ) → let o = decode_stream rec count room xs in
    ((c : Code) → parse rec ≡ done c → let q = c.q in let a = c.window.lookahead in
    let size = (count * q + 7) / 8 in let fill = field (bits_of xs) (count * q) (8 * size - count * q) in
    ((out : List ℕ) → (o ≡ done out) ↔ ((count ≤ 1000000) × (length xs ≡ size) × (fill ≡ 0) × (a ≤ count)
    × (count - a ≤ room) × (decode c (unpacked q count xs) ≡ out)))
    × ((o ≡ refused Stream) ↔ ((1000000 < count) ⊎ ((length xs ≡ size → ⊥) ⊎ (fill ≡ 0 → ⊥))))
    × ((o ≡ refused TooFewWords) ↔ ((count ≤ 1000000) × (length xs ≡ size) × (fill ≡ 0) × (count < a)))
    × ((o ≡ refused ShortOutput)
    ↔ ((count ≤ 1000000) × (length xs ≡ size) × (fill ≡ 0) × (a ≤ count) × (room < count - a))))
    × ((r : Refusal) → parse rec ≡ refused r → (o ≡ refused r) × (7 ≤ number_of r) × (number_of r ≤ 10))
unstream-calls = Rattle.stream.proofs.Calls.unstream-calls

-- Bytes are the stream of a recording of as many words exactly when encoding their decoded blocks rebuilds them.
pub stream-recognised : (rec : List ℕ) → Below 256 rec → (c : Code) → parse rec ≡ done c → (count room : ℕ)
    → (xs : List ℕ) → count ≤ room
    → ((count ≤ 1000000) × ((R : List ℕ) × Recording c R × (length R ≡ count) × (packed c.q R ≡ xs)))
    ↔ ((ds : List ℕ) × (decode_stream rec count room xs ≡ done ds) × (encode_stream rec room ds ≡ done xs))
stream-recognised = Rattle.stream.proofs.Calls.stream-recognised

-- Demand 3 of streams: whatever good stream is read, every block that stands clear in its words comes out as written.
pub stream-clear : (rec : List ℕ) → Below 256 rec → (c : Code) → parse rec ≡ done c → (ds xs : List ℕ)
    → (count room : ℕ) → Blocks c ds → let q = c.q in let a = c.window.lookahead in
    let size = (count * q + 7) / 8 in count ≤ 1000000 → length xs ≡ size
    → field (bits_of xs) (count * q) (8 * size - count * q) ≡ 0 → a ≤ count → count - a ≤ room
    → (out : List ℕ) × (decode_stream rec count room xs ≡ done out)
    × ((i j : ℕ) → i < length ds → StandsClear c (recording c ds) (unpacked q count xs) i j
    → get_or out j mark_ahead ≡ get_or ds i 0)
stream-clear = Rattle.stream.proofs.Calls.stream-clear

-- Overwriting channel bits f to l: only blocks f / q − a to l / q + m can differ from the data written.
pub bits-reach : (rec : List ℕ) → Below 256 rec → (c : Code) → parse rec ≡ done c → (ds xs : List ℕ) → Blocks c ds
    → Below 256 xs → let count = length ds + c.window.lookahead in count ≤ 1000000 → (f l : BitNo) → f.0 ≤ l.0
    → l.0 < count * c.q → SameOutside f.0 l.0 (bits_of xs) (bits_of (packed c.q (recording c ds)))
    → (room : ℕ) → length ds ≤ room → (out : List ℕ) × (decode_stream rec count room xs ≡ done out)
    × ((j : BlockNo) → j.0 < length ds → (j.0 < f.0 / c.q - c.window.lookahead)
    ⊎ (l.0 / c.q + c.window.memory < j.0) → get_or out j.0 mark_ahead ≡ get_or ds j.0 0)
bits-reach = Rattle.stream_damage.proofs.BitReach.bits-reach

-- The reach is quoted as blocks f / q − a, 0 if negative, to l / q + m, for bits of 1,000,000 words; 15 past them.
pub reach-quoted : (rec : List ℕ) (d : BitRange) → let o = reach_under rec d in
    ((c : Code) → parse rec ≡ done c → let q = c.q in
    ((b : BlockRange) → (o ≡ done b) ↔ ((d.last.0 < 1000000 * q)
    × (d.first.0 / q - c.window.lookahead ≡ b.first.0) × (d.last.0 / q + c.window.memory ≡ b.last.0)))
    × ((o ≡ refused Stream) ↔ (1000000 * q ≤ d.last.0)))
    × ((r : Refusal) → parse rec ≡ refused r → (o ≡ refused r) × (7 ≤ number_of r) × (number_of r ≤ 10))
reach-quoted = Rattle.stream_damage.proofs.Calls.reach-quoted

-- The code's answer has number 0 and these two blocks as its values, or the refusal's number, and names no place.
pub reach-told : (rec : List ℕ) (d : BitRange) → let a = reach_answer (reach_under rec d) in
    ((c : Code) → parse rec ≡ done c → let q = c.q in
    (d.last.0 < 1000000 * q → (reach_number a ≡ 0) × (reach_values a
    ≡ (d.first.0 / q - c.window.lookahead) ∷ (d.last.0 / q + c.window.memory) ∷ []))
    × (1000000 * q ≤ d.last.0 → (reach_number a ≡ 15) × (reach_values a ≡ 0 ∷ [])))
    × ((r : Refusal) → parse rec ≡ refused r → (reach_number a ≡ number_of r) × (reach_values a ≡ 0 ∷ []))
reach-told = Rattle.stream_damage.proofs.Calls.reach-told

-- ---- (c) One word, one datum where it can be: `relabelled` gives the data of a table anew. Main's `table_for` is the
-- table of the finished graph, relabelled, so what Main says of tables, windows and records is said of the new data. In
-- `labels-rule` xs are the data that the edges of state s first take, n for none, and ds all their data in the end.

-- Giving the data anew keeps state 0, and in every other state each edge, with each datum once.
pub labels : (n : ℕ) (t : Rows) → Full n t → (edges (relabelled n t) 0 ≡ edges t 0)
    × (length (relabelled n t) ≡ length t)
    × ((s : ℕ) → s < length t → Rearranged n (edges t s) (edges (relabelled n t) s))
labels = Rattle.compile_labels.proofs.Labels.labels

-- A later state's edges are made of its own and of the states before it, as these are in the end.
pub labels-row : (n : ℕ) (t : Rows) → Full n t → (s : ℕ) → 0 < s → s < length t
    → edges (relabelled n t) s ≡ relabelled_row n (take s (relabelled n t)) (edges t s)
labels-row = Rattle.compile_labels.proofs.Labels.labels-row

-- Edges take the lowest free datum that the lowest earlier state with their word gave it; others the free data, rising.
pub labels-rule : (n : ℕ) (t : Rows) → Full n t → (s : ℕ) → 0 < s → s < length t → let new = relabelled n t in
    (xs : List ℕ) × (ds : List ℕ) × (length xs ≡ n) × (length ds ≡ n) × Once ds
    × ((k : ℕ) → k < n → (get_or ds k 0 < n) × (at new s (get_or ds k 0) ≡ at t s k))
    × ((k : ℕ) → k < n → get_or xs k 0 < n → let d = get_or xs k 0 in let w = (at t s k).word in
    (get_or ds k 0 ≡ d) × ((i : ℕ) → i < k → get_or xs i 0 ≡ d → ⊥)
    × ((u : ℕ) × (u < s) × ((at new u d).word ≡ w) × ((v e : ℕ) → v < u → e < n → (at new v e).word ≡ w → ⊥)
    × ((e : ℕ) → e < d → (at new u e).word ≡ w → (i : ℕ) × (i < k) × (get_or xs i 0 ≡ e))))
    × ((k : ℕ) → k < n → n ≤ get_or xs k 0 → let w = (at t s k).word in (u : ℕ) → u < s
    → ((v e : ℕ) → v < u → e < n → (at new v e).word ≡ w → ⊥)
    → (e : ℕ) → e < n → (at new u e).word ≡ w → (i : ℕ) × (i < k) × (get_or xs i 0 ≡ e))
    × ((i k : ℕ) → i < k → k < n → n ≤ get_or xs i 0 → n ≤ get_or xs k 0 → get_or ds i 0 < get_or ds k 0)
labels-rule = Rattle.compile_labels.proofs.ByRule.labels-rule

-- All three hold of every table that is compiled: it has n edges a state when its data are given.
pub labels-hold : (j : Job) → Allowed j → 0 < sum (component_of j).weights → length (finished_of j).arcs ≤ 2048
    → Full (ways j) (table_of (ways j) (finished_of j))
labels-hold = Rattle.compile.proofs.Accepted.labelled-full

-- That table: the states that the first n edges by word, then target, reach from 0, in order, and these edges.
pub table-rule : (j : Job) → Allowed j → 0 < sum (component_of j).weights → length (finished_of j).arcs ≤ 2048
    → let n = ways j in let x = finished_of j in let t = table_of n x in
    (S : List ℕ) × (length S ≡ length t) × (get_or S 0 0 ≡ 0)
    × ((i k : ℕ) → i < k → k < length S → get_or S i 0 < get_or S k 0)
    × ((s : ℕ) → T (elem s S)
    ↔ ReachableBy (concat (map (λ s. take n (sort (out x.arcs s))) (range (length x.weights)))) 0 s)
    × ((i d : ℕ) → i < length t → d < n → let e = get_or (sort (out x.arcs (get_or S i 0))) d (arc 0 0 0) in
    ((at t i d).word ≡ e.word) × ((at t i d).next < length t) × (get_or S (at t i d).next 0 ≡ e.target))
    × ((s : ℕ) → let es = sort (out x.arcs s) in ((e : Arc) → count e es ≡ count e (out x.arcs s))
    × ((i k : ℕ) → i < k → k < length es → let e = get_or es i (arc 0 0 0) in let f = get_or es k (arc 0 0 0) in
    (e.word < f.word) ⊎ ((e.word ≡ f.word) × (e.target < f.target))))
table-rule = Rattle.compile.proofs.ByRule.table-rule

-- ---- (d) Two marks: a block that cannot be read shows whether what went before is at fault, 254, or the words ahead,
-- 255. What is said of `block c L j` is said of byte j of every decoding, and by `stream-words` of that of a stream.

-- Byte j of a decoding is the block that the reading rule gives at j, and the words of its window lie in the list.
pub decoded-blocks : (rec : List ℕ) (c : Code) → parse rec ≡ done c → (room : ℕ) (L out : List ℕ)
    → decode_under rec room L ≡ done out → (j v : ℕ) → j < length out
    → (j + c.window.lookahead < length L) × (get_or out j v ≡ block c L j)
decoded-blocks = Rattle.codec.proofs.Done.decoded-blocks

-- 254 exactly where no path reads the words up to a block, 255 where one does but none those ahead too, else a datum.
pub marks : (rec : List ℕ) → Below 256 rec → (c : Code) → parse rec ≡ done c → (L : List ℕ) (j : ℕ)
    → j + c.window.lookahead < length L → ((block c L j ≡ 254) ↔ (Follows c L j 0 → ⊥))
    × ((block c L j ≡ 255) ↔ (Follows c L j 0 × (Follows c L j c.window.lookahead → ⊥)))
    × ((block c L j < 2 ^ c.p) ↔ Follows c L j c.window.lookahead)
marks = Rattle.codec.proofs.Marked.marks

-- The block is the datum, at its own place, of every path that reads the words of its window.
pub read-datum : (rec : List ℕ) → Below 256 rec → (c : Code) → parse rec ≡ done c → (L : List ℕ) (j : ℕ)
    → j + c.window.lookahead < length L → (f : Follows c L j c.window.lookahead)
    → block c L j ≡ get_or f.blocks (min j c.window.memory) 0
read-datum = Rattle.codec.proofs.Marked.read-datum

-- With lookahead 0 the mark 255 never comes.
pub no-mark-ahead : (rec : List ℕ) → Below 256 rec → (c : Code) → parse rec ≡ done c → c.window.lookahead ≡ 0
    → (L : List ℕ) (j : ℕ) → j < length L → block c L j ≡ 255 → ⊥
no-mark-ahead = Rattle.codec.proofs.Marked.no-mark-ahead

-- Blocks that stand clear of damage show neither mark.
pub clear-unmarked : (rec : List ℕ) → Below 256 rec → (c : Code) → parse rec ≡ done c → (ds L : List ℕ) (room : ℕ)
    → Blocks c ds → Below (2 ^ c.q) L → (out : List ℕ) → decode_under rec room L ≡ done out → (i j : ℕ)
    → i < length ds → StandsClear c (recording c ds) L i j
    → (get_or out j 254 ≡ get_or ds i 0) × (get_or out j 254 < 16)
clear-unmarked = Rattle.codec.proofs.Marked.clear-unmarked

-- ---- (e) The tail datum in the record. Main's `recording` closes with it and its `parse` reads it, so what Main says
-- of records, round trip, recognition and damage is said of every tail datum.

-- A recording closes with the stated datum, and the compiler states 0.
pub closes : ((c : Code) (ds : List ℕ)
    → recording c ds ≡ spells c.table 0 (ds ++ replicate c.window.lookahead c.tail))
    × ((j : Job) (c : Code) → compile j ≡ done c → c.tail ≡ 0)
closes = (Rattle.table.proofs.Paths.closes, Rattle.compile.proofs.Accepted.compiled-tail)

-- With another tail datum below 2^p a record is refused exactly as before, or read as its code with that datum.
pub tail-free : (c : Code) (k : ℕ) → Formed c → k < 2 ^ c.p
    → parse (pack (with_tail c k)) ≡ onward (parse (pack c)) (λ d. done (with_tail d k))
tail-free = Rattle.record_check.proofs.Tail.tail-free

-- The tail datum stands in the 4 bits straight after the constraint start, which are bits 30 to 33 of the record.
pub tail-place : (c : Code) → Formed c
    → (field (bits_of (pack c)) 26 4 ≡ c.start) × (field (bits_of (pack c)) 30 4 ≡ c.tail)
tail-place c f = Rattle.record.proofs.RecordWrite.tail-place c (Rattle.table.proofs.Formed.→formed c f)

-- A record that passes, with room and a datum below 2^p, is written with that tail datum; it stays as long and passes.
pub closes-record : (rec : List ℕ) → Below 256 rec → (c : Code) → parse rec ≡ done c → (k room : ℕ) → k < 2 ^ c.p
    → length rec ≤ room → (out : List ℕ) × (closed_with rec k room ≡ done out) × (length out ≡ length rec)
    × (parse out ≡ done (with_tail c k))
closes-record = Rattle.record_tail.proofs.Closed.closes-record

-- ---- (f) Spreading a scratch: D recordings of equally many words, one after the other, are woven. `part k r ws` is
-- recording r of those that stand one after the other, k words each.

-- A depth is good exactly when it is 2 to 16 and divides the number of words.
pub depth-numbers : (D k : ℕ) → T (good_depth D k) ↔ ((2 ≤ D) × (D ≤ 16) × (k % D ≡ 0))
depth-numbers = Rattle.weaving.proofs.Calls.depth-numbers

-- Weaving is done exactly for D 2 to 16 that divides the length, and room; otherwise 16, then 13, as due.
pub weave-calls : (D room : ℕ) (ws : List ℕ) → let k = length ws in let o = weave_into D room ws in
    ((W : List ℕ) → (o ≡ done W) ↔ ((2 ≤ D) × (D ≤ 16) × (k % D ≡ 0) × (k ≤ room) × (woven D ws ≡ W)))
    × ((o ≡ refused Depth) ↔ ((D < 2) ⊎ ((16 < D) ⊎ (k % D ≡ 0 → ⊥))))
    × ((o ≡ refused ShortOutput) ↔ ((2 ≤ D) × (D ≤ 16) × (k % D ≡ 0) × (room < k)))
weave-calls = Rattle.weaving.proofs.Calls.weave-calls

-- Unweaving too is done exactly for D 2 to 16 that divides the length, and room; otherwise 16, then 13, as due.
pub unweave-calls : (D room : ℕ) (ws : List ℕ) → let k = length ws in let o = unweave_into D room ws in
    ((W : List ℕ) → (o ≡ done W) ↔ ((2 ≤ D) × (D ≤ 16) × (k % D ≡ 0) × (k ≤ room) × (unwoven D ws ≡ W)))
    × ((o ≡ refused Depth) ↔ ((D < 2) ⊎ ((16 < D) ⊎ (k % D ≡ 0 → ⊥))))
    × ((o ≡ refused ShortOutput) ↔ ((2 ≤ D) × (D ≤ 16) × (k % D ≡ 0) × (room < k)))
unweave-calls = Rattle.weaving.proofs.Calls.unweave-calls

-- A weaving call puts word j of recording r to place j × D + r, and an unweaving call takes it from there.
pub weave-spreads : (D room : ℕ) (ws W : List ℕ) → let k = length ws / D in (weave_into D room ws ≡ done W
    → (length W ≡ length ws)
    × ((r j : ℕ) → r < D → j < k → get_or W (j * D + r) 0 ≡ get_or ws (r * k + j) 0))
    × (unweave_into D room ws ≡ done W → (length W ≡ length ws)
    × ((r j : ℕ) → r < D → j < k → get_or W (r * k + j) 0 ≡ get_or ws (j * D + r) 0))
weave-spreads D room ws W = (
  Rattle.weaving.proofs.Calls.weave-spreads D room ws W,
  Rattle.weaving.proofs.Calls.unweave-spreads D room ws W,
)

-- Each call undoes the other.
pub weave-returns : (D room : ℕ) (ws W : List ℕ) (room' : ℕ) → length ws ≤ room'
    → (weave_into D room ws ≡ done W → unweave_into D room' W ≡ done ws)
    × (unweave_into D room ws ≡ done W → weave_into D room' W ≡ done ws)
weave-returns D room ws W room' h = (
  Rattle.weaving.proofs.Calls.weave-returns D room ws W room' h,
  Rattle.weaving.proofs.Calls.unweave-returns D room ws W room' h,
)

-- Word j of recording r goes to place j × D + r.
pub weave-places : (D : ℕ) (ws : List ℕ) → T (good_depth D (length ws)) → (r j : ℕ) → r < D → j < length ws / D
    → get_or (woven D ws) (j * D + r) 0 ≡ get_or ws (r * (length ws / D) + j) 0
weave-places = Rattle.weaving.proofs.Weaving.weave-places

-- Weaving and unweaving undo each other.
pub weaving : (D : ℕ) (ws : List ℕ) → T (good_depth D (length ws))
    → (unwoven D (woven D ws) ≡ ws) × (woven D (unwoven D ws) ≡ ws)
weaving = Rattle.weaving.proofs.Weaving.weaving

-- Overwriting at most D neighbouring places touches at most one word of each recording.
pub one-word-each : (D : ℕ) (ws W : List ℕ) → T (good_depth D (length ws)) → (x : ℕ)
    → SameOutside x (x + D - 1) W (woven D ws) → (r : ℕ) → r < D → let k = length ws / D in
    (y : ℕ) × SameOutside y y (part k r (unwoven D W)) (part k r ws)
one-word-each = Rattle.stream_damage.proofs.Scratch.one-word-each

-- Fewer places overwritten are a special case: damage from x to y is damage from x to z, where y is at most z.
pub fewer-places : (x y z : ℕ) (L R : List ℕ) → y ≤ z → SameOutside x y L R → SameOutside x z L R
fewer-places = Rattle.codec.proofs.Reach.outside_wider

-- So in each recording at most m + a + 1 blocks differ from the data written.
pub scratch : (rec : List ℕ) → Below 256 rec → (c : Code) → parse rec ≡ done c → (D : ℕ) (ws W : List ℕ)
    → T (good_depth D (length ws)) → Below (2 ^ c.q) W → (x : ℕ) → SameOutside x (x + D - 1) W (woven D ws)
    → (r : ℕ) → r < D → (ds : List ℕ) → Blocks c ds → part (length ws / D) r ws ≡ recording c ds
    → (room : ℕ) → length ds ≤ room
    → (out : List ℕ) × (decode_under rec room (part (length ws / D) r (unwoven D W)) ≡ done out)
    × (differences out ds ≤ c.window.memory + c.window.lookahead + 1)
scratch = Rattle.stream_damage.proofs.Scratch.scratch

-- ---- (g) State sets in machine words: `holds s i` is bit i of the two words of s, and `yes_no n s` the list of yes
-- and
-- no, one a state, for the first n states. What Main says of windows and decoding is said of such lists, and stays.

-- Counting by ones, the lowest by trailing zeros, emptiness by the words and joining by "or" are those of the list.
pub state-sets : ((s : BitSet) → Words s → (ones s.low + ones s.high ≡ yeses (yes_no 128 s))
    × ((if eqb s.low 0 then 64 + count_trailing_zeros 64 s.high else count_trailing_zeros 64 s.low)
    ≡ first_yes (yes_no 128 s))
    × ((eqb s.low 0 && eqb s.high 0) ≡ not (some_yes (yes_no 128 s))))
    × ((r s : BitSet) → Words r → Words s → yes_no 128 (joined_sets r s) ≡ either (yes_no 128 r) (yes_no 128 s))
state-sets =
    let p = Rattle.bitsets.proofs.StateSets.state_sets in
    (λ s w. (p.number s w, p.lowest s w, p.empty s w), p.joining)

-- Stepping by a word: the set to which the groups of a word lead from the states of S is the list stepped.
pub step-bits : (t : Arrays) (start edge : List ℕ) (sets : List BitSet) → Grouped t start edge sets
    → (S R : BitSet) (w : ℕ)
    → w < 256 → ((u : ℕ) → holds R u ≡ between (steps_to edge sets S u) (get_or start w 0) (get_or start (w + 1) 0))
    → yes_no t.states R ≡ along (rows_of t) (yes_no t.states S) w
step-bits = Rattle.codec_steps.proofs.SetSteps.step-bits

-- Stepping back: the set of those states whose group of the word leads into S is the list stepped back.
pub back-bits : (t : Arrays) (start edge : List ℕ) (sets : List BitSet) → Grouped t start edge sets
    → (S R : BitSet) (w : ℕ)
    → w < 256 → ((s : ℕ) → holds R s ≡ between (leads_into edge sets S s) (get_or start w 0)
    (get_or start (w + 1) 0))
    → yes_no t.states R ≡ back (rows_of t) (yes_no t.states S) w
back-bits = Rattle.codec_steps.proofs.SetSteps.back-bits

-- The pair check's own step: the rows that hold where two edges with one word lead from the pairs are the list stepped.
pub pair-step-bits : (t : Arrays) → Fits t → ((e : ℕ) → e < places t → is_edge t e ≡ true → word_at t e < 256)
    → (P R : List BitSet) → ((u v : ℕ) → u < t.states → holds (set_at R u) v ≡ some (joins_by t P None u v) 256)
    → pairs_in t.states R ≡ into (reversed (rows_of t)) (pairs_in t.states P)
pair-step-bits = Rattle.window_test.proofs.StepPairs.step-pairs

-- Its own hit: where two edges with one word and different data lead from the pairs is where a clash leads.
pub pair-hit-bits : (t : Arrays) → Fits t → ((e : ℕ) → e < places t → is_edge t e ≡ true → word_at t e < 256)
    → (P R : List BitSet) → ((u v : ℕ) → u < t.states → holds (set_at R u) v ≡ some (clashes_by t P u v) 256)
    → pairs_in t.states R ≡ hits (rows_of t) (pairs_in t.states P)
pair-hit-bits = Rattle.window_test.proofs.StepPairs.hits-pairs

-- ---- (h) Bring your own weights. A job that is read is allowed, and its weights pass: what Main says of allowed jobs,
-- of the component, the splits, the window and the record, it says of weights that are brought too.

-- Weights that come with a job are used as they are.
pub brought-used : (j : Job) (u : List ℕ) → j.choice ≡ brought u → weights_of j ≡ u
brought-used = Rattle.compile.proofs.Compile.brought-used

-- 17 comes exactly when all that comes before it passes and the weights that come with the job fail.
pub bad-weights : (k : Kind) (xs : List ℕ) (room : ℕ) → (compile_as k xs room ≡ refused BadWeights)
    ↔ ((j : Job) × (u : List ℕ) × (held_as k xs ≡ done j) × (j.choice ≡ brought u)
    × (Passing (ways j) j.cap (graph_of j) u → ⊥))
bad-weights = Rattle.compile.proofs.Brought.bad-weights

-- Weights that pass end in a record or in one of 4, 5, 6 and 13.
pub brought-ends : (k : Kind) (xs : List ℕ) (room : ℕ) (j : Job) (u : List ℕ) → read_as k xs ≡ done j
    → j.choice ≡ brought u → (r : Refusal) → compile_as k xs room ≡ refused r
    → ((4 ≤ number_of r) × (number_of r ≤ 6)) ⊎ (number_of r ≡ 13)
brought-ends = Rattle.compile.proofs.Brought.brought-ends

-- Jobs with one p, q and constraint and the same weights in use compile alike, whether these were found or brought.
pub brought-alike : (k l : Kind) (xs ys : List ℕ) (room : ℕ) (i j : Job) → read_as k xs ≡ done i → read_as l ys ≡ done j
    → i.p ≡ j.p → i.q ≡ j.q → i.constraint ≡ j.constraint → weights_of i ≡ weights_of j
    → compile_as k xs room ≡ compile_as l ys room
brought-alike = Rattle.compile.proofs.Brought.brought-alike

-- ---- Verify: the words in front that come back when the decoded blocks are encoded, as a call answers them.

-- All words come back exactly when they are a recording, so the value is then their number; otherwise it is smaller.
pub verified : (rec : List ℕ) → Below 256 rec → (c : Code) → parse rec ≡ done c → (L : List ℕ)
    → ((verify_under rec L ≡ done L) ↔ Recording c L)
    × ((answer_of (verify_under rec L) ≡ Ok (length L)) ↔ Recording c L)
    × ((F : List ℕ) → verify_under rec L ≡ done F → (length F ≤ length L) × (take (length F) L ≡ F))
verified rec b c p L = (
  Rattle.codec_verify.proofs.Verified.verify-exact rec b c p L,
  Rattle.codec_verify.proofs.Verified.verify-answer rec b c p L,
  Rattle.codec_verify.proofs.Verified.verify-front rec b c p L,
)

-- With no block marked the value is the place of the first word to differ from the recording of the decoded blocks.
pub verified-place : (rec : List ℕ) → Below 256 rec → (c : Code) → parse rec ≡ done c → (L F : List ℕ)
    → verify_under rec L ≡ done F → Blocks c (decode c L) → let R = recording c (decode c L) in let k = length F in
    (take k L ≡ take k R) × (k < length L → get_or L k 0 ≡ get_or R k 0 → ⊥)
verified-place = Rattle.codec_verify.proofs.Verified.verify-place

-- With block j the first marked it is that of the first word to differ from those of the blocks before j, j if none.
pub verified-mark : (rec : List ℕ) → Below 256 rec → (c : Code) → parse rec ≡ done c → (L F : List ℕ)
    → verify_under rec L ≡ done F → (j : ℕ) → j ≡ first_bad (2 ^ c.p) (decode c L) → j < length (decode c L)
    → let R = spells c.table 0 (take j (decode c L)) in let k = length F in
    (k ≤ j) × (take k L ≡ take k R) × (k < j → get_or L k 0 ≡ get_or R k 0 → ⊥)
verified-mark = Rattle.codec_verify.proofs.Verified.verify-mark

-- Where the first x words are those of a recording, x − a or more come back.
pub verified-near : (rec : List ℕ) → Below 256 rec → (c : Code) → parse rec ≡ done c → (ds L F : List ℕ) → Blocks c ds
    → verify_under rec L ≡ done F → (x : ℕ) → x ≤ length L → x ≤ length (recording c ds)
    → take x L ≡ take x (recording c ds) → x - c.window.lookahead ≤ length F
verified-near = Rattle.codec_verify.proofs.Near.verify-near

-- A good stream is verified as its words are.
pub verified-stream : (rec : List ℕ) → Below 256 rec → (c : Code) → parse rec ≡ done c → (count : ℕ) (xs : List ℕ)
    → T (good_stream c.q count xs) → verify_stream rec count xs ≡ verify_under rec (unpacked c.q count xs)
verified-stream = Rattle.codec_verify.proofs.Near.verify-words

-- Words are verified exactly under an accepted record, a or more of them, all below 2^q; else 12, 11 as due.
pub verify-calls : (rec L : List ℕ) → let o = verify_under rec L in
    ((c : Code) → parse rec ≡ done c → let a = c.window.lookahead in
    ((F : List ℕ) → (o ≡ done F) ↔ ((a ≤ length L) × Below (2 ^ c.q) L × (same_front (rebuilt c L) L ≡ F)))
    × ((o ≡ refused TooFewWords) ↔ (length L < a))
    × ((k : ℕ) → (o ≡ refused (BadByte k)) ↔ ((a ≤ length L) × (k < length L) × Below (2 ^ c.q) (take k L)
    × (2 ^ c.q ≤ get_or L k 0))))
    × ((r : Refusal) → parse rec ≡ refused r → (o ≡ refused r) × (7 ≤ number_of r) × (number_of r ≤ 10))
verify-calls = Rattle.codec_verify.proofs.Calls.verify-calls

-- A stream is verified exactly under an accepted record, if it is good and has a or more words; else 15, 12 as due.
pub verify-stream-calls : (rec : List ℕ) (count : ℕ) (xs : List ℕ) → let o = verify_stream rec count xs in
    ((c : Code) → parse rec ≡ done c → let size = (count * c.q + 7) / 8 in
    let fill = field (bits_of xs) (count * c.q) (8 * size - count * c.q) in let U = unpacked c.q count xs in
    ((F : List ℕ) → (o ≡ done F) ↔ ((count ≤ 1000000) × (length xs ≡ size) × (fill ≡ 0)
    × (c.window.lookahead ≤ count) × (same_front (rebuilt c U) U ≡ F)))
    × ((o ≡ refused Stream) ↔ ((1000000 < count) ⊎ ((length xs ≡ size → ⊥) ⊎ (fill ≡ 0 → ⊥))))
    × ((o ≡ refused TooFewWords)
    ↔ ((count ≤ 1000000) × (length xs ≡ size) × (fill ≡ 0) × (count < c.window.lookahead))))
    × ((r : Refusal) → parse rec ≡ refused r → (o ≡ refused r) × (7 ≤ number_of r) × (number_of r ≤ 10))
verify-stream-calls = Rattle.codec_verify.proofs.Calls.verify-stream-calls

-- ---- Calls: what the exported calls answer besides. `First checks r` says that r is the refusal of the first check
-- that fails. `record_of s i` is what record i of a set comes to, and `offset_of s i` where its length stands.

-- A job: "8 below four bytes, 1, K by 2, 8, next states by 2", 17; all refusals but 3 to 6 and 13 come by this order.
pub job-order : (xs : List ℕ) (room : ℕ) (r : Refusal) → (3 ≤ number_of r → 6 < number_of r) × (number_of r ≡ 13 → ⊥)
    → let n = length xs in let p = get_or xs 0 0 in let q = get_or xs 1 0 in let cap = get_or xs 2 0 in
    let K = get_or xs 3 0 in (compile_job xs room ≡ refused r)
    ↔ First (check Length (4 ≤ n)
    ∷ check Parameters ((1 ≤ p) × (p ≤ 4) × (1 ≤ q) × (q ≤ 8) × (1 ≤ cap) × (cap ≤ 16))
    ∷ check States ((1 ≤ K) × (K ≤ 16)) ∷ check Length ((n ≡ 4 + 2 * K) ⊎ (n ≡ 4 + 3 * K))
    ∷ check States ((i : ℕ) → i < 2 * K → let s = get_or (drop 4 xs) i 0 in (s < K) ⊎ (s ≡ 255))
    ∷ check BadWeights ((n ≡ 4 + 2 * K)
    ⊎ Passing (2 ^ p) cap (power (states_of K (drop 4 xs)) q) (drop (4 + 2 * K) xs)) ∷ []) r
job-order = Rattle.compile.proofs.Orders.job-order

-- It is read with p, q, cap and K from its first four bytes, then two next states a state, 255 for none, then weights.
pub job_read : (xs : List ℕ) (j : Job) → read_job xs ≡ done j → let K = get_or xs 3 0 in (j.p ≡ get_or xs 0 0)
    × (j.q ≡ get_or xs 1 0) × (j.cap ≡ get_or xs 2 0) × (length j.constraint ≡ K)
    × ((s b : ℕ) → s < K → b < 2 → after j.constraint s b ≡ get_or xs (4 + 2 * s + b) 0)
    × (((length xs ≡ 4 + 2 * K) × (j.choice ≡ computed))
    ⊎ ((length xs ≡ 4 + 3 * K) × (j.choice ≡ brought (drop (4 + 2 * K) xs))))
job_read = Rattle.compile_job.proofs.ReadBytes.job_read

-- "Run-length job": "8 below five bytes, 1, 2, 8 for a length other than 5 or 5 + K", K being k + 1, then 17.
pub run-length-order : (xs : List ℕ) (room : ℕ) (r : Refusal)
    → (3 ≤ number_of r → 6 < number_of r) × (number_of r ≡ 13 → ⊥) → let n = length xs in let d = get_or xs 0 0 in
    let k = get_or xs 1 0 in let p = get_or xs 2 0 in let q = get_or xs 3 0 in let cap = get_or xs 4 0 in
    (compile_run_length xs room ≡ refused r)
    ↔ First (check Length (5 ≤ n)
    ∷ check Parameters ((1 ≤ p) × (p ≤ 4) × (1 ≤ q) × (q ≤ 8) × (1 ≤ cap) × (cap ≤ 16))
    ∷ check States ((d ≤ k) × (k ≤ 15)) ∷ check Length ((n ≡ 5) ⊎ (n ≡ 5 + (k + 1)))
    ∷ check BadWeights ((n ≡ 5) ⊎ Passing (2 ^ p) cap (power (run_length d k) q) (drop 5 xs)) ∷ []) r
run-length-order = Rattle.compile.proofs.Orders.run-length-order

-- It is read with k + 1 states: bit 0 leads from i to i + 1 if i < k, bit 1 to 0 if i ≥ d, else to 255; then weights.
pub run-length-read : (xs : List ℕ) (j : Job) → read_run_length xs ≡ done j → let d = get_or xs 0 0 in
    let k = get_or xs 1 0 in let c = j.constraint in (j.p ≡ get_or xs 2 0) × (j.q ≡ get_or xs 3 0)
    × (j.cap ≡ get_or xs 4 0) × (length c ≡ k + 1)
    × ((i : ℕ) → i < k → after c i 0 ≡ i + 1) × (after c k 0 ≡ 255)
    × ((i : ℕ) → i < d → after c i 1 ≡ 255) × ((i : ℕ) → d ≤ i → i ≤ k → after c i 1 ≡ 0)
    × (((length xs ≡ 5) × (j.choice ≡ computed))
    ⊎ ((length xs ≡ 5 + (k + 1)) × (j.choice ≡ brought (drop 5 xs))))
run-length-read = Rattle.compile_job.proofs.ReadBytes.run-length-read

-- Two constraints: "for each constraint 8 for a missing K, K by 2, 8, next states by 2"; the first K is byte 3.
pub joined-order : (xs : List ℕ) (room : ℕ) (r : Refusal)
    → (3 ≤ number_of r → 6 < number_of r) × (number_of r ≡ 13 → ⊥) → let n = length xs in let p = get_or xs 0 0 in
    let q = get_or xs 1 0 in let cap = get_or xs 2 0 in let K = get_or xs 3 0 in let L = get_or xs (4 + 2 * K) 0 in
    (compile_joined xs room ≡ refused r)
    ↔ First (check Length (4 ≤ n)
    ∷ check Parameters ((1 ≤ p) × (p ≤ 4) × (1 ≤ q) × (q ≤ 8) × (1 ≤ cap) × (cap ≤ 16))
    ∷ check States ((1 ≤ K) × (K ≤ 16)) ∷ check Length (4 + 2 * K ≤ n)
    ∷ check States ((i : ℕ) → i < 2 * K → let s = get_or (drop 4 xs) i 0 in (s < K) ⊎ (s ≡ 255))
    ∷ check Length (5 + 2 * K ≤ n) ∷ check States ((1 ≤ L) × (L ≤ 16)) ∷ check Length (n ≡ 5 + 2 * K + 2 * L)
    ∷ check States ((i : ℕ) → i < 2 * L → let s = get_or (drop (5 + 2 * K) xs) i 0 in (s < L) ⊎ (s ≡ 255))
    ∷ check TooManyPairs (length (pairs (states_of K (drop 4 xs)) (states_of L (drop (5 + 2 * K) xs))) ≤ 16) ∷ []) r
joined-order = Rattle.compile.proofs.Orders.joined-order

-- The listing is that of the code to which a run-length job of five bytes compiles; else as reading, compiling, 13 say.
pub listing-call : (xs : List ℕ) (room : ℕ) → ((ls : List ℕ) → (list_into xs room ≡ done ls)
    ↔ ((j : Job) × (c : Code) × (read_listed xs ≡ done j) × (compile j ≡ done c) × (length (listing c) ≤ room)
    × (listing c ≡ ls))) × ((r : Refusal) → (list_into xs room ≡ refused r)
    ↔ ((read_listed xs ≡ refused r) ⊎ ((j : Job) × (read_listed xs ≡ done j) × ((compile j ≡ refused r)
    ⊎ ((c : Code) × (compile j ≡ done c) × First (check ShortOutput (length (listing c) ≤ room) ∷ []) r)))))
    × (length xs ≡ 5 → read_listed xs ≡ read_run_length xs) × ((length xs ≡ 5 → ⊥) → read_listed xs ≡ refused Length)
listing-call xs room = (
  Rattle.view_job.proofs.Calls.listing-done xs room,
  Rattle.view_job.proofs.Calls.listing-refused xs room,
  (Rattle.view_job.proofs.Calls.listing-reads xs).0,
  (Rattle.view_job.proofs.Calls.listing-reads xs).1,
)

-- Two bytes of length, the higher first, stand at offset 1 and after each record; 8 for a record that is cut off.
pub set-layout : (s : List ℕ) → (offset_of s 0 ≡ 1) × ((i : ℕ) → let o = offset_of s i in
    let len = get_or s o 0 * 256 + get_or s (o + 1) 0 in (offset_of s (i + 1) ≡ o + 2 + len)
    × (i < get_or s 0 0 → o + 2 + len ≤ length s → record_of s i ≡ parse (take len (drop (o + 2) s)))
    × (i < get_or s 0 0 → length s < o + 2 + len → record_of s i ≡ refused Length)
    × (get_or s 0 0 ≤ i → record_of s i ≡ refused Length))
set-layout = Rattle.set_check.proofs.SetLayout.set-layout

-- A set's first bad record with its number (8 if cut off); 8 with 0 for no bytes, with the count for bytes left over.
pub set-order : (s : List ℕ) (i : ℕ) (r : Refusal) → (set_answer (read_set s) ≡ Err (bad i r))
    ↔ (((length s ≡ 0) × (i ≡ 0) × (r ≡ Length))
    ⊎ (((i < get_or s 0 0) × ((k : ℕ) → k < i → (c : Code) × (record_of s k ≡ done c)) × (record_of s i ≡ refused r))
    ⊎ ((0 < length s) × (i ≡ get_or s 0 0) × ((k : ℕ) → k < i → (c : Code) × (record_of s k ≡ done c))
    × (offset_of s i < length s) × (r ≡ Length))))
set-order = Rattle.set_check.proofs.Orders.set-order

-- A good set is answered with its count: so many records, all good, and its bytes end with the last.
pub set-count : (s : List ℕ) (n : ℕ) → (set_answer (read_set s) ≡ Ok n)
    ↔ ((0 < length s) × (n ≡ get_or s 0 0) × ((k : ℕ) → k < n → (c : Code) × (record_of s k ≡ done c))
    × (offset_of s n ≡ length s))
set-count = Rattle.set_check.proofs.Orders.set-count

-- Encoding is done exactly with room for N + a words and good blocks; else the record's refusal, 13, 11 with its place.
pub encode-calls : (rec : List ℕ) (room : ℕ) (ds : List ℕ) → let o = encode_under rec room ds in
    ((c : Code) → parse rec ≡ done c → let n = length ds + c.window.lookahead in
    ((R : List ℕ) → (o ≡ done R) ↔ ((n ≤ room) × Below (2 ^ c.p) ds × (recording c ds ≡ R)))
    × ((o ≡ refused ShortOutput) ↔ (room < n))
    × ((k : ℕ) → (o ≡ refused (BadByte k))
    ↔ ((n ≤ room) × (k < length ds) × Below (2 ^ c.p) (take k ds) × (2 ^ c.p ≤ get_or ds k 0))))
    × ((r : Refusal) → parse rec ≡ refused r → o ≡ refused r)
encode-calls = Rattle.codec.proofs.Calls.encode-calls

-- Decoding is done exactly with a or more good words and room; else the record's refusal, 12, 13, 11 with its place.
pub decode-calls : (rec : List ℕ) (room : ℕ) (L : List ℕ) → let o = decode_under rec room L in
    ((c : Code) → parse rec ≡ done c → let a = c.window.lookahead in let W = length L in
    ((out : List ℕ) → (o ≡ done out) ↔ ((a ≤ W) × (W - a ≤ room) × Below (2 ^ c.q) L × (decode c L ≡ out)))
    × ((o ≡ refused TooFewWords) ↔ (W < a)) × ((o ≡ refused ShortOutput) ↔ ((a ≤ W) × (room < W - a)))
    × ((k : ℕ) → (o ≡ refused (BadByte k))
    ↔ ((a ≤ W) × (W - a ≤ room) × (k < W) × Below (2 ^ c.q) (take k L) × (2 ^ c.q ≤ get_or L k 0))))
    × ((r : Refusal) → parse rec ≡ refused r → o ≡ refused r)
decode-calls = Rattle.codec.proofs.Calls.decode-calls

-- Under a record that is trusted both do the same for every table whose fields pass, accepted or not; else 7 or 8.
pub checked-calls : (rec : List ℕ) (room : ℕ) (ys : List ℕ) → let e = encode_checked rec room ys in
    let o = decode_checked rec room ys in let W = length ys in
    ((c : Code) → Formed c → pack c ≡ rec → let a = c.window.lookahead in
    (((R : List ℕ) → (e ≡ done R) ↔ ((W + a ≤ room) × Below (2 ^ c.p) ys × (recording c ys ≡ R)))
    × ((e ≡ refused ShortOutput) ↔ (room < W + a))
    × ((k : ℕ) → (e ≡ refused (BadByte k))
    ↔ ((W + a ≤ room) × (k < W) × Below (2 ^ c.p) (take k ys) × (2 ^ c.p ≤ get_or ys k 0))))
    × (((out : List ℕ) → (o ≡ done out) ↔ ((a ≤ W) × (W - a ≤ room) × Below (2 ^ c.q) ys × (decode c ys ≡ out)))
    × ((o ≡ refused TooFewWords) ↔ (W < a)) × ((o ≡ refused ShortOutput) ↔ ((a ≤ W) × (room < W - a)))
    × ((k : ℕ) → (o ≡ refused (BadByte k))
    ↔ ((a ≤ W) × (W - a ≤ room) × (k < W) × Below (2 ^ c.q) (take k ys) × (2 ^ c.q ≤ get_or ys k 0)))))
    × ((r : Refusal) → parse rec ≡ refused r → number_of r ≤ 8 → (e ≡ refused r) × (o ≡ refused r))
checked-calls = Rattle.codec.proofs.Calls.checked-calls

-- The eight numbers of a record that passes, with room for eight; else the record's refusal, then 13.
pub info-numbers : (rec : List ℕ) (room : ℕ) → ((ns : List ℕ) → (info_under rec room ≡ done ns)
    ↔ ((c : Code) × (parse rec ≡ done c) × (8 ≤ room)
    × (c.p ∷ c.q ∷ (length c.table - 1) ∷ c.window.memory ∷ c.window.lookahead ∷ length c.constraint
    ∷ c.start ∷ c.tail ∷ [] ≡ ns))) × ((r : Refusal) → (info_under rec room ≡ refused r)
    ↔ ((parse rec ≡ refused r) ⊎ ((c : Code) × (parse rec ≡ done c) × First (check ShortOutput (8 ≤ room) ∷ []) r)))
info-numbers rec room = (Rattle.info.proofs.Calls.info-done rec room, Rattle.info.proofs.Calls.info-refused rec room)

-- The words of a number with room for them, else 13; they are at most 60 bytes, and none for 0 and from 18 on.
pub phrase-words : (n room : ℕ)
    → ((ws : List ℕ) → (phrase_into n room ≡ done ws) ↔ ((length (words_of n) ≤ room) × (words_of n ≡ ws)))
    × ((r : Refusal) → (phrase_into n room ≡ refused r) ↔ First (check ShortOutput (length (words_of n) ≤ room) ∷ []) r)
    × (length (words_of n) ≤ 60) × ((words_of n ≡ []) ↔ ((n ≡ 0) ⊎ (17 < n)))
phrase-words n room = (
  Rattle.info.proofs.Calls.phrase-done n room,
  Rattle.info.proofs.Calls.phrase-refused n room,
  Rattle.view_refusals.proofs.Rows.words-short n,
  Rattle.view_refusals.proofs.Rows.words-none n,
)

-- The words of the seventeen refusals, by number.
pub phrases : (words_of 1 ≡ bytes "p, q or cap out of range")
    × (words_of 2 ≡ bytes "K, a next state, or d and k out of range")
    × (words_of 3 ≡ bytes "no code: all weights 0")
    × (words_of 4 ≡ bytes "the component's weights sum to over 128")
    × (words_of 5 ≡ bytes "over 2,048 edges, before any split or after one")
    × (words_of 6 ≡ bytes "no window up to 15 and 15")
    × (words_of 7 ≡ bytes "record field out of range, absent state not 0, or fill not 0")
    × (words_of 8 ≡ bytes "length is not what the fields say, or too short for them")
    × (words_of 9 ≡ bytes "some recording breaks the constraint")
    × (words_of 10 ≡ bytes "the window fails")
    × (words_of 11 ≡ bytes "block of 2^p or more, or word of 2^q or more, at place ")
    × (words_of 12 ≡ bytes "fewer than a words")
    × (words_of 13 ≡ bytes "the output is too short")
    × (words_of 14 ≡ bytes "two constraints give more than 16 pairs of states")
    × (words_of 15 ≡ bytes "over 1,000,000 words, wrong number of bytes, or fill not 0")
    × (words_of 16 ≡ bytes "depth D is not 2 to 16, or does not divide the length")
    × (words_of 17 ≡ bytes "weights over cap, all 0, or the inequality fails at a state")
phrases = Rattle.view_refusals.proofs.Rows.words_are

-- Another tail datum is written exactly if the record passes, it is below 2^p and there is room; else refusal, 7, 13.
pub with-tail : (rec : List ℕ) → Below 256 rec → (k room : ℕ) → ((out : List ℕ) → (closed_with rec k room ≡ done out)
    ↔ ((c : Code) × (parse rec ≡ done c) × (k < 2 ^ c.p) × (length rec ≤ room) × (pack (with_tail c k) ≡ out)))
    × ((r : Refusal) → (closed_with rec k room ≡ refused r) ↔ ((parse rec ≡ refused r)
    ⊎ ((c : Code) × (parse rec ≡ done c)
    × First (check Field (k < 2 ^ c.p) ∷ check ShortOutput (length rec ≤ room) ∷ []) r)))
with-tail rec b k room = (
  Rattle.record_tail.proofs.Calls.closed-done rec b k room,
  Rattle.record_tail.proofs.Calls.closed-refused rec b k room,
)

-- The refusals are numbered 1 to 17 as the documents have them; 11 names the place of its byte, the others 0.
pub refusal-numbers : ((number_of Parameters ≡ 1) × (number_of States ≡ 2) × (number_of NoCode ≡ 3)
    × (number_of TooHeavy ≡ 4) × (number_of TooManyEdges ≡ 5) × (number_of NoWindow ≡ 6) × (number_of Field ≡ 7)
    × (number_of Length ≡ 8) × (number_of Disobeys ≡ 9) × (number_of WindowFails ≡ 10)
    × ((k : ℕ) → number_of (BadByte k) ≡ 11) × (number_of TooFewWords ≡ 12) × (number_of ShortOutput ≡ 13)
    × (number_of TooManyPairs ≡ 14) × (number_of Stream ≡ 15) × (number_of Depth ≡ 16) × (number_of BadWeights ≡ 17))
    × ((k : ℕ) → place_of (BadByte k) ≡ k) × ((r : Refusal) → (number_of r ≡ 11 → ⊥) → place_of r ≡ 0)
refusal-numbers = Rattle.answer.proofs.Cases.refusal-numbers

-- A result's word has number 0 and its length, a refusal's its number, 1 to 17, and place; words tell answers apart.
pub answer-words : ((xs : List ℕ) → let w = word_of (answer_of (done xs)) in
    (w / 2 ^ 56 ≡ 0) × (w % 2 ^ 56 ≡ min (length xs) (2 ^ 56 - 1)))
    × ((r : Refusal) → let w = word_of (answer_of (refused r)) in (w / 2 ^ 56 ≡ number_of r)
    × (w % 2 ^ 56 ≡ min (place_of r) (2 ^ 56 - 1)) × (1 ≤ number_of r) × (number_of r ≤ 17))
    × ((a b : Result ℕ Refusal) → answer_value a < 2 ^ 56 → answer_value b < 2 ^ 56 → word_of a ≡ word_of b → a ≡ b)
answer-words = (
  Rattle.word.proofs.Words.word-done,
  Rattle.word.proofs.Words.word-refused,
  Rattle.word.proofs.Words.words-apart,
)

-- In full, below 2^56: a result's word is its length, that of 11 is 11 × 2^56 + place, any other number × 2^56.
pub word-numbers : ((xs : List ℕ) → length xs < 2 ^ 56 → word_of (answer_of (done xs)) ≡ length xs)
    × ((k : ℕ) → k < 2 ^ 56 → word_of (answer_of (refused (BadByte k))) ≡ 11 * 2 ^ 56 + k)
    × ((r : Refusal) → (number_of r ≡ 11 → ⊥) → word_of (answer_of (refused r)) ≡ number_of r * 2 ^ 56)
word-numbers = Rattle.word.proofs.Words.word-numbers

-- The word of a set has number 0 and the count of a good set, or the refusal's number and that of the record.
pub set_words : ((n : ℕ) → (set_word_of (Ok n) / 2 ^ 56 ≡ 0) × (set_word_of (Ok n) % 2 ^ 56 ≡ min n (2 ^ 56 - 1)))
    × ((i : ℕ) (r : Refusal) → (set_word_of (Err (bad i r)) / 2 ^ 56 ≡ number_of r)
    × (set_word_of (Err (bad i r)) % 2 ^ 56 ≡ min i (2 ^ 56 - 1)))
set_words = Rattle.sbc.proofs.Words.set_words

-- A result fills the output from its first byte and leaves the bytes past its end; a refusal leaves all as lent.
pub outputs : (out : List ℕ) → ((xs : List ℕ) → (take (length xs) (output_of (done xs) out) ≡ xs)
    × (drop (length xs) (output_of (done xs) out) ≡ drop (length xs) out))
    × ((r : Refusal) → output_of (refused r) out ≡ out)
outputs = Rattle.answer.proofs.Answered.output-bytes
