-- The main theorems, each written out in full; its proof only cites laws. A `Kind` is one of the three kinds of job.
-- In order: kinds, allowed, no_code, greatest, component, each-split, split-list, goes-on, splits-end, shortest-idle,
-- least-window, refusals, calls, written, compiled-code, max-record, compiled-passes; checker-exact, check-calls,
-- record-order, record-fields, record-numbers, record-table, field-bits, records; encodes, decodes, returns,
-- recognised, one-datum, demand-3, reach, local, different-data, loaded, checked; sets, good-places; words.
-- Assumes nothing.
use Rattle.std.specs.Prelude.{◌≡◌, ◌⊎◌, ◌↔◌, List, [], ◌∷◌, ℕ, suc, ◌+◌, ◌*◌, ◌-◌, ◌/◌, ◌%◌, ◌^◌, ◌≤◌, ◌<◌, min, T}
use Rattle.std.specs.Prelude.{length, get_or, take, drop}
use Rattle.laws.specs.Lists.{sum, elem}
use Rattle.laws.specs.Sums.{Below}
use Rattle.answer.specs.declared.Refusal.{Refusal}
use Rattle.answer.specs.declared.Refusal.TheVariants.{NoCode, TooHeavy, TooManyEdges, NoWindow, ShortOutput}
use Rattle.answer.specs.declared.Refusal.TheVariants.{Field, Length, Disobeys, WindowFails}
use Rattle.answer.specs.Refusals.{number_of}
use Rattle.answer.specs.Outcomes.{done, refused}
use Rattle.answer.specs.Orders.{check, First}
use Rattle.bits.specs.Fields.{field, bits_of}
use Rattle.constraint.specs.Walking.{after}
use Rattle.table.specs.declared.Table.{Table}
use Rattle.table.specs.Rows.{edges, at, Size, Code}
use Rattle.table.specs.Paths.{Blocks, recording}
use Rattle.table.specs.Value.{code_in}
use Rattle.table.specs.Formed.{Formed}
use Rattle.window.specs.Window.{Window}
use Rattle.record_obeys.specs.Obeys.{Obeys, Breaks}
use Rattle.record.specs.Layout.{pack}
use Rattle.record_check.specs.Parse.{parse, judged, checked_only}
use Rattle.codec_steps.specs.Reading.{mark_ahead, block, decode}
use Rattle.codec.specs.Answers.{encode_under, decode_under, encode_checked, decode_checked}
use Rattle.codec.specs.With.{encoded_with, decoded_with}
use Rattle.codec.specs.Found.{found}
use Rattle.codec.specs.Damage.{StandsClear, Recording, SameOutside}
use Rattle.compile_graph.specs.Arcs.{Arc, arc, Work, out}
use Rattle.compile_graph.specs.Weights.{AtMost}
use Rattle.compile_graph.specs.Component.{within, live, component_states}
use Rattle.compile_graph.specs.Reachable.{Reachable, ReachedBack}
use Rattle.compile_graph.specs.Invariant.{count}
use Rattle.compile_graph.specs.Splitting.{sort, chosen, candidates, stretch, divisible, kept, split, goes_on, splits}
use Rattle.compile_table.specs.TableOf.{table_of}
use Rattle.compile_labels.specs.Labels.{relabelled}
use Rattle.compile_job.specs.Jobs.{computed, Job, read_job, read_run_length, read_joined, Allowed}
use Rattle.compile.specs.Compile.{ways, graph_of, Vector, weights_of, component_of, finished_of, table_for, code}
use Rattle.compile.specs.Compile.{compile}
use Rattle.compile.specs.Compile.{compile_job, compile_run_length, compile_joined}
use Rattle.compile.specs.Kinds.{Kind, general, run_length, joined as both, read_as, compile_as}
use Rattle.view_job.specs.Listings.{list_into}
use Rattle.set_check.specs.Sets.{codes, read_set, write_set, Readable}
use Rattle.word.specs.Words.{joined}

-- The kinds are jobs, run_length jobs and jobs with two constraints, each with the reading and the call of its name.
pub kinds : (xs : List ℕ) (room : ℕ) → ((read_as general xs ≡ read_job xs)
    × (compile_as general xs room ≡ compile_job xs room)) × ((read_as run_length xs ≡ read_run_length xs)
    × (compile_as run_length xs room ≡ compile_run_length xs room)) × ((read_as both xs ≡ read_joined xs)
    × (compile_as both xs room ≡ compile_joined xs room))
kinds = Rattle.compile.proofs.Written.kinds

-- A job that is read from bytes is allowed: what is said below of allowed jobs holds of every call.
pub allowed : (k : Kind) (xs : List ℕ) (j : Job) → read_as k xs ≡ done j → Allowed j
allowed = Rattle.compile.proofs.Written.as-allowed

-- "No code" is said exactly when no vector of numbers from 0 to cap, not all 0, meets the inequality; from bytes too.
pub no_code : ((j : Job) → Allowed j → (compile j ≡ refused NoCode) ↔ ((u : List ℕ) → Vector j u → (s : ℕ)
    → get_or u s 0 ≡ 0)) × ((k : Kind) (xs : List ℕ) (room : ℕ) → (compile_as k xs room ≡ refused NoCode)
    ↔ ((j : Job) × (read_as k xs ≡ done j) × ((u : List ℕ) → Vector j u → (s : ℕ) → get_or u s 0 ≡ 0)))
no_code = (Rattle.compile.proofs.Compile.no-code-exact, Rattle.compile.proofs.Written.none)

-- A job that brings no weights uses the greatest ones: they meet the inequality, and any other vector is at most them.
pub greatest : (j : Job) → j.choice ≡ computed
    → Vector j (weights_of j) × ((u : List ℕ) → Vector j u → AtMost u (weights_of j))
greatest = Rattle.compile.proofs.Compile.computed-greatest

-- The component is what its first state reaches: the lowest, of weight above 0, that all states it reaches reach back.
pub component : (j : Job) → Allowed j → 0 < sum (component_of j).weights
    → let v = weights_of j in let g = within (live v) (graph_of j) in let C = component_states v (graph_of j) in
    let s = get_or C 0 0 in (0 < get_or v s 0) × ReachedBack g s
    × ((u : ℕ) → u < s → 0 < get_or v u 0 → ReachedBack g u → ⊥) × ((t : ℕ) → T (elem t C) ↔ Reachable g s t)
component j a h = let c = Rattle.compile.proofs.ByRule.component j a h in (c.live, c.back, c.lowest, c.states)

-- Each graph that splitting passes through is split by the rule's state, list and run; the last is the finished one.
pub each-split : (j : Job) → Allowed j → 0 < sum (component_of j).weights → (k : ℕ) → let n = ways j in
    let x = splits k n (component_of j) in let s = chosen x.weights x.arcs in (T (goes_on n x)
    → (splits (suc k) n (component_of j) ≡ split n x) × Rattle.compile_graph.specs.Rule.Rule n x s
    (candidates n x.weights (get_or x.weights s 0) (sort (out x.arcs s))) (kept n x.weights x.arcs s))
    × ((T (goes_on n x) → ⊥) → finished_of j ≡ x)
each-split = Rattle.compile.proofs.ByRule.splits-by-rule

-- That list: the first edge, by word, then target, to a lighter state, then the first n − 1 others in this order.
pub split-list : (j : Job) → Allowed j → 0 < sum (component_of j).weights → (k : ℕ) → let n = ways j in
    let x = splits k n (component_of j) in let v = x.weights in let s = chosen v x.arcs in T (goes_on n x)
    → let es = sort (out x.arcs s) in let l = candidates n v (get_or v s 0) es in let o = arc 0 0 0 in
    ((i k : ℕ) → i < k → k < length es → let e = get_or es i o in let f = get_or es k o in
    (e.word < f.word) ⊎ ((e.word ≡ f.word) × (e.target < f.target)))
    × ((e : Arc) → count e es ≡ count e (out x.arcs s))
    × ((p : ℕ) × (p < length es) × (get_or l 0 o ≡ get_or es p o) × (get_or v (get_or es p o).target 0 < get_or v s 0)
    × ((i : ℕ) → i < p → get_or v s 0 ≤ get_or v (get_or es i o).target 0)
    × ((i : ℕ) → i < p → i + 1 < n → get_or l (i + 1) o ≡ get_or es i o)
    × ((i : ℕ) → p < i → i < n → get_or l i o ≡ get_or es i o))
split-list = Rattle.compile.proofs.ByRule.split-list

-- Splitting goes on exactly while some state has fewer than n edges out and there are at most 2,048 edges.
pub goes-on : (n : ℕ) (x : Work) → T (goes_on n x)
    ↔ ((length x.arcs ≤ 2048) × ((u : ℕ) × (u < length x.weights) × (length (out x.arcs u) < n)))
goes-on = Rattle.compile_graph.proofs.Loop.goes-on

-- Splitting ends, with no more states than the component's weights sum to, and n edges a state or refusal 5.
pub splits-end : (j : Job) → Allowed j → 0 < sum (component_of j).weights
    → (length (finished_of j).weights ≤ sum (component_of j).weights) × (length (finished_of j).arcs ≤ 2048
    → (s : ℕ) → s < length (finished_of j).weights → ways j ≤ length (out (finished_of j).arcs s))
splits-end = Rattle.compile.proofs.Promises.split-ends

-- "And of those the shortest" never decides: of the runs that end first there is one only.
pub shortest-idle : (n : ℕ) (v : List ℕ) (es : List Arc) (j i i' : ℕ)
    → ((k d : ℕ) → k < j → d ≤ k → T (divisible n v (stretch es k d)) → ⊥)
    → i ≤ j → i' ≤ j → T (divisible n v (stretch es j i)) → T (divisible n v (stretch es j i')) → i ≡ i'
shortest-idle = Rattle.compile_graph.proofs.RunUnique.shortest-idle

-- The window written does what a window must, and is the first of all that do: least m + a, then least a.
pub least-window : (j : Job) → Allowed j → (c : Code) → compile j ≡ done c
    → let m = c.window.memory in let a = c.window.lookahead in Window c.table c.window
    × ((y : Size) → y.memory ≤ 15 → y.lookahead ≤ 15 → Window c.table y → (m + a < y.memory + y.lookahead)
    ⊎ ((m + a ≡ y.memory + y.lookahead) × (a ≤ y.lookahead)))
least-window = Rattle.compile.proofs.Promises.least-window

-- Refusals 4 (weight over 128), 5 (over 2,048 edges) and 6 (no window) come exactly where due and none before is.
pub refusals : (j : Job) → Allowed j → let w = sum (component_of j).weights in let e = length (finished_of j).arcs in
    ((compile j ≡ refused TooHeavy) ↔ (128 < w))
    × ((compile j ≡ refused TooManyEdges) ↔ ((0 < w) × (w ≤ 128) × (2048 < e)))
    × ((compile j ≡ refused NoWindow) ↔ ((0 < w) × (w ≤ 128) × (e ≤ 2048)
    × ((y : Size) → y.memory ≤ 15 → y.lookahead ≤ 15 → Window (table_for j) y → ⊥)))
refusals = Rattle.compile.proofs.Exact.refusals

-- From bytes, 3 to 6 come exactly when the job's compiling is refused so, 13 when its record is longer than the room.
pub calls : (k : Kind) (xs : List ℕ) (room : ℕ) → ((r : Refusal) → 3 ≤ number_of r → number_of r ≤ 6
    → (compile_as k xs room ≡ refused r) ↔ ((j : Job) × (read_as k xs ≡ done j) × (compile j ≡ refused r)))
    × ((compile_as k xs room ≡ refused ShortOutput)
    ↔ ((j : Job) × (c : Code) × (read_as k xs ≡ done j) × (compile j ≡ done c) × (room < length (pack c))))
calls k xs room = (Rattle.compile.proofs.Written.calls k xs room, Rattle.compile.proofs.Written.short k xs room)

-- With a vector not all 0, within the limits, with some window up to 15 and 15 and room, the job's record is written.
pub written : (k : Kind) (xs : List ℕ) (room : ℕ) (j : Job) → read_as k xs ≡ done j
    → (u : List ℕ) → Vector j u → (s : ℕ) → 0 < get_or u s 0 → sum (component_of j).weights ≤ 128
    → length (finished_of j).arcs ≤ 2048 → (y : Size) → y.memory ≤ 15 → y.lookahead ≤ 15 → Window (table_for j) y
    → length (pack (code j (table_for j))) ≤ room → compile_as k xs room ≡ done (pack (code j (table_for j)))
written = Rattle.compile.proofs.Written.written

-- A code has its job's p, q and whole constraint, the component's first state, tail datum 0 and the labelled table.
pub compiled-code : (j : Job) (c : Code) → compile j ≡ done c → (c.p ≡ j.p) × (c.q ≡ j.q)
    × (c.constraint ≡ j.constraint) × (c.start ≡ get_or (component_states (weights_of j) (graph_of j)) 0 0)
    × (c.tail ≡ 0) × (c.table ≡ relabelled (ways j) (table_of (ways j) (finished_of j)))
compiled-code = Rattle.compile.proofs.Exact.compiled-code

-- A record has at most 3,865 bytes and a listing at most 43,028, so with that room 13 never comes.
pub max-record : ((c : Code) → Formed c → length (pack c) ≤ 3865) × ((k : Kind) (xs : List ℕ) (room : ℕ)
    → (3865 ≤ room → compile_as k xs room ≡ refused ShortOutput → ⊥)
    × (43028 ≤ room → list_into xs room ≡ refused ShortOutput → ⊥))
max-record = (Rattle.record.proofs.RecordBytes.pack-short, Rattle.view_job.proofs.Lengths.room-enough)

-- The compiler's record always passes the checker, and is read as the code that was compiled: from bytes to bytes.
pub compiled-passes : (k : Kind) (xs : List ℕ) (room : ℕ) (r : List ℕ) → compile_as k xs room ≡ done r
    → (j : Job) × (c : Code) × (read_as k xs ≡ done j) × (compile j ≡ done c) × (pack c ≡ r) × (parse r ≡ done c)
compiled-passes = Rattle.compile.proofs.Written.passes

-- The checker accepts exactly the tables whose every recording obeys and whose every window settles its block.
pub checker-exact : (xs : List ℕ) → Below 256 xs → (checked_only xs ≡ done [])
    ↔ ((c : Code) × Formed c × (pack c ≡ xs) × Rattle.record_check.specs.Accepted.Accepted c)
checker-exact = Rattle.record_check.proofs.Accepted.check-exact

-- The checker gives no bytes for every record that parses to a code, and otherwise the refusal of its parsing.
pub check-calls : (xs : List ℕ)
    → ((ys : List ℕ) → (checked_only xs ≡ done ys) ↔ ((c : Code) × (parse xs ≡ done c) × (ys ≡ [])))
    × ((r : Refusal) → (checked_only xs ≡ refused r) ↔ (parse xs ≡ refused r))
check-calls = Rattle.record_check.proofs.Calls.check-calls

-- A record's refusals: 8 below five bytes, 7, 8, 7; 9 exactly if a recording disobeys, 10 exactly if the window fails.
pub record-order : (xs : List ℕ) → Below 256 xs → Rattle.record_check.specs.Reasons.Reason xs (parse xs)
    × ((parse xs ≡ refused Disobeys) ↔ ((c : Code) × Formed c × (pack c ≡ xs) × Breaks c))
    × ((parse xs ≡ refused WindowFails)
    ↔ ((c : Code) × Formed c × (pack c ≡ xs) × Obeys c × (Window c.table c.window → ⊥)))
record-order = Rattle.record_check.proofs.Meanings.order

-- 7 and 8 by numbers: "header by 7" is p, q, start and tail in its 34 bits; the rest is next states, targets and fill.
pub record-fields : (xs : List ℕ) (r : Refusal) → (number_of r ≡ 7) ⊎ (number_of r ≡ 8) → let B = bits_of xs in
    let p = field B 0 3 in let q = field B 3 4 in let states = field B 7 7 + 1 in let K = field B 22 4 + 1 in
    let start = field B 26 4 in let tail = field B 30 4 in let n = 34 + 10 * K + states * (2 ^ p * (q + 7)) in
    let size = (n + 7) / 8 in (parse xs ≡ refused r)
    ↔ First (check Length (5 ≤ length xs)
    ∷ check Field ((1 ≤ p) × (p ≤ 4) × (1 ≤ q) × (q ≤ 8) × (start < K) × (tail < 2 ^ p))
    ∷ check Length (length xs ≡ size)
    ∷ check Field (((i : ℕ) → i < 2 * K → let o = 34 + i * 5 in ((field B o 1 ≡ 0) × (field B (o + 1) 4 ≡ 0))
    ⊎ ((field B o 1 ≡ 1) × (field B (o + 1) 4 < K)))
    × ((e : ℕ) → e < states * 2 ^ p → field B (34 + 10 * K + q + e * (q + 7)) 7 < states)
    × (field B n (8 * size - n) ≡ 0)) ∷ []) r
record-fields = Rattle.record_check.proofs.FieldOrder.record-fields

-- A record that passes has the numbers in its first 34 bits: p, q, states − 1, m, a, K − 1, start and tail.
pub record-numbers : (xs : List ℕ) (c : Code) → parse xs ≡ done c → let B = bits_of xs in (c.p ≡ field B 0 3)
    × (c.q ≡ field B 3 4) × (length c.table ≡ field B 7 7 + 1) × (c.window.memory ≡ field B 14 4)
    × (c.window.lookahead ≡ field B 18 4) × (length c.constraint ≡ field B 22 4 + 1)
    × (c.start ≡ field B 26 4) × (c.tail ≡ field B 30 4)
record-numbers = Rattle.record_check.proofs.Fields.record-numbers

-- After them 5 bits for each state and bit, present and next state (255 for none), then q + 7 bits for each edge.
pub record-table : (xs : List ℕ) (c : Code) → parse xs ≡ done c → let B = bits_of xs in
    let p = field B 0 3 in let q = field B 3 4 in let K = field B 22 4 + 1 in
    ((s b : ℕ) → s < K → b < 2 → let o = 34 + 10 * s + 5 * b in let t = after c.constraint s b in
    ((field B o 1 ≡ 0) × (t ≡ 255)) ⊎ ((field B o 1 ≡ 1) × (t ≡ field B (o + 1) 4)))
    × ((s d : ℕ) → s < field B 7 7 + 1 → d < 2 ^ p → let o = 34 + 10 * K + (s * 2 ^ p + d) * (q + 7) in
    ((at c.table s d).word ≡ field B o q) × ((at c.table s d).next ≡ field B (o + q) 7))
    × ((s : ℕ) → s < field B 7 7 + 1 → length (edges c.table s) ≡ 2 ^ p)
record-table = Rattle.record_check.proofs.Fields.record-table

-- A field is the number that its bits spell, the first the highest; bit i is bit 7 − i % 8 of byte i / 8.
pub field-bits : (xs : List ℕ) (o : ℕ) → (field (bits_of xs) o 0 ≡ 0) × ((w : ℕ) → o + w < 8 * length xs
    → let i = o + w in
    field (bits_of xs) o (w + 1) ≡ 2 * field (bits_of xs) o w + get_or xs (i / 8) 0 / 2 ^ (7 - i % 8) % 2)
field-bits = Rattle.stream_pack.proofs.Places.field-bits

-- A record is read as it was written, up to refusals 9 and 10, and written as it was read.
pub records : ((c : Code) → Formed c → parse (pack c) ≡ judged c)
    × ((xs : List ℕ) → Below 256 xs → (c : Code) → parse xs ≡ done c → pack c ≡ xs)
records = (Rattle.record_check.proofs.Parse.pack-judged, Rattle.record_check.proofs.Accepted.parse-canonical)

-- Under an accepted record good blocks and room give their recording, N + a words for N blocks.
pub encodes : (rec : List ℕ) (c : Code) → parse rec ≡ done c → (room : ℕ) (ds : List ℕ) → Blocks c ds
    → length ds + c.window.lookahead ≤ room → (encode_under rec room ds ≡ done (recording c ds))
    × (length (recording c ds) ≡ length ds + c.window.lookahead)
encodes = Rattle.codec.proofs.Done.encodes

-- And a or more good words and room give the blocks that the reading rule makes of them, W − a for W words.
pub decodes : (rec : List ℕ) (c : Code) → parse rec ≡ done c → (room : ℕ) (L : List ℕ) → Below (2 ^ c.q) L
    → c.window.lookahead ≤ length L → length L - c.window.lookahead ≤ room
    → (decode_under rec room L ≡ done (decode c L)) × (length (decode c L) ≡ length L - c.window.lookahead)
decodes = Rattle.codec.proofs.Done.decodes

-- Decoding a recording returns its data.
pub returns : (rec : List ℕ) → Below 256 rec → (room room' : ℕ) (ds R : List ℕ) → length ds ≤ room'
    → encode_under rec room ds ≡ done R → decode_under rec room' R ≡ done ds
returns = Rattle.codec.proofs.Promises.demand-2-returns

-- A list of words is a recording exactly when encoding its decoded blocks rebuilds it.
pub recognised : (rec : List ℕ) → Below 256 rec → (c : Code) → parse rec ≡ done c → (room : ℕ) (L : List ℕ)
    → length L ≤ room
    → Recording c L ↔ ((ds : List ℕ) × (decode_under rec room L ≡ done ds) × (encode_under rec room ds ≡ done L))
recognised = Rattle.codec.proofs.Promises.demand-2-recognised

-- Under an accepted record all readings of a block whose window lies in the list are one datum, for any words.
pub one-datum : (rec : List ℕ) → Below 256 rec → (c : Code) → parse rec ≡ done c → (L : List ℕ) (j : ℕ)
    → j + c.window.lookahead < length L → (d e : ℕ) → T (elem d (found c L j)) → T (elem e (found c L j)) → d ≡ e
one-datum = Rattle.codec.proofs.Reach.only-datum

-- Demand 3: every block that stands clear is decoded exactly as written, whatever the rest of the list holds.
pub demand-3 : (rec : List ℕ) → Below 256 rec → (c : Code) → parse rec ≡ done c → (ds L : List ℕ) (room : ℕ)
    → Blocks c ds → Below (2 ^ c.q) L → c.window.lookahead ≤ length L → length L - c.window.lookahead ≤ room
    → (out : List ℕ) × (decode_under rec room L ≡ done out)
    × ((i j : ℕ) → i < length ds → StandsClear c (recording c ds) L i j → get_or out j mark_ahead ≡ get_or ds i 0)
demand-3 = Rattle.codec.proofs.Promises.demand-3

-- If L and the recording differ in no word outside x to y, blocks outside x − a to y + m come out as written.
pub reach : (rec : List ℕ) → Below 256 rec → (c : Code) → parse rec ≡ done c → (ds L : List ℕ) → Blocks c ds
    → Below (2 ^ c.q) L → (x y room : ℕ) → SameOutside x y L (recording c ds) → length ds ≤ room
    → (out : List ℕ) × (decode_under rec room L ≡ done out) × ((j : ℕ) → j < length ds
    → (j < x - c.window.lookahead) ⊎ (y + c.window.memory < j) → get_or out j mark_ahead ≡ get_or ds j 0)
reach = Rattle.codec.proofs.Reach.words-reach

-- The reading of a block depends on its window alone: on words j − m to j + a, and below m on words 0 to j + a.
pub local : (c : Code) → let m = c.window.memory in let a = c.window.lookahead in
    ((L L' : List ℕ) (j j' : ℕ) → m ≤ j → m ≤ j'
    → take (m + 1 + a) (drop (j - m) L) ≡ take (m + 1 + a) (drop (j' - m) L') → block c L j ≡ block c L' j')
    × ((L L' : List ℕ) (j : ℕ) → j < m → take (j + 1 + a) L ≡ take (j + 1 + a) L' → block c L j ≡ block c L' j)
local c = (Rattle.codec.proofs.Local.block-local c, Rattle.codec.proofs.Local.block-local-start c)

-- Recordings of different data differ.
pub different-data : (rec : List ℕ) → Below 256 rec → (room room' : ℕ) (ds es R : List ℕ)
    → encode_under rec room ds ≡ done R → encode_under rec room' es ≡ done R → ds ≡ es
different-data = Rattle.codec.proofs.Promises.different-data

-- A table by value whose code the record holds encodes and decodes as the record does.
pub loaded : (rec : List ℕ) (t : Table) → parse rec ≡ done (code_in t) → (room : ℕ) (ys : List ℕ)
    → (encoded_with t room ys ≡ encode_under rec room ys) × (decoded_with t room ys ≡ decode_under rec room ys)
loaded = Rattle.codec.proofs.Done.loaded

-- For a record that the checker accepts, the calls that do not look at 9 and 10 answer as those that do.
pub checked : (rec : List ℕ) → checked_only rec ≡ done [] → (room : ℕ) (ys : List ℕ)
    → (encode_checked rec room ys ≡ encode_under rec room ys) × (decode_checked rec room ys ≡ decode_under rec room ys)
checked = Rattle.codec.proofs.Done.checked

-- Up to 255 readable codes are written as bytes and read back; a set that is walked to its end is such a set.
pub sets : ((cs : List Code) → length cs ≤ 255 → Readable cs → Below 256 (write_set cs)
    × (read_set (write_set cs) ≡ codes cs)) × ((xs : List ℕ) (cs : List Code) → Below 256 xs → read_set xs ≡ codes cs
    → (length cs ≤ 255) × (write_set cs ≡ xs) × Readable cs)
sets = (Rattle.set_check.proofs.Counts.set-written, Rattle.set_check.proofs.Counts.set-walked)

-- In a good set record i stands at the place of number i, and its bytes hold code i.
pub good-places : (s : List ℕ) (cs : List Code) → read_set s ≡ codes cs → (length cs ≡ get_or s 0 0)
    × ((i : ℕ) (d : Code) → i < length cs → (start : ℕ) × (len : ℕ) × (Rattle.set_places.specs.Offsets.record_place s i
    ≡ Rattle.set_places.specs.Offsets.found start len)
    × (parse (take len (drop start s)) ≡ done (get_or cs i d)))
good-places = Rattle.set_check.proofs.Records.good-places

-- The word that a call for C answers gives back its number by / 2^56 and its value, held to 2^56 − 1, by % 2^56.
pub words : (number value : ℕ) → (joined number value / 2 ^ 56 ≡ number)
    × (joined number value % 2 ^ 56 ≡ min value (2 ^ 56 - 1))
words = Rattle.word.proofs.Words.joined-parts
