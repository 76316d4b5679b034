-- `read` meets its contract: each return follows the checks before it, in document 01's order.
use Rattle.std.proofs.Common.{◌≡◌}
use Rattle.laws.proofs.All.{true, sym, ap, ◌∙◌, not-true, not-false, lt-leb, le-leb, eq-eqb, ne_eqb}
use Rattle.laws.proofs.All.{length, arith}
use Rattle.answer.specs.Outcomes.{done}
use Rattle.table.specs.Formed.{Ranges}
use Rattle.record.specs.Parse.{good_head}
use Rattle.record.specs.Layout.{header_bytes, size}
use Rattle.record.specs.Places.{Small}
use Rattle.record.proofs.Sizes.{small_of}
use Rattle.record.proofs.RecordRead.{read-ready}
use Rattle.record.proofs.RecordReading.{ranges_in, checked-short, checked-front, checked-length}
use Rattle.record.proofs.RecordReading.{checked-rest, checked-good}
use Rattle.laws.proofs.All.{not}
use Rattle.record_read.proofs.read.Goals.{Else-bytes-size_of, Else-not-good_front}
use Rattle.record_read.proofs.read.Goals as goal

-- the header is good
fronted : (c : Else-not-good_front) → good_head c.front_of-f.result ≡ true
fronted c =
    sym c.good_front.ensures.answer ∙ not-false c.good_front.result (ap not c.if-not-good_front.false)

-- so its numbers are in range
ranged : (c : Else-not-good_front) → Ranges c.front_of-f.result
ranged c =
    ranges_in c.args.bytes.now c.front_of-f.result c.front_of-f.ensures.answer
    (fronted c)

-- and small
small : (c : Else-not-good_front) → Small c.front_of-f.result
small c = small_of _ (ranged c)

-- the length is what they say
sized : (c : Else-bytes-size_of) → length c.args.bytes.now
    ≡ size c.front_of-f.result
sized c = c.if-bytes-size_of.false ∙ c.size_of.ensures.answer

pub returns-then-bytes-lt5 : goal.returns-then-bytes-lt5
returns-then-bytes-lt5 c =
    let xs = c.args.bytes.now in
    record {
      answer = sym (checked-short xs (lt-leb header_bytes (length xs) (omega (arith, c.if-bytes-lt5.true))));
      kept = tt;
    }

pub returns-then-not-good_front : goal.returns-then-not-good_front
returns-then-not-good_front c =
    let xs = c.args.bytes.now in
    record {
      answer = sym (checked-front xs c.front_of-f.result c.front_of-f.ensures.answer
          (le-leb header_bytes (length xs) (omega (arith, c.if-bytes-lt5.false)))
          (sym c.good_front.ensures.answer ∙ not-true c.good_front.result (ap not c.if-not-good_front.true)));
      kept = tt;
    }

pub size_of-requires : goal.size_of-requires
size_of-requires c = small c

pub returns-then-bytes-size_of : goal.returns-then-bytes-size_of
returns-then-bytes-size_of c =
    let xs = c.args.bytes.now in
    record {
      answer = sym (checked-length xs c.front_of-f.result c.front_of-f.ensures.answer
          (le-leb header_bytes (length xs) (omega (arith, c.if-bytes-lt5.false)))
          (fronted (goal.at.returns-then-bytes-size_of c).Else-not-good_front)
          (ne_eqb _ _ (λ e. c.if-bytes-size_of.true (e ∙ sym c.size_of.ensures.answer))));
      kept = tt;
    }

pub good_rest-requires : goal.good_rest-requires
good_rest-requires c = (small (goal.at.good_rest-requires c).Else-not-good_front, sized c)

pub returns-then-not-good_rest : goal.returns-then-not-good_rest
returns-then-not-good_rest c =
    let xs = c.args.bytes.now in
    record {
      answer = sym (checked-rest xs c.front_of-f.result c.front_of-f.ensures.answer
          (le-leb header_bytes (length xs) (omega (arith, c.if-bytes-lt5.false)))
          (fronted (goal.at.returns-then-not-good_rest c).Else-not-good_front)
          (eq-eqb _ _ (sized (goal.at.returns-then-not-good_rest c).Else-bytes-size_of))
          (sym c.good_rest.ensures.answer ∙ not-true c.good_rest.result (ap not c.if-not-good_rest.true)));
      kept = tt;
    }

pub table_of-requires : goal.table_of-requires
table_of-requires c = (
  small (goal.at.table_of-requires c).Else-not-good_front,
  sized
      (goal.at.table_of-requires c).Else-bytes-size_of,
)

pub returns : goal.returns
returns c =
    let h = c.front_of-f.result in
    let xs = c.args.bytes.now in
    let good = sym c.good_rest.ensures.answer ∙ not-false c.good_rest.result (ap not c.if-not-good_rest.false) in
    let same = ap done c.table_of.ensures.answer ∙ sym (checked-good xs h c.front_of-f.ensures.answer
    (le-leb header_bytes (length xs) (omega (arith, c.if-bytes-lt5.false)))
    (fronted (goal.at.returns c).Else-not-good_front)
    (eq-eqb _ _ (sized (goal.at.returns c).Else-bytes-size_of)) good) in
    record { answer = same; kept = read-ready xs c.table_of.result same }
