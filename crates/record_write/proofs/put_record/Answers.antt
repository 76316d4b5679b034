-- `put_record` meets its contract: the four parts stand one after the other and fill the record's bytes.
use Rattle.std.proofs.Common.{◌≡◌, ◌+◌, ◌*◌, ◌-◌, ◌^◌, ◌≤◌}
use Rattle.laws.proofs.All.{refl, sym, ap, ap₂, subst, ◌∙◌, arith, length}
use Rattle.laws.proofs.All.{pow_pos, below_all}
use Rattle.bits.specs.Bytes.{spliced}
use Rattle.bits.specs.Fields.{bits_of}
use Rattle.bits.proofs.Runs.{size_holds}
use Rattle.table.specs.Formed.{head}
use Rattle.table.specs.Value.{code_in}
use Rattle.record.specs.Layout.{header_bits, state_size, bit_count, size}
use Rattle.table.specs.Value.{table_head}
use Rattle.record.specs.Parts.{front_bits}
use Rattle.record.specs.Places.{Small}
use Rattle.table.proofs.ReadyTables.{head_in}
use Rattle.record.proofs.Sizes.{bit_count-le, edges-end}
use Rattle.record.proofs.RecordWriting.{small-in, even, whole-record}
use Rattle.record_write.proofs.put_record.Goals.{After-put-arg-1}
use Rattle.record_write.proofs.put_record.Goals as goal

-- the fill's place
place : (c : After-put-arg-1) → c.bit_count-at.result ≡ bit_count (table_head c.args.t)
place c = c.bit_count-at.ensures.answer ∙ ap bit_count c.requires.1

pub bit_count-at-requires : goal.bit_count-at-requires
bit_count-at-requires c = subst Small (sym c.requires.1) (small-in c.args.t c.requires.0)

pub put_edges-requires : goal.put_edges-requires
put_edges-requires c =
    let k : c.args.f.count ≡ c.args.t.constraint.states = ap (λ h. h.count) c.requires.1 in
    let l = c.put_states.ensures.kept ∙ c.put_front.ensures.kept in (
      c.requires.0,
      omega (arith, c.requires.0.limits),
      omega (arith, edges-end (table_head c.args.t) (2 ^ c.args.t.p) c.args.long refl c.requires.2, c.requires.3),
    )

pub overflow_mul-long : goal.overflow_mul-long
overflow_mul-long c =
    record {
      fits = omega (arith, c.requires.2, bit_count-le (table_head c.args.t) (small-in c.args.t c.requires.0));
    }

pub overflow_sub-long : goal.overflow_sub-long
overflow_sub-long c =
    omega (arith, place c, c.requires.2, size_holds (bit_count (table_head c.args.t)))

pub put-requires : goal.put-requires
put-requires c =
    let l = c.put_edges.ensures.kept ∙ c.put_states.ensures.kept ∙ c.put_front.ensures.kept in (
      omega (arith, place c, c.requires.2),
      omega
          (arith, place c, c.requires.2, c.requires.3, size_holds (bit_count (table_head c.args.t))),
      pow_pos _,
    )

pub returns : goal.returns
returns c =
    let t = c.args.t in
    let o = c.args.out.now in
    let e : c.args.f ≡ head (code_in t) = c.requires.1 ∙ head_in t in
    let a = c.bit_count-at.ensures.answer ∙ ap bit_count e in
    let z = c.requires.2 ∙ ap size (head_in t) in
    record {
      written = whole-record (code_in t) (even t) o c.put.new.bytes (bits_of c.put_front.new.out)
          (bits_of c.put_states.new.out)
          (bits_of c.put_edges.new.out) c.bit_count-at.result
          (8 * c.args.long - c.bit_count-at.result)
          (header_bits + c.args.f.count * state_size)
          (below_all 256 o (λ i. (c.slice_known-1.given i).fits))
          (below_all 256 c.put.new.bytes (λ i. (c.type_inv.out i).fits))
          (subst (λ n. n ≤ length o) z c.requires.3)
          (c.put.ensures.kept ∙ c.put_edges.ensures.kept ∙ c.put_states.ensures.kept ∙ c.put_front.ensures.kept)
          (ap (λ h. header_bits + h.count * state_size) e) a (ap₂ (λ x y. 8 * x - y) z a)
          (c.put_front.ensures.written ∙ ap (λ h. spliced 0 (front_bits h) (bits_of o)) e) c.put_states.ensures.written
          c.put_edges.ensures.written
          c.put.ensures.written;
    }
