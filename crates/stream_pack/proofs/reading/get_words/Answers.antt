use Rattle.std.proofs.Common.{◌≡◌, ◌++◌, ◌+◌, ◌*◌}
use Rattle.laws.proofs.All.{sym, ap, ◌∙◌, map, arith, drop, range, map_more}
use Rattle.bits.specs.Fields.{bits_of, field}
use Rattle.stream_pack.proofs.Streams.{word_of, unpacked-map}
use Rattle.stream_pack.proofs.reading.get_words.Goals as goal

pub loop-i-preserved : goal.loop-i-preserved
loop-i-preserved c =
    let a = c.args in
    let l = c.loop-i in
    let e : l.i * a.q ≡ (0 + l.i) * a.q = omega arith in
    map_more (word_of a.q a.bytes.now) 0 a.out.now l.out l.i c.get.result l.invariant
    (c.get.ensures.answer ∙ ap (λ n. field (bits_of a.bytes.now) n a.q) e) (omega arith)

pub returns : goal.returns
returns c =
    let a = c.args in
    let e : c.loop-i.i ≡ a.count = omega arith in
    let f = word_of a.q a.bytes.now in
    record {
      written = c.loop-i.invariant ∙ ap (λ k. map f (range k) ++ drop k a.out.now) e
          ∙ ap (λ x. x ++ drop a.count a.out.now) (sym (unpacked-map a.q a.count a.bytes.now));
    }
