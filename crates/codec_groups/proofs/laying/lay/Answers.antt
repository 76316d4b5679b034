use Rattle.std.proofs.Common.{◌≡◌, ◌+◌, ◌^◌, ◌≤◌, ◌<◌}
use Rattle.laws.proofs.All.{refl, ◌∙◌, ℕ, arith, length, length-replicate}
use Rattle.laws.proofs.All.{pow_mono}
use Rattle.table.specs.Edges.{places}
use Rattle.table.specs.Lent.{edges_in}
use Rattle.bitsets.specs.BitSets.{members_of}
use Rattle.codec_groups.specs.Counts.{count}
use Rattle.codec_groups.proofs.WordGroups.{member-group, states-few, word-laid, word-sources}
use Rattle.codec_groups.proofs.WordGroups.{word_same}
use Rattle.codec_groups.proofs.AllGroups.{laying-start, laying-room, laying-more, laid}
use Rattle.codec_groups.proofs.laying.lay.Goals.{After-power-words, After-count, After-gather-have, In-loop-w}
use Rattle.codec_groups.proofs.laying.lay.Goals as goal

words-few : (c : After-power-words) → c.power-words.result ≤ 256
words-few c =
    let h : 2 ^ c.args.chains.now.edges.q ≤ 2 ^ 8 = pow_mono c.args.chains.now.edges.narrow in
    omega (arith, c.power-words.ensures.answer)

pub loop-w-init : goal.loop-w-init
loop-w-init c =
    let a = c.args in (
      length-replicate 128 c.none-targets.result,
      laying-start (edges_in a.chains.now.edges) a.first.now a.sets.now c.requires.0 c.requires.1,
      refl,
    )

below : (c : In-loop-w) → c.loop-w.w < 256
below c =
    let h : 2 ^ c.args.chains.now.edges.q ≤ 2 ^ 8 = pow_mono c.args.chains.now.edges.narrow in
    omega (arith, c.power-words.ensures.answer, c.loop-w-test.true)

pub gather-have-requires : goal.gather-have-requires
gather-have-requires c =
    let l = c.loop-w in
    (below (goal.at.gather-have-requires c).In-loop-w, l.invariant.0)

-- no more groups than edges with the word
few : (c : After-gather-have)
    → length (members_of c.gather-have.result) ≤ count (edges_in c.args.chains.now.edges) c.loop-w.w (places (edges_in c.args.chains.now.edges))
few c =
    states-few (edges_in c.args.chains.now.edges) c.args.chains.now.edges.fits c.loop-w.w c.gather-have.result _ c.gather-have.ensures.answer

room : (c : After-gather-have)
    → c.loop-w.k + length (members_of c.gather-have.result) ≤ places (edges_in c.args.chains.now.edges)
room c = laying-room _ _ _ _ _ _ c.loop-w.invariant.1 (length (members_of c.gather-have.result)) (few c)

pub put_groups-requires : goal.put_groups-requires
put_groups-requires c =
    let l = c.loop-w in
    let r = room (goal.at.put_groups-requires c).After-gather-have in
    let f = c.args.chains.now.edges.fits in (
      omega (arith, r, f.few),
      λ x h q.
          omega (
            arith,
            f.few,
            (member-group (edges_in c.args.chains.now.edges) f l.w c.gather-have.result _ c.gather-have.ensures.answer x h q).below,
          ),
      l.invariant.1.first_long,
      omega (arith, r, l.invariant.1.sets_long),
    )

pub put_have-requires : goal.put_have-requires
put_have-requires c = below (goal.at.put_have-requires c).In-loop-w

fits : (c : After-count) → c.loop-w.k + c.count.result ≤ 2048
fits c =
    omega (
      arith,
      laying-room _ _ _ _ _ _ c.loop-w.invariant.1 (length (members_of c.gather-have.result))
          (states-few (edges_in c.args.chains.now.edges) c.args.chains.now.edges.fits c.loop-w.w c.gather-have.result _
          c.gather-have.ensures.answer),
      c.args.chains.now.edges.fits.few,
      c.count.ensures.answer,
    )

pub loop-w-preserved : goal.loop-w-preserved
loop-w-preserved c =
    let l = c.loop-w in
    let t = edges_in c.args.chains.now.edges in
    let f = c.args.chains.now.edges.fits in
    let G = c.gather-have.ensures.answer in
    let P = c.put_groups.ensures.written in
    let H = c.put_have.ensures.written in
    let e = c.count.ensures.answer in
    let room = fits (goal.at.loop-w-preserved c).After-count in
    let away : (j : ℕ) → j < 2048 → (j ≡ 2048 + l.w → ⊥) = λ j b e. omega arith in (
      G.long,
      laying-more _ _ _ _ _ _ l.invariant.1 (below (goal.at.loop-w-preserved c).In-loop-w) c.count.result
          (omega (arith, few (goal.at.loop-w-preserved c).After-gather-have, e)) _ _ P.first_long
          (H.sets_long ∙ P.sets_long)
          (word_same t l.w l.k (l.k + c.count.result) _ _ _ _
          (word-laid t f l.w c.gather-have.result _ G _ _ l.k _ _ P c.count.result e) (λ j b. refl)
          (λ j b. H.others j (away j (omega (arith, room)))))
          P.edges (λ j b. H.others j (away j (omega (arith, room))) ∙ P.others j b)
          (word-sources t f l.w c.gather-have.result _ G _ _ l.k _ _ P c.count.result e _ H)
          (λ v b. H.others (2048 + v) (λ e. omega arith) ∙ P.after (2048 + v) (omega arith)),
      H.sets_long ∙ P.sets_long ∙ l.invariant.2,
    )

pub returns : goal.returns
returns c =
    let l = c.loop-w in
    let z : l.w ≡ c.power-words.result = omega (arith, c.loop-w-test.false) in
    record {
      written = laid (edges_in c.args.chains.now.edges) c.power-words.result l.k l.start l.first l.sets c.args.chains.now.edges.fits
          (words-few (goal.at.returns c).After-power-words)
          (rw c.power-words.ensures.answer c.args.chains.now.edges.reading) (rw z at l.invariant.1);
    }

pub overflow_cast-k : goal.overflow_cast-k
overflow_cast-k c = omega (arith, fits c)

pub overflow_add-k : goal.overflow_add-k
overflow_add-k c = omega (arith, fits c)

pub overflow_cast-start : goal.overflow_cast-start
overflow_cast-start c = omega (arith, fits c)

pub bounds-start-w : goal.bounds-start-w
bounds-start-w c = omega (arith, below (goal.at.bounds-start-w c).In-loop-w)

pub shape_of-sets : goal.shape_of-sets
shape_of-sets c = c.loop-w.invariant.2
