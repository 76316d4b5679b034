use Rattle.laws.proofs.All.{refl, ap, ◌∙◌, ℕ, T, arith, lit≤, length, take, replicate, elem}
use Rattle.table.specs.Edges.{arrays, rows_of}
use Rattle.compile_labels.specs.Labels.{data_of, relabelled}
use Rattle.compile_labels.specs.Parts.{row_at, noted}
use Rattle.compile_labels.proofs.Relabelling.{relabels-start, worded-front, state-onto, relabels-more}
use Rattle.compile_labels.proofs.Relabelling.{relabels-end}
use Rattle.std.proofs.Common.{◌≡◌, ◌<◌, rules}
use Rattle.compile_labels.proofs.relabel.Goals.{After-data_of-ds}
use Rattle.compile_labels.proofs.relabel.Goals as goal

pub loop-i-init : goal.loop-i-init
loop-i-init c =
    let a = c.args in
    let lw : length a.rows.word ≡ 2048 = search rules in
    let ln : length a.rows.next ≡ 2048 = search rules in (
      lit≤ tt,
      c.requires.0,
      c.requires.1,
      relabels-start a.n a.rows.states a.rows.word a.rows.next c.requires.0 c.requires.1
          c.note-home.result lw ln
          (λ w h. c.note-home.ensures.answer w h
          ∙ ap (λ r. noted (take a.n r) 0 (replicate 256 128) w) c.row_of-first.ensures.answer),
    )

-- what the edges of state i get
data-given : (c : After-data_of-ds)
    → let l = c.loop-i in
    let a = c.args in
    take a.n c.data_of-ds.result
    ≡ data_of a.n
    (take l.i (relabelled a.n (rows_of (arrays a.rows.states a.n a.rows.word a.rows.next))))
    (take a.n (row_at l.word l.i))
data-given c =
    let l = c.loop-i in
    let a = c.args in
    c.data_of-ds.ensures.answer _
    (worded-front a.n a.rows.states a.rows.word a.rows.next l.invariant.1 l.invariant.2 l.i l.word
    l.next l.home l.invariant.0 c.loop-i-test.true l.invariant.3)
    (l.invariant.3.homes c.loop-i-test.true)

onto : (c : After-data_of-ds) (d : ℕ) → d < c.args.n
    → T (elem d (take c.args.n c.data_of-ds.result))
onto c =
    let l = c.loop-i in
    let a = c.args in
    state-onto a.n a.rows.states a.rows.word a.rows.next l.invariant.1 l.invariant.2 l.i l.word
    l.next l.home l.invariant.0 c.loop-i-test.true l.invariant.3 c.data_of-ds.result (data-given c)

pub loop-i-preserved : goal.loop-i-preserved
loop-i-preserved c =
    let l = c.loop-i in
    let a = c.args in (
      omega arith,
      l.invariant.1,
      l.invariant.2,
      relabels-more a.n a.rows.states a.rows.word a.rows.next l.invariant.1 l.invariant.2 l.i l.word
          l.next l.home l.invariant.0 c.loop-i-test.true l.invariant.3 c.data_of-ds.result
          (data-given (goal.at.loop-i-preserved c).After-data_of-ds)
          c.reorder-words.result c.reorder-nexts.result
          c.note-more.result c.reorder-words.ensures.answer
          c.reorder-nexts.ensures.answer
          (λ w h. c.note-more.ensures.answer w h
          ∙ ap (λ r. noted (take a.n r) l.i l.home w) c.row_of-row.ensures.answer),
    )

pub returns : goal.returns
returns c =
    let l = c.loop-i in
    let a = c.args in
    record {
      answer = (
        relabels-end a.n a.rows.states a.rows.word a.rows.next l.invariant.1 l.invariant.2 l.i l.word
            l.next l.home c.loop-i-test.false l.invariant.3,
        refl,
      );
    }

pub reorder-words-requires : goal.reorder-words-requires
reorder-words-requires c = (search rules, omega arith, onto c)

pub reorder-nexts-requires : goal.reorder-nexts-requires
reorder-nexts-requires c = (search rules, omega arith, onto (goal.at.reorder-nexts-requires c).After-data_of-ds)
