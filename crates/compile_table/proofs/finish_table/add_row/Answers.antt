-- The row is that of the state's first edges.
use Rattle.laws.proofs.All.{◌∙◌}
use Rattle.compile_table.proofs.Tables.{keys-long, key-lt, key-inside}
use Rattle.compile_table.proofs.finish_table.add_row.Goals as goal

pub put_row-requires : goal.put_row-requires
put_row-requires c =
    let p = c.args in
    let n = keys-long p.n p.g c.requires.0 p.t c.requires.1 in
    let e = c.as_slice.ensures.answer ∙ c.first_edges-list.ensures.answer.0 in
    rw (e, n) (
      c.requires.0.few,
      c.requires.2,
      λ d h. (
        key-lt p.n p.g c.requires.0 p.t c.requires.1 d h,
        c.requires.3 _ (key-inside p.n p.g c.requires.0 p.t c.requires.1 d h),
      ),
    )

pub returns : goal.returns
returns c =
    let p = c.args in
    let n = keys-long p.n p.g c.requires.0 p.t c.requires.1 in
    let e = c.as_slice.ensures.answer ∙ c.first_edges-list.ensures.answer.0 in
    record { answer = rw (e, n) at c.put_row.ensures.answer }
