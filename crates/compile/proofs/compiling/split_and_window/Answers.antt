-- `split_and_window` meets its contract: splitting ends with n ways out of each state or with too many edges, and the
-- table of the finished graph, with its data, is the job's.
use Rattle.std.proofs.Common.{◌≤◌}
use Rattle.laws.proofs.All.{sym, ◌∙◌, arith}
use Rattle.compile_job.specs.JobValues.{job_in}
use Rattle.compile.proofs.CompileSteps.{compile-crowded, begun-splits, begun-crowded, begun-finished}
use Rattle.compile.proofs.CompileTable.{table-ready, table-code}
use Rattle.compile.proofs.compiling.split_and_window.Goals as goal

pub split_all-requires : goal.split_all-requires
split_all-requires c =
    let a = c.args in
    begun-splits (job_in a.j) c.requires.0.allowed a.n a.g a.start c.requires.1

pub returns-in_default : goal.returns-in_default
returns-in_default c =
    let a = c.args in
    record {
      answer = sym (compile-crowded (job_in a.j) c.requires.1.some c.requires.1.light
          (begun-crowded (job_in a.j) c.requires.0.allowed a.n a.g a.start c.requires.1 c.in_default.ensures.answer));
      kept = tt;
    }

pub finish_table-requires : goal.finish_table-requires
finish_table-requires c =
    let a = c.args in
    begun-finished (job_in a.j) c.requires.0.allowed a.n a.g a.start c.requires.1 c.in-Some.h c.in-Some.ensures.answer

pub relabel-rows-requires : goal.relabel-rows-requires
relabel-rows-requires c =
    let a = c.args in
    let few : a.n ≤ 16 = (begun-finished (job_in a.j) c.requires.0.allowed a.n a.g a.start c.requires.1
    c.in-Some.h c.in-Some.ensures.answer).few in
    (omega arith, c.finish_table.ensures.answer.few)

pub with_window-requires : goal.with_window-requires
with_window-requires c =
    let a = c.args in
    let f = c.finish_table in
    let l = c.relabel-rows in
    table-ready a.j c.requires.0 a.n a.g a.start c.requires.1 c.in-Some.h c.in-Some.ensures.answer
    f.result f.ensures.answer l.result l.ensures.answer

pub returns : goal.returns
returns c =
    let a = c.args in
    let f = c.finish_table in
    let l = c.relabel-rows in
    record {
      answer = c.with_window.ensures.answer
          ∙ table-code a.j c.requires.0 a.n a.g a.start c.requires.1 c.in-Some.h c.in-Some.ensures.answer
          f.result f.ensures.answer l.result l.ensures.answer;
      kept = c.with_window.ensures.kept;
    }
