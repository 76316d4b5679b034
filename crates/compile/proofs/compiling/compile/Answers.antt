-- `compile` meets its contract: the refusal of the component by its weight and its edges, or what splitting comes to.
use Rattle.std.proofs.Common.{◌≡◌, ◌≤◌, ◌<◌}
use Rattle.laws.proofs.All.{sym, ap, ◌∙◌, Bool, true, false, not, sum}
use Rattle.answer.proofs.Outcomes.{handed_on}
use Rattle.compile_job.specs.JobValues.{job_in}
use Rattle.compile.specs.Compile.{component_of}
use Rattle.compile.proofs.CompileSteps.{weighed-bad, weighed-good, found-begun}
use Rattle.compile.proofs.compiling.compile.Goals.{In_ok-weigh}
use Rattle.compile.proofs.compiling.compile.Goals as goal

none-is : (s b : Bool) → s ≡ not b → b ≡ not s
none-is s true e = sym (ap not e)
none-is s false e = sym (ap not e)

-- the component can be split
good : (c : In_ok-weigh) → let j = job_in c.args.j in (0 < sum (component_of j).weights)
    × (sum (component_of j).weights ≤ 128) × (c.is_none.result ≡ false)
good c =
    let f = c.requires.1 in
    weighed-good (job_in c.args.j) _ _ f.total (none-is _ _ c.is_none.ensures ∙ f.crowds)
    (sym c.in_ok-weigh.ensures.answer)

pub returns-in_err-weigh : goal.returns-in_err-weigh
returns-in_err-weigh c =
    let f = c.requires.1 in
    rw (handed_on _ _ c.from_residual.ensures.1)
    (record {
      answer = sym (weighed-bad (job_in c.args.j) _ _ f.total (none-is _ _ c.is_none.ensures ∙ f.crowds) _
          (sym c.in_err-weigh.ensures.answer));
      kept = tt;
    })

pub unwrap-requires : goal.unwrap-requires
unwrap-requires c = c.is_none.ensures ∙ ap not (good (goal.at.unwrap-requires c).In_ok-weigh).2

pub split_and_window-requires : goal.split_and_window-requires
split_and_window-requires c =
    let (some, light, _) = good (goal.at.split_and_window-requires c).In_ok-weigh in
    (c.requires.0, found-begun _ _ _ _ c.requires.1 c.unwrap.ensures c.ways.ensures.answer.0 some light)

pub ways-requires : goal.ways-requires
ways-requires c = c.requires.0.allowed.p₂
