-- For memory m the least lookahead is found by steps; it is taken if the pairs of a clash are gone in time.
use Rattle.std.proofs.Common.{rules, ◌≡◌, ◌≤◌, ◌<◌, None}
use Rattle.laws.proofs.All.{ap, subst, ◌∙◌, arith, length}
use Rattle.table.specs.Paths.{Closed}
use Rattle.window.specs.Search.{hits, pasts}
use Rattle.table.specs.Edges.{rows_of}
use Rattle.table.specs.Lent.{edges_in}
use Rattle.table.proofs.RowsOf.{length-rows, closed-rows}
use Rattle.window.specs.Steps.{steps_of, Emptied}
use Rattle.window.proofs.Lookahead.{fails-sooner, works-there}
use Rattle.window.proofs.Leading.{lead-take, lead-skip}
use Rattle.window_search.specs.Finding.{found_size}
use Rattle.window_search.proofs.try_memory.Goals.{After-lookahead_needed, Start}
use Rattle.window_search.proofs.try_memory.Goals as goal

closed : (s : Start) → Closed (rows_of (edges_in s.args.chains.now.edges))
closed s = closed-rows (edges_in s.args.chains.now.edges) s.args.chains.now.edges.fits

some : (s : Start) → 0 < length (rows_of (edges_in s.args.chains.now.edges))
some s = rw (length-rows (edges_in s.args.chains.now.edges)) s.args.chains.now.edges.fits.some

-- the steps taken are those of the pairs of a clash for memory m
gone : (c : After-lookahead_needed) → let t = rows_of (edges_in c.args.chains.now.edges) in
    let most = c.lookahead_limit-most.result in
    Emptied t (hits t (pasts t c.args.m)) most (steps_of most c.lookahead_needed.result)
gone c =
    let t = rows_of (edges_in c.args.chains.now.edges) in
    let most = c.lookahead_limit-most.result in
    subst (λ H. Emptied t H most (steps_of most c.lookahead_needed.result))
    (c.clashes.ensures.written.1 ∙ ap (hits t) c.requires.2) c.lookahead_needed.ensures.answer

pub returns-in-Some-clause-answer : goal.returns-in-Some-clause-answer
returns-in-Some-clause-answer c =
    let t = rows_of (edges_in c.args.chains.now.edges) in
    let m = c.args.m in
    let most = c.lookahead_limit-most.result in
    let a = c.in-Some.lookahead in
    let s = (goal.at.returns-in-Some-clause-answer c).Start in
    let e : Emptied t (hits t (pasts t m)) most a =
    subst (λ o. Emptied t (hits t (pasts t m)) most (steps_of most o)) c.in-Some.is
    (gone (goal.at.returns-in-Some-clause-answer c).After-lookahead_needed) in
    let h : a ≤ most = c.in-Some.ensures.within in
    lead-take t m (found_size c.args.best) c.requires.0 c.requires.3 most c.lookahead_limit-most.ensures.answer a h
    (works-there t (closed s) (some s) m most a e h) (fails-sooner t (closed s) (some s) m most a e)

pub returns-clause-answer : goal.returns-clause-answer
returns-clause-answer c =
    let t = rows_of (edges_in c.args.chains.now.edges) in
    let m = c.args.m in
    let most = c.lookahead_limit-most.result in
    let s = (goal.at.returns-clause-answer c).Start in
    let z : c.lookahead_needed.result ≡ None = search rules in
    let e : Emptied t (hits t (pasts t m)) most (steps_of most None) =
    subst (λ o. Emptied t (hits t (pasts t m)) most (steps_of most o)) z
    (gone (goal.at.returns-clause-answer c).After-lookahead_needed) in
    lead-skip t m (found_size c.args.best) c.requires.0 c.requires.3 most c.lookahead_limit-most.ensures.answer
    (λ k l. fails-sooner t (closed s) (some s) m most _ e k (omega arith))
