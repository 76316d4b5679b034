-- `put_stages` meets its contract: each return follows the checks of compiling, in document 01's order.
use Rattle.trace.proofs.Begun.{splits-ready}
use Rattle.trace.proofs.StageTexts.{stages-none, stages-heavy, stages-crowded, stages-all}
use Rattle.trace.proofs.stages.put_stages.Goals as goal

pub returns-then-found-eq0 : goal.returns-then-found-eq0
returns-then-found-eq0 c = record { written = search stages-none }

pub returns-then-found-gt128 : goal.returns-then-found-gt128
returns-then-found-gt128 c = record { written = search stages-heavy }

pub returns-in-None : goal.returns-in-None
returns-in-None c = record { written = search stages-crowded }

pub put_splitting-requires : goal.put_splitting-requires
put_splitting-requires c = search splits-ready

pub returns-in-Some : goal.returns-in-Some
returns-in-Some c = record { written = search stages-all }
