-- `put_ending` meets its contract, for a table and for a refusal.
use Rattle.trace.proofs.endings.put_ending.Goals as goal

pub returns-in-Err : goal.returns-in-Err
returns-in-Err c = record { written = rw c.in-Err.is c.put_refusal_line.ensures.written }

pub returns-in-Ok : goal.returns-in-Ok
returns-in-Ok c = record { written = rw c.in-Ok.is c.put_sentence.ensures.written }
