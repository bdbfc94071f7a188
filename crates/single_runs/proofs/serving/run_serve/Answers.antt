use Rattle.std.proofs.Common.{Ok, Err}
use Rattle.single_runs.proofs.Running.{ran}
use Rattle.solver_check.proofs.Unserved.{session_told}
use Rattle.single_runs.proofs.serving.run_serve.Goals as goal

pub returns-in-Ok-ended-clause-runs : goal.returns-in-Ok-ended-clause-runs
returns-in-Ok-ended-clause-runs g c =
    let run = ran _ _ _ _ _ _ _ _ _ (Ok (c.in-Ok.desk, c.in-Ok.ended)) c.in-Ok.ensures.sits in
    rw c.in-Ok-ended.is at run

pub returns-in-Err-ended-clause-runs : goal.returns-in-Err-ended-clause-runs
returns-in-Err-ended-clause-runs g c =
    let run = ran _ _ _ _ _ _ _ _ _ (Ok (c.in-Ok.desk, c.in-Ok.ended)) c.in-Ok.ensures.sits in
    let told = rw c.in-Err-ended.is at run in
    rw c.from.ensures told

pub returns-in-Err-clause-runs : goal.returns-in-Err-clause-runs
returns-in-Err-clause-runs g c = ran _ _ _ _ _ _ _ _ _ (Err c.in-Err.fault) c.in-Err.ensures.sits

pub returns-in-Err-ended-clause-reads : goal.returns-in-Err-ended-clause-reads
returns-in-Err-ended-clause-reads g c =
    let read = rw c.in-Err-ended.is at c.in-Ok.ensures.reads in
    rw c.from.ensures (rw (session_told c.in-Err-ended.fault).0 read)
