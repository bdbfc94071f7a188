use Rattle.std.proofs.Common.{arith, inr}
use Rattle.desk_io.proofs.Reading.{one_more_told, unread_at}
use Rattle.desk_io.proofs.files.all_bytes.Goals as goal

pub returns-in-Err-clause-unread : goal.returns-in-Err-clause-unread
returns-in-Err-clause-unread g c = inr (unread_at c.args.files.now c.loop-file.file-index c.in-Err.fault _ (omega (arith, c.loop-file-test.true)) c.in-Err.ensures.unread)

pub loop-file-preserved : goal.loop-file-preserved
loop-file-preserved g c = rw c.in_default.ensures.items (one_more_told (g.F.Folder.holds c.args.folder.now) c.args.files.now c.loop-file.file-index c.loop-file.all.items c.in-Ok.bytes _ (omega (arith, c.loop-file-test.true)) c.loop-file.invariant c.in-Ok.ensures.read)
