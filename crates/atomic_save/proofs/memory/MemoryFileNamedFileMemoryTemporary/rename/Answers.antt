use Rattle.std.proofs.Common.{Some}
use Rattle.atomic_save.specs.Memory.{content_of, contents_of}
use Rattle.atomic_save.proofs.Moments.{replaces, replaced_by}
use Rattle.atomic_save.proofs.memory.MemoryFileNamedFileMemoryTemporary.rename.Goals as goal

pub returns-in-Ok-append-clause-ends : goal.returns-in-Ok-append-clause-ends
returns-in-Ok-append-clause-ends c told =
    let file = c.args.self.now in
    replaced_by (content_of file.content) c.args.file.bytes.items c.args.file.synced.items file.unsettled.items c.append.new.self.items c.in-Ok.ends.items c.in-Ok-append.ensures.items c.in-Ok.ensures

pub returns-in-Ok-append-clause-time : goal.returns-in-Ok-append-clause-time
returns-in-Ok-append-clause-time c told =
    let file = c.args.self.now in
    replaces (content_of file.content) (Some c.args.file.bytes.items) (Some c.args.file.synced.items) file.unsettled.items c.append.new.self.items c.in-Ok.ends.items (contents_of file.past.items) c.in-Ok-append.ensures.items c.in-Ok.ensures
