use Rattle.atomic_save.specs.Memory.{content_of}
use Rattle.atomic_save.proofs.Moments.{settles}
use Rattle.atomic_save.proofs.memory.MemoryFileNamedFileMemoryTemporary.sync_folder.Goals as goal

pub returns-in-Ok-clause-time : goal.returns-in-Ok-clause-time
returns-in-Ok-clause-time c told =
    let file = c.args.self.now in
    settles (content_of file.content) file.unsettled.items file.past.items c.append.new.self.items c.append.new.other.items c.in-Ok.ensures.items c.in-Ok.ensures.other_items
