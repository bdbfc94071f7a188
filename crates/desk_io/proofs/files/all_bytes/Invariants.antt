use Rattle.std.proofs.Common.{take}
use Rattle.desk_io.specs.Texts.{AreTold}
use Rattle.desk_io.proofs.files.all_bytes.Given as goal

abbrev pub invariant-loop-file : goal.invariant-loop-file
invariant-loop-file g l = AreTold (g.F.Folder.holds l.folder) (take l.file-index l.files) l.all.items
