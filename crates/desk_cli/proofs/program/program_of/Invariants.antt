use Rattle.std.proofs.Common.{take}
use Rattle.std.specs.List.{AllZip}
use Rattle.desk_cli.proofs.Building.{IsOf}
use Rattle.desk_cli.proofs.program.program_of.Given as goal

abbrev pub invariant-loop-word : goal.invariant-loop-word
invariant-loop-word l = AllZip IsOf (take l.word-index l.words) l.commands.items
