use Rattle.std.proofs.Common.{take}
use Rattle.std.specs.List.{AllZip}
use Rattle.desk_cli.proofs.Building.{IsFor}
use Rattle.desk_cli.proofs.program.command_of.Given as goal

abbrev pub invariant-loop-argument : goal.invariant-loop-argument
invariant-loop-argument l = AllZip IsFor (take l.argument-index l.word.arguments.now) l.arguments.items
