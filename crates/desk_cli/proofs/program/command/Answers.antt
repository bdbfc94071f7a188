use Rattle.std.proofs.Common.{refl}
use Rattle.desk_cli.proofs.Found.{made_program}
use Rattle.desk_cli.proofs.program.command.Goals as goal

pub returns : goal.returns
returns c = made_program _ _ c.program_of.result c.program_of.ensures refl refl refl
