use Rattle.std.proofs.Common.{◌≡◌, length}
use Rattle.path_files.specs.Lines.{behind_blanks}
use Rattle.path_files.proofs.lines.behind_blanks.Given as goal

abbrev pub invariant-loop-rest : goal.invariant-loop-rest
invariant-loop-rest l = behind_blanks l.rest ≡ behind_blanks l.line

abbrev pub decreases-loop-rest : goal.decreases-loop-rest
decreases-loop-rest l = length l.rest
