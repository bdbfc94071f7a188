use Rattle.std.proofs.Common.{◌≡◌, take}
use Rattle.std.specs.List.{filter}
use Rattle.desk_report.specs.Cut.{is_one}
use Rattle.live_report.proofs.cuts.lines_of.Given as goal

abbrev pub invariant-loop-line : goal.invariant-loop-line
invariant-loop-line l = l.kept.items ≡ filter (λ line. is_one l.agents line.agent) (take l.line-index l.lines)
