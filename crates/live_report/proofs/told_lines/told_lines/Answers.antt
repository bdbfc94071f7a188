use Rattle.std.proofs.Common.{◌≡◌, [], arith}
use Rattle.std.proofs.lemmas.Grind.{common_steps}
use Rattle.std.proofs.lemmas.List.{nil_from_length}
use Rattle.live_report.proofs.Telling.{lines_told}
use Rattle.live_report.proofs.told_lines.told_lines.Goals as goal

pub returns-in_ok-from_slice-clause-lines : goal.returns-in_ok-from_slice-clause-lines
returns-in_ok-from_slice-clause-lines c = λ grid rows known are.
    let none : c.args.visits.now ≡ [] = nil_from_length c.args.visits.now (grind (arith, common_steps)) in
    rw c.in_ok-from_slice.ensures.items (lines_told grid rows c.args.lines.now (rw none at known) are)
