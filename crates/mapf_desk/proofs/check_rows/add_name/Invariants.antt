use Rattle.std.proofs.Common.{◌≡◌, ◌++◌, map, take}
use Rattle.solver_check.specs.Shown.{shown_letter}
use Rattle.mapf_desk.proofs.check_rows.add_name.Given as goal

abbrev pub invariant-loop-byte : goal.invariant-loop-byte
invariant-loop-byte l = l.row.items ≡ l.fn.row.items ++ map shown_letter (take l.byte-index l.byte-items)
