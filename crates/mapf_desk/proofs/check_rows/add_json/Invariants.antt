use Rattle.std.proofs.Common.{◌≡◌, ◌++◌, take}
use Rattle.mapf_desk.specs.Rows.{json_name}
use Rattle.mapf_desk.proofs.check_rows.add_json.Given as goal

abbrev pub invariant-loop-byte : goal.invariant-loop-byte
invariant-loop-byte l = l.row.items ≡ l.fn.row.items ++ json_name (take l.byte-index l.byte-items)
