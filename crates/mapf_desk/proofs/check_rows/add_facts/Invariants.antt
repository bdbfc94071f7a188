use Rattle.std.proofs.Common.{◌≡◌, ◌++◌, length}
use Rattle.std.specs.List.{filter, flat_map}
use Rattle.bench_reader.specs.Lines.{lines_of}
use Rattle.mapf_desk.specs.Rows.{behind_comma, is_fact}
use Rattle.mapf_desk.proofs.check_rows.add_facts.Given as goal

abbrev pub invariant-loop-line : goal.invariant-loop-line
invariant-loop-line l =
    l.row.items ++ flat_map behind_comma (filter is_fact (lines_of l.rest)) ≡ l.fn.row.items ++ flat_map behind_comma (filter is_fact (lines_of l.text))

abbrev pub decreases-loop-line : goal.decreases-loop-line
decreases-loop-line l = length l.rest
