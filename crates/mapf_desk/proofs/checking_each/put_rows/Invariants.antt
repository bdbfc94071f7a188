use Rattle.std.proofs.Common.{◌≡◌, drop, take}
use Rattle.std.specs.List.{flat_map}
use Rattle.std.specs.Io.KnownBytes.{Appends}
use Rattle.mapf_desk.specs.Rows.{worst, worst_from}
use Rattle.mapf_desk.proofs.checking_each.put_rows.Given as goal

abbrev pub invariant-loop-row : goal.invariant-loop-row
invariant-loop-row g l = record {
  out : Appends (g.W.Sink.held l.fn.writer) (g.W.Sink.held l.writer) (flat_map (λ row. row.text.items) (take l.row-index l.rows));
  worst_so_far : worst_from l.end (drop l.row-index l.rows) ≡ worst l.rows;
}
