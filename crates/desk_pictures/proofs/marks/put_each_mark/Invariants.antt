use Rattle.std.proofs.Common.{◌≡◌, ℕ, List, drop}
use Rattle.std.specs.Prelude.{Option, None}
use Rattle.std.specs.Io.KnownBytes.{Appends}
use Rattle.plan_table.specs.Route.{tracks_of}
use Rattle.desk_pictures.specs.Marks.{marks_behind}
use Rattle.desk_pictures.proofs.marks.put_each_mark.Given as goal

abbrev pub invariant-loop-entry : goal.invariant-loop-entry
invariant-loop-entry g l = record {
  out : (after : Option (List ℕ)) → Appends (g.W.Sink.held l.sink) after (marks_behind l.frame.at (tracks_of l.scene.mode l.scene.rows) l.before (drop l.entry-index l.entries)) → Appends (g.W.Sink.held l.fn.sink) after (marks_behind l.frame.at (tracks_of l.scene.mode l.scene.rows) None l.entries);
  sound : g.W.Sink.broken l.sink ≡ g.W.Sink.broken l.fn.sink;
}
