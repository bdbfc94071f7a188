use Rattle.std.proofs.Common.{length, ◌-◌, ◌≡◌, ◌≤◌, ◌<◌, false}
use Rattle.session_protocol.specs.Answer.{answering_in}
use Rattle.session_protocol.specs.Reads.{ReadsWithin}
use Rattle.session_protocol.proofs.Progress.{Progress}
use Rattle.session_protocol.proofs.serving.serve_lines.Given as goal

abbrev pub invariant-session : goal.invariant-session
invariant-session g l = record {
  so_far : Progress (answering_in l.version g.C.Counter.counting) (g.R.Source.left l.fn.reader) (g.R.Source.left l.reader) (g.W.Sink.held l.fn.writer) (g.W.Sink.held l.writer) (l.fn.session, l.fn.counter) (l.session, l.counter) l.line.items l.lines l.bytes;
  lines_within : l.lines ≤ l.bounds.lines;
  bytes_within : l.bytes ≤ l.bounds.bytes;
  room : 0 < length l.line.items → l.lines < l.bounds.lines;
  read : ReadsWithin g.R.Source.gives l.bytes l.fn.reader l.reader false;
  read_sound : g.R.Source.failed l.reader ≡ g.R.Source.failed l.fn.reader;
  write_sound : g.W.Sink.broken l.writer ≡ g.W.Sink.broken l.fn.writer;
  keep_sound : g.K.Keeper.has_failed l.keeper ≡ false;
  kept : g.K.Keeper.keeps l.fn.keeper l.fn.counter → g.K.Keeper.keeps l.keeper l.counter;
}

abbrev pub decreases-session : goal.decreases-session
decreases-session g l = l.bounds.bytes - l.bytes
