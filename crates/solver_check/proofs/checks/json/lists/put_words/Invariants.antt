use Rattle.std.proofs.Common.{◌≡◌, take}
use Rattle.std.specs.List.{flat_map}
use Rattle.std.specs.Io.KnownBytes.{Appends}
use Rattle.desk_report.specs.Words.{word_text}
use Rattle.solver_check.proofs.checks.json.lists.put_words.Given as goal

abbrev pub invariant-loop-word : goal.invariant-loop-word
invariant-loop-word g l = record {
  out : Appends (g.W.Sink.held l.fn.sink) (g.W.Sink.held l.sink) (flat_map word_text (take l.word-index l.words));
  sound : g.W.Sink.broken l.sink ≡ g.W.Sink.broken l.fn.sink;
}
