use Rattle.std.proofs.Common.{length, ◌-◌, ◌≡◌, ◌≤◌, ◌<◌}
use Rattle.std.specs.Io.KnownBytes.{Consumes}
use Rattle.session_protocol.specs.Reads.{NoneFailed, TakesAtMost}
use Rattle.session_protocol.specs.Start.{Told}
use Rattle.session_protocol.proofs.hearing.hear_map.Given as goal

abbrev pub invariant-map : goal.invariant-map
invariant-map g l = record {
  taken : Consumes (g.R.Source.left l.fn.reader) (g.R.Source.left l.reader) l.text.items;
  within : length l.text.items ≤ l.most;
  told : Told l.text.items l.lines l.wanted;
  unfinished : l.lines < l.wanted;
  well : NoneFailed g.R.Source.gives l.fn.reader l.reader;
  took : TakesAtMost g.R.Source.gives (length l.text.items) l.fn.reader l.reader;
  sound : g.R.Source.failed l.reader ≡ g.R.Source.failed l.fn.reader;
}

abbrev pub decreases-map : goal.decreases-map
decreases-map g l = l.most - length l.text.items
