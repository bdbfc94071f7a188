use Rattle.std.proofs.Common.{◌≡◌, ◌+◌, ◌≤◌, length}
use Rattle.journal_text.proofs.PlaceLines.{place_lines}
use Rattle.journal_text.proofs.BadLines.{Stands}
use Rattle.journal_text.proofs.reading.read_journal.Given as goal

abbrev pub invariant-lines : goal.invariant-lines
invariant-lines l = record {
  stands : Stands l.text l.place l.rest;
  count : length (place_lines l.place) ≡ l.read;
  bound : l.read + l.read + length l.rest ≤ length l.text;
}

abbrev pub decreases-lines : goal.decreases-lines
decreases-lines l = length l.rest
