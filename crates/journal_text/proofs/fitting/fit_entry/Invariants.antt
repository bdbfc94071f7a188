use Rattle.std.proofs.Common.{◌+◌, ◌≤◌, length}
use Rattle.journal_text.proofs.BadLines.{Stands}
use Rattle.journal_text.proofs.Fitted.{behind_first}
use Rattle.journal_text.proofs.fitting.fit_entry.Given as goal

abbrev pub invariant-lines : goal.invariant-lines
invariant-lines l = record {
  stands : Stands (behind_first l.text) l.place l.rest;
  bound : l.read + l.read + length l.rest ≤ length l.text;
}

abbrev pub decreases-lines : goal.decreases-lines
decreases-lines l = length l.rest
