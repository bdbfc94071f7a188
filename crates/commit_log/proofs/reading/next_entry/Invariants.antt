use Rattle.std.proofs.Common.{◌≡◌, ◌++◌, true, List, ℕ, length}
use Rattle.std.specs.List.{list_all}
use Rattle.commit_log.specs.Lines.{is_entry_line, lines_text}
use Rattle.commit_log.proofs.reading.next_entry.Given as goal

-- the lines so far, and what stands behind them
abbrev pub invariant-lines : goal.invariant-lines
invariant-lines l = (lines : List (List ℕ)) × (list_all is_entry_line lines ≡ true) × (l.text ≡ lines_text lines ++ l.rest) × (l.at ≡ length (lines_text lines))

abbrev pub decreases-lines : goal.decreases-lines
decreases-lines l = length l.rest
