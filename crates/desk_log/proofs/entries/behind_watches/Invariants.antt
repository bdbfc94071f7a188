use Rattle.std.proofs.Common.{◌≡◌, ◌+◌, ◌++◌, List, length}
use Rattle.std.specs.List.{All, flat_map}
use Rattle.scene_edits.specs.declared.changes.Thing.{Thing}
use Rattle.desk_report.specs.LineText.{line_text}
use Rattle.journal_text.specs.Lines.{watch_words}
use Rattle.journal_text.specs.Ranges.{IsThing}
use Rattle.desk_log.proofs.entries.behind_watches.Given as goal

-- the lines so far, and what stands behind them
abbrev pub invariant-lines : goal.invariant-lines
invariant-lines l = (list : List Thing) × (length list + l.left ≡ l.count) × All IsThing list × (l.text ≡ flat_map (λ thing. line_text (watch_words thing)) list ++ l.rest)

abbrev pub decreases-lines : goal.decreases-lines
decreases-lines l = l.left
