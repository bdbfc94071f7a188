use Rattle.std.proofs.Common.{◌≡◌, ◌+◌, ◌++◌, List, length}
use Rattle.std.specs.List.{All, flat_map}
use Rattle.scene_edits.specs.declared.edits.Edit.{Edit}
use Rattle.desk_report.specs.LineText.{line_text}
use Rattle.journal_text.specs.Lines.{edit_words}
use Rattle.journal_text.specs.Ranges.{IsEdit}
use Rattle.desk_log.proofs.entries.behind_edits.Given as goal

-- the lines so far, and what stands behind them
abbrev pub invariant-lines : goal.invariant-lines
invariant-lines l = (list : List Edit) × (length list + l.left ≡ l.count) × All IsEdit list × (l.text ≡ flat_map (λ edit. line_text (edit_words edit)) list ++ l.rest)

abbrev pub decreases-lines : goal.decreases-lines
decreases-lines l = l.left
