use Rattle.std.proofs.Common.{◌≡◌, ◌++◌, ◌∷◌, [], List, ℕ, map, ap, ◌∙◌, refl, arith}
use Rattle.std.proofs.lemmas.List.Elements.{All-nil, All-push}
use Rattle.desk_report.specs.LineText.{cell_text}
use Rattle.journal_text.specs.Ranges.{IsCell}
use Rattle.desk_log.specs.Spaced.{spaced}
use Rattle.desk_log.proofs.Spelled.{one-more-cell}
use Rattle.desk_log.proofs.edits.behind_cells.Goals as goal

pub cells-init : goal.cells-init
cells-init c = ([], All-nil IsCell, refl)

pub cells-preserved : goal.cells-preserved
cells-preserved c =
    let so_far = c.cells.invariant in
    let found = c.in-Some.ensures in (
      so_far.0 ++ found.0 ∷ [],
      All-push IsCell so_far.0 found.0 so_far.1 found.1,
      so_far.2 ∙ ap (λ (t : List ℕ). spaced (map cell_text so_far.0) t) found.2 ∙ one-more-cell so_far.0 found.0 c.in-Some.after.now,
    )
