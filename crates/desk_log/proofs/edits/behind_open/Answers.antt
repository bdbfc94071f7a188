use Rattle.std.proofs.Common.{◌≡◌, ◌++◌, ◌∷◌, [], List, ℕ, map, codes, decimal, sym, ap, ◌∙◌, arith}
use Rattle.scene_edits.specs.declared.edits.Edit.TheVariants.{Open}
use Rattle.desk_report.specs.LineText.{cell_text}
use Rattle.desk_log.proofs.Spelled.{line_is}
use Rattle.desk_log.proofs.edits.behind_open.Goals as goal

pub returns : goal.returns
returns c = (
  Open c.in_ok-end.ensures.0,
  c.in_ok-end.ensures.1,
  c.in_ok-name.ensures ∙ ap (λ (t : List ℕ). codes "open" ++ t) (c.in_ok-end.ensures.2 ∙ ap (λ (t : List ℕ). 32 ∷ (cell_text c.in_ok-end.ensures.0 ++ t)) (c.in_ok-rest.ensures)) ∙ sym (line_is (codes "open") (cell_text c.in_ok-end.ensures.0 ∷ []) c.in_ok-rest.rest.now),
)
