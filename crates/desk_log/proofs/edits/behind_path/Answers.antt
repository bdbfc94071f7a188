use Rattle.std.proofs.Common.{◌≡◌, ◌++◌, ◌∷◌, [], List, ℕ, map, codes, decimal, sym, ap, ◌∙◌, arith}
use Rattle.scene_edits.specs.declared.edits.Edit.TheVariants.{Path}
use Rattle.desk_report.specs.LineText.{cell_text}
use Rattle.desk_log.specs.Spaced.{spaced}
use Rattle.desk_log.proofs.Spelled.{line_is}
use Rattle.desk_log.proofs.edits.behind_path.Goals as goal

pub returns : goal.returns
returns c = (
  Path c.in_ok-agent.agent c.in_ok-end.ensures.0,
  (omega (arith, c.in_ok-agent.ensures.0, c.from.ensures), c.in_ok-end.ensures.1),
  c.in_ok-name.ensures ∙ ap (λ (t : List ℕ). codes "path" ++ t) (c.in_ok-agent.ensures.1 ∙ ap (λ (t : List ℕ). 32 ∷ (decimal c.in_ok-agent.agent ++ t)) (c.in_ok-end.ensures.2 ∙ ap (λ (t : List ℕ). spaced (map cell_text c.in_ok-end.ensures.0) t) (c.in_ok-rest.ensures))) ∙ sym (line_is (codes "path") (decimal c.in_ok-agent.agent ∷ map cell_text c.in_ok-end.ensures.0) c.in_ok-rest.rest.now),
)
