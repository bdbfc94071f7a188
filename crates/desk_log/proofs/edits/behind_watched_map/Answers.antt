use Rattle.std.proofs.Common.{◌≡◌, ◌++◌, ◌∷◌, [], List, ℕ, map, codes, decimal, sym, ap, ◌∙◌, arith}
use Rattle.scene_edits.specs.declared.changes.Thing.TheVariants as things
use Rattle.desk_report.specs.LineText.{cell_text}
use Rattle.desk_log.proofs.Spelled.{line_is}
use Rattle.desk_log.proofs.edits.behind_watched_map.Goals as goal

pub returns : goal.returns
returns c = (
  things.Map,
  tt,
  c.in_ok-name.ensures ∙ ap (λ (t : List ℕ). codes "watch map" ++ t) (c.in_ok-rest.ensures) ∙ sym (line_is (codes "watch") (codes "map" ∷ []) c.in_ok-rest.rest.now),
)
