use Rattle.std.proofs.Common.{◌≡◌, ◌++◌, ◌∷◌, [], List, ℕ, map, codes, decimal, sym, ap, ◌∙◌, arith}
use Rattle.scene_edits.specs.declared.changes.Thing.TheVariants as things
use Rattle.desk_report.specs.LineText.{cell_text}
use Rattle.desk_log.proofs.Spelled.{line_is}
use Rattle.desk_log.proofs.edits.behind_watched_agent.Goals as goal

pub returns : goal.returns
returns c = (
  things.Agent c.in_ok-agent.agent,
  omega (arith, c.in_ok-agent.ensures.0, c.from.ensures),
  c.in_ok-name.ensures ∙ ap (λ (t : List ℕ). codes "watch agent" ++ t) (c.in_ok-agent.ensures.1 ∙ ap (λ (t : List ℕ). 32 ∷ (decimal c.in_ok-agent.agent ++ t)) (c.in_ok-rest.ensures)) ∙ sym (line_is (codes "watch") (codes "agent" ∷ decimal c.in_ok-agent.agent ∷ []) c.in_ok-rest.rest.now),
)
