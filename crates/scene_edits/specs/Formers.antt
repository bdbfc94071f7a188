-- The rows that agents had before edits (this project's choice).
use Rattle.std.specs.Prelude.{◌≡◌, ℕ, ◌<◌, Option, List, Contains}
use Rattle.std.specs.List.{AllPairs}
use Rattle.std.specs.Option.{option_map}
use Rattle.plan_table.specs.Plans.{row_of}
use Rattle.plan_table.specs.declared.plans.Row.{Row}
use Rattle.scene_edits.specs.declared.named_agents.Former.{Former}
use Rattle.scene_edits.specs.declared.named_agents.FormerRow.{FormerRow}
use Rattle.scene_edits.specs.declared.taking_back.Kept.{Kept}
use Rattle.scene_edits.specs.Kept.{Past, AreAlike, past_with}

-- a former row as a row of a table
abbrev pub as_row : FormerRow → Row
as_row former = record { goal = former.goal; plan = former.plan.now }

-- the same, with how far its path is known
abbrev pub as_past : FormerRow → Past
as_past former = record { row = as_row former; alike = former.alike }

-- the row that an agent had, if it had one, with how far its path is known
abbrev pub former_past : Former → Option Past
former_past former = past_with former.goal former.alike former.plan

-- the row that an agent had, if it had one
abbrev pub former_row : Former → Option Row
former_row former = option_map (λ (p : Past). p.row) (former_past former)

-- what is kept for an agent, as its former row
abbrev pub former_of : ℕ × Kept → Former
former_of entry = record { agent = entry.0; goal = entry.1.goal; alike = entry.1.alike; plan = entry.1.plan }

-- agents in their order, none twice, with the rows that they had, and how far their paths are those of now; an agent that isn't among them has the row that it had
pub record AreFormers (old new : List (ℕ × Row)) (formers : List Former) : Type 0 where
  pub rising : AllPairs (λ a b. a.agent < b.agent) formers
  pub was : (former : Former) → Contains formers former → row_of old former.agent ≡ former_row former
  pub alike : (former : Former) → Contains formers former → AreAlike (former_past former) (row_of new former.agent)
  pub others : (agent : ℕ) → ((former : Former) → Contains formers former → former.agent ≡ agent → ⊥) → row_of old agent ≡ row_of new agent
