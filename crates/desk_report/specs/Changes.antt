-- What changed from one report to a later one: the difference of the two, whatever came and went in between (this project's choice).
use Rattle.std.specs.Prelude.{◌≡◌, ◌⊎◌, ◌↔◌, ℕ, List, [], ◌∷◌, Contains, length, map}
use Rattle.plan_table.specs.Order.{ListsAll}
use Rattle.mapf_rules.specs.ConflictList.{listing_key}
use Rattle.mapf_rules.specs.Visits.{visit_key}
use Rattle.desk_report.specs.declared.reports.AgentLine.{AgentLine}
use Rattle.desk_report.specs.declared.reports.Report.{Report}
use Rattle.desk_report.specs.declared.changed.Changes.{Changes}

-- the elements of these that aren't among those, ascending by their key
abbrev pub AreOnlyIn : {X : Type 0} → (X → List ℕ) → List X → List X → List X → Type 0
AreOnlyIn key these those list = ListsAll key (λ x. Contains these x × (Contains those x → ⊥)) list

-- agents, and their lines, are listed by the agent's number
abbrev pub agent_key : ℕ → List ℕ
agent_key agent = agent ∷ []

abbrev pub line_key : AgentLine → List ℕ
line_key line = line.agent ∷ []

-- the agents of lines
abbrev pub agents_in_lines : List AgentLine → List ℕ
agents_in_lines lines = map (λ line. line.agent) lines

-- what came: of each list of the later report what the earlier one hasn't, and the later one's totals
pub record HasCome (old new came : Report) : Type 0 where
  pub lines : AreOnlyIn line_key new.lines old.lines came.lines
  pub conflicts : AreOnlyIn listing_key new.conflicts old.conflicts came.conflicts
  pub visits : AreOnlyIn visit_key new.visits old.visits came.visits
  pub sum : came.sum ≡ new.sum
  pub makespan : came.makespan ≡ new.makespan
  pub bounds : came.bounds ≡ new.bounds
  pub total_gap : came.total_gap ≡ new.total_gap

-- what changed: how many agents, conflicts and blocked visits the later report has, which of the earlier one's went, and what came
pub record AreDifferences (old new : Report) (changes : Changes) : Type 0 where
  pub agents : changes.agents ≡ length new.lines
  pub conflicts : changes.conflicts ≡ length new.conflicts
  pub blocked : changes.blocked ≡ length new.visits
  pub gone_agents : AreOnlyIn agent_key (agents_in_lines old.lines) (agents_in_lines new.lines) changes.gone_agents
  pub gone_conflicts : AreOnlyIn listing_key old.conflicts new.conflicts changes.gone_conflicts
  pub gone_visits : AreOnlyIn visit_key old.visits new.visits changes.gone_visits
  pub came : HasCome old new changes.came
