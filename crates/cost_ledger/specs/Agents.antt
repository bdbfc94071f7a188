-- The visits of one agent in a list (this project's choice of words).
use Rattle.std.specs.Prelude.{ℕ, List, [], ◌∷◌, nat_eq, if◌then◌else◌}
use Rattle.mapf_rules.specs.declared.visits.Visit.{Visit}

-- the visits of the agent before the first of another
abbrev pub front_of : ℕ → List Visit → List Visit
front_of agent [] = []
front_of agent (visit ∷ later) = if nat_eq visit.agent agent then visit ∷ front_of agent later else []
