-- AGENT.. of a session line (this project's choice).
use Rattle.std.specs.Prelude.{ℕ, Option, Some, List, [], ◌∷◌}
use Rattle.session_lines.specs.Values.{with_both, agent_of}

-- each word is an agent
abbrev pub agents_named : List (List ℕ) → Option (List ℕ)
agents_named [] = Some []
agents_named (word ∷ words) = with_both (λ agent agents. agent ∷ agents) (agent_of word) (agents_named words)
