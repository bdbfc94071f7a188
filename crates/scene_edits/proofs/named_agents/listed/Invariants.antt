use Rattle.std.proofs.Common.{◌≡◌, ◌++◌, map}
use Rattle.scene_edits.specs.Formers.{former_of}
use Rattle.scene_edits.proofs.named_agents.listed.Given as goal

abbrev pub invariant-loop-agent : goal.invariant-loop-agent
invariant-loop-agent l = l.formers.items ++ map former_of l.agent-iterator ≡ map former_of l.rows.entries
