use Rattle.std.proofs.Common.{◌≡◌, ◌++◌, length}
use Rattle.std.specs.Option.{option_map}
use Rattle.bench_reader.specs.Words.{words_of}
use Rattle.session_lines.specs.Agents.{agents_named}
use Rattle.session_lines.proofs.agents.agents_of.Given as goal

abbrev pub invariant-loop-word : goal.invariant-loop-word
invariant-loop-word l = agents_named (words_of l.line) ≡ option_map (λ more. l.agents.items ++ more) (agents_named (words_of l.rest))

abbrev pub decreases-loop-word : goal.decreases-loop-word
decreases-loop-word l = length (words_of l.rest)
