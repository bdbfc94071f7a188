use Rattle.std.proofs.Common.{◌≡◌, length}
use Rattle.bench_reader.specs.Words.{words_of}
use Rattle.session_lines.specs.Kinds.{kinds_after}
use Rattle.session_lines.proofs.kinds.kinds_after.Given as goal

abbrev pub invariant-loop-word : goal.invariant-loop-word
invariant-loop-word l = kinds_after l.fn.those (words_of l.line) ≡ kinds_after l.kinds (words_of l.rest)

abbrev pub decreases-loop-word : goal.decreases-loop-word
decreases-loop-word l = length (words_of l.rest)
