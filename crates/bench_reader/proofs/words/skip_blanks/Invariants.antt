use Rattle.std.proofs.Common.{◌≡◌, length}
use Rattle.bench_reader.specs.Words.{words_of}
use Rattle.bench_reader.proofs.words.skip_blanks.Given as goal

abbrev pub invariant-loop-rest : goal.invariant-loop-rest
invariant-loop-rest l = words_of l.rest ≡ words_of l.line

abbrev pub decreases-loop-rest : goal.decreases-loop-rest
decreases-loop-rest l = length l.rest
