use Rattle.std.proofs.Common.{ap, ◌∙◌}
use Rattle.bench_reader.specs.Words.{number_of}
use Rattle.journal_text.proofs.Grammar.{number_of-decimal}
use Rattle.journal_text.proofs.lines.small_of.Goals as goal

pub returns : goal.returns
returns c = λ number small same. c.number_of.ensures ∙ ap number_of same ∙ number_of-decimal number small
