use Rattle.path_files.proofs.LineLemmas.{behind_is}
use Rattle.path_files.proofs.lines.behind.Goals as goal

pub returns-clause-is : goal.returns-clause-is
returns-clause-is c = behind_is c.args.prefix.now c.args.text.now c.strip_prefix.result c.strip_prefix.ensures.cases
