use Rattle.std.proofs.Common.{sym, arith}
use Rattle.path_files.proofs.JsonLemmas.{data_some, data_none}
use Rattle.path_files.proofs.robots.data_in.Goals as goal

pub returns-in-Ok-clause-is : goal.returns-in-Ok-clause-is
returns-in-Ok-clause-is c = sym (data_some c.args.text.now _ c.in-Ok.ensures.ok.0 c.in-Ok.ensures.ok.1)

pub returns-else-is_memory-clause-is : goal.returns-else-is_memory-clause-is
returns-else-is_memory-clause-is c =
    sym (data_none c.args.text.now (c.in-Err.ensures.err (λ memory. let told = c.if-is_memory.ensures.1 memory in grind arith)))
