use Rattle.std.proofs.Common.{drop, length-drop, inl, sym, ◌∙◌, arith}
use Rattle.path_files.proofs.JsonLemmas.{paths_full}
use Rattle.path_files.proofs.members.paths_of.Goals as goal

pub returns-then-agent-clause-is : goal.returns-then-agent-clause-is
returns-then-agent-clause-is c =
    let left = drop c.loop-value.value-index c.args.list.now in
    inl (sym (c.loop-value.invariant.so_far ∙ paths_full c.args.starts.now c.loop-value.paths.items left (omega (arith, length-drop c.loop-value.value-index c.args.list.now)) (omega arith)))
