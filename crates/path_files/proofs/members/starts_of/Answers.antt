use Rattle.std.proofs.Common.{drop, length-drop, inl, sym, ◌∙◌, arith}
use Rattle.path_files.proofs.JsonLemmas.{starts_full}
use Rattle.path_files.proofs.members.starts_of.Goals as goal

pub returns-then-agent : goal.returns-then-agent
returns-then-agent c =
    let left = drop c.loop-value.value-index c.args.list.now in
    inl (sym (c.loop-value.invariant ∙ starts_full c.loop-value.starts.items left (omega (arith, length-drop c.loop-value.value-index c.args.list.now)) (omega arith)))
