use Rattle.std.proofs.Common.{◌≡◌, [], drop}
use Rattle.serde_json.specs.View.{items_view}
use Rattle.path_files.specs.Robots.{starts_from}
use Rattle.path_files.proofs.members.starts_of.Given as goal

abbrev pub invariant-loop-value : goal.invariant-loop-value
invariant-loop-value l = starts_from [] (items_view l.list) ≡ starts_from l.starts.items (items_view (drop l.value-index l.list))
