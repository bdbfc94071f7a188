use Rattle.std.proofs.Common.{◌≡◌, ◌≤◌, [], drop, length}
use Rattle.scene_edits.specs.declared.scenes.TheConstants.{MOST_AGENTS}
use Rattle.serde_json.specs.View.{items_view}
use Rattle.path_files.specs.Robots.{paths_from}
use Rattle.path_files.proofs.members.paths_of.Given as goal

abbrev pub invariant-loop-value : goal.invariant-loop-value
invariant-loop-value l = record {
  so_far : paths_from l.starts [] (items_view l.list) ≡ paths_from l.starts l.paths.items (items_view (drop l.value-index l.list));
  few : length l.paths.items ≤ MOST_AGENTS;
}
