use Rattle.std.proofs.Common.{◌≡◌, ◌<◌, List, length, subst, rules, arith}
use Rattle.std.proofs.lemmas.Grind.{common_steps}
use Rattle.grid_cells.specs.Cell.{Point}
use Rattle.scene_edits.specs.Faults.{◌otherwise◌, too_long, jump}
use Rattle.scene_edits.specs.Board.{scene_of, FollowsPath}
use Rattle.scene_edits.proofs.PathEdits.{path_applied, path_refused}
use Rattle.scene_edits.proofs.boards.Board.set_path.Goals as goal

pub returns-in-Ok-clause-applied : goal.returns-in-Ok-clause-applied
returns-in-Ok-clause-applied c =
    let some : 0 < length c.args.cells.now = grind (arith, common_steps) in
    let cells : c.in_ok-cells.cells.items ≡ c.args.cells.now = search rules in
    path_applied (scene_of c.args.self.now) (scene_of c.follow.new.self) c.args.agent c.args.cells.now c.in-Some.row.now (search rules) (search rules) c.in-Ok.change some (search rules) (subst (λ (list : List Point). FollowsPath (scene_of c.args.self.now) c.args.agent list c.in-Ok.change (scene_of c.follow.new.self)) cells c.in-Ok.ensures.follows)

pub returns-in-Err-clause-applied : goal.returns-in-Err-clause-applied
returns-in-Err-clause-applied c =
    let some : 0 < length c.args.cells.now = grind (arith, common_steps) in
    let cells : c.in_ok-cells.cells.items ≡ c.args.cells.now = search rules in
    path_refused (scene_of c.args.self.now) (scene_of c.follow.new.self) c.args.agent c.args.cells.now c.in-Some.row.now (search rules) (search rules) c.in-Err.fault some (search rules) (subst (λ (list : List Point). (too_long list otherwise jump list) c.in-Err.fault) cells c.in-Err.ensures.fault) c.in-Err.ensures.unchanged
