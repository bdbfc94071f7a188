use Rattle.std.proofs.Common.{◌≡◌, List, subst, rules, arith}
use Rattle.grid_cells.specs.Cell.{Point}
use Rattle.scene_edits.specs.Edited.{continued}
use Rattle.scene_edits.specs.Faults.{◌otherwise◌, too_long, jump}
use Rattle.scene_edits.specs.Board.{scene_of, FollowsPath}
use Rattle.scene_edits.proofs.PathEdits.{tail_applied, tail_refused}
use Rattle.scene_edits.proofs.boards.Board.set_tail.Goals as goal

pub returns-in-Ok-clause-applied : goal.returns-in-Ok-clause-applied
returns-in-Ok-clause-applied c =
    let cells : c.in_ok-cells.cells.items ≡ continued c.in-Some.row.now.plan c.args.from c.args.cells.now = search rules in
    tail_applied (scene_of c.args.self.now) (scene_of c.follow.new.self) c.args.agent c.args.cells.now c.in-Some.row.now (search rules) (search rules) c.args.from c.in-Ok.change (omega (arith, c.last.ensures.is, c.number.ensures)) (subst (λ (list : List Point). FollowsPath (scene_of c.args.self.now) c.args.agent list c.in-Ok.change (scene_of c.follow.new.self)) cells c.in-Ok.ensures.follows)

pub returns-in-Err-clause-applied : goal.returns-in-Err-clause-applied
returns-in-Err-clause-applied c =
    let cells : c.in_ok-cells.cells.items ≡ continued c.in-Some.row.now.plan c.args.from c.args.cells.now = search rules in
    tail_refused (scene_of c.args.self.now) (scene_of c.follow.new.self) c.args.agent c.args.cells.now c.in-Some.row.now (search rules) (search rules) c.args.from c.in-Err.fault (omega (arith, c.last.ensures.is, c.number.ensures)) (subst (λ (list : List Point). (too_long list otherwise jump list) c.in-Err.fault) cells c.in-Err.ensures.fault) c.in-Err.ensures.unchanged
