use Rattle.std.proofs.Common.{rules}
use Rattle.solver_check.specs.Opens.{bytes_of}
use Rattle.single_runs.proofs.Stopping.{stops}
use Rattle.single_runs.proofs.drawing.run_draw.Goals as goal

pub returns-in-Ok-clause-err : goal.returns-in-Ok-clause-err
returns-in-Ok-clause-err g c =
    stops c.args.problem.map.now (bytes_of c.args.problem.scen) c.args.problem.agents c.args.problem.mode c.args.courses c.in-Ok.desk.scene c.draw_scene-drawn.result (search rules) c.draw_scene-drawn.ensures.err

pub returns-in-Ok-planned_scene-clause-err : goal.returns-in-Ok-planned_scene-clause-err
returns-in-Ok-planned_scene-clause-err g c =
    stops c.args.problem.map.now (bytes_of c.args.problem.scen) c.args.problem.agents c.args.problem.mode c.args.courses c.in-Ok-planned_scene.scene c.draw_scene-drawn-in-Ok-planned_scene.result (search rules) c.draw_scene-drawn-in-Ok-planned_scene.ensures.err
