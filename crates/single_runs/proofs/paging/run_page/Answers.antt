use Rattle.std.proofs.Common.{rules}
use Rattle.solver_check.specs.Opens.{bytes_of}
use Rattle.single_runs.proofs.Stopping.{stops, stops_within}
use Rattle.single_runs.proofs.paging.run_page.Goals as goal

pub returns-in-Ok-clause-err : goal.returns-in-Ok-clause-err
returns-in-Ok-clause-err g c =
    stops c.args.problem.map.now (bytes_of c.args.problem.scen) c.args.problem.agents c.args.problem.mode c.args.courses c.in-Ok.desk.scene c.page_scene-paged.result (search rules) c.page_scene-paged.ensures.err

pub returns-in-Ok-clause-front : goal.returns-in-Ok-clause-front
returns-in-Ok-clause-front g c =
    stops_within c.args.problem.map.now (bytes_of c.args.problem.scen) c.args.problem.agents c.args.problem.mode c.args.courses c.args.page.now (g.W.Sink.held c.args.writer.now) (g.W.Sink.held c.page_scene-paged.new.writer) c.in-Ok.desk.scene c.page_scene-paged.result (search rules) (rw c.scene.ensures at c.page_scene-paged.ensures.front)

pub returns-in-Ok-planned_scene-clause-err : goal.returns-in-Ok-planned_scene-clause-err
returns-in-Ok-planned_scene-clause-err g c =
    stops c.args.problem.map.now (bytes_of c.args.problem.scen) c.args.problem.agents c.args.problem.mode c.args.courses c.in-Ok-planned_scene.scene c.page_scene-paged-in-Ok-planned_scene.result (search rules) c.page_scene-paged-in-Ok-planned_scene.ensures.err

pub returns-in-Ok-planned_scene-clause-front : goal.returns-in-Ok-planned_scene-clause-front
returns-in-Ok-planned_scene-clause-front g c =
    stops_within c.args.problem.map.now (bytes_of c.args.problem.scen) c.args.problem.agents c.args.problem.mode c.args.courses c.args.page.now (g.W.Sink.held c.args.writer.now) (g.W.Sink.held c.page_scene-paged-in-Ok-planned_scene.new.writer) c.in-Ok-planned_scene.scene c.page_scene-paged-in-Ok-planned_scene.result (search rules) c.page_scene-paged-in-Ok-planned_scene.ensures.front
