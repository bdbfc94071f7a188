use Rattle.solver_check.specs.Opens.{bytes_of}
use Rattle.mapf_desk.proofs.Unsent.{undrilled}
use Rattle.mapf_desk.proofs.drilling.drill_counted.Goals as goal

pub returns-clause-refused : goal.returns-clause-refused
returns-clause-refused g c =
    undrilled c.args.words.now (bytes_of c.args.texts.map) (bytes_of c.args.texts.scen) c.args.scripts.items _ _
    c.drill_onto-drilled.result c.finish-ended.result c.drill_onto-drilled.ensures.drilled c.drill_onto-drilled.ensures.refused c.finish-ended.ensures.err c.finish-ended.ensures.unsent
