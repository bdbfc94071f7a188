use Rattle.solver_check.specs.Opens.{bytes_of}
use Rattle.mapf_desk.proofs.Unsent.{undrawn}
use Rattle.mapf_desk.proofs.drawing.draw_texts.Goals as goal

pub returns-clause-refused : goal.returns-clause-refused
returns-clause-refused g c =
    undrawn c.args.words.now (bytes_of c.args.texts.map) (bytes_of c.args.texts.scen) c.args.texts.journal _ _
    c.draw_onto-ended.result c.finish.result c.draw_onto-ended.ensures.drawn c.draw_onto-ended.ensures.refused c.finish.ensures.err c.finish.ensures.unsent
