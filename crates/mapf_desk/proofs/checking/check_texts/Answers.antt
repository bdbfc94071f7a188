use Rattle.solver_check.specs.Opens.{bytes_of}
use Rattle.mapf_desk.proofs.Unsent.{unchecked}
use Rattle.mapf_desk.proofs.checking.check_texts.Goals as goal

pub returns-clause-refused : goal.returns-clause-refused
returns-clause-refused g c =
    unchecked c.args.words.now c.args.texts.form (bytes_of c.args.texts.map) (bytes_of c.args.texts.scen) (bytes_of c.args.texts.journal) _ _
    c.check_onto-ended.result c.finish.result c.check_onto-ended.ensures.checked c.check_onto-ended.ensures.refused c.finish.ensures.err c.finish.ensures.unsent
