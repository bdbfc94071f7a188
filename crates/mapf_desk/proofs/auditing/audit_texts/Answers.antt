use Rattle.solver_check.specs.Opens.{bytes_of}
use Rattle.mapf_desk.proofs.Unsent.{unaudited}
use Rattle.mapf_desk.proofs.auditing.audit_texts.Goals as goal

pub returns-clause-refused : goal.returns-clause-refused
returns-clause-refused g c =
    unaudited c.args.words.now (bytes_of c.args.texts.map) (bytes_of c.args.texts.scen) (bytes_of c.args.texts.journal) _ _
    c.audit_onto-ended.result c.finish.result c.audit_onto-ended.ensures.audited c.audit_onto-ended.ensures.refused c.finish.ensures.err c.finish.ensures.unsent
