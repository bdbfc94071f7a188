use Rattle.solver_check.specs.Opens.{bytes_of}
use Rattle.mapf_desk.proofs.Unsent.{unpaged}
use Rattle.mapf_desk.proofs.paging.page_texts.Goals as goal

pub returns-clause-refused : goal.returns-clause-refused
returns-clause-refused g c =
    unpaged c.args.words.now (bytes_of c.args.texts.map) (bytes_of c.args.texts.scen) c.args.texts.journal _ _
    c.page_onto-ended.result c.finish.result c.page_onto-ended.ensures.paged c.page_onto-ended.ensures.refused c.finish.ensures.err c.finish.ensures.unsent
