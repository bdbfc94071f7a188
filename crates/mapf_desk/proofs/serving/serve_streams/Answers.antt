use Rattle.std.proofs.Common.{inr, option_map}
use Rattle.std.proofs.lemmas.Result.{MatchResult-weaker}
use Rattle.solver_check.specs.Opens.{bytes_of}
use Rattle.mapf_desk.proofs.Ending.{unserved}
use Rattle.mapf_desk.proofs.serving.serve_streams.Goals as goal

pub returns-in-Some-clause-refused : goal.returns-in-Some-clause-refused
returns-in-Some-clause-refused g c =
    MatchResult-weaker c.end_desk.result c.end_desk.ensures.err (λ done ok. ok)
    (λ fault end. inr (
    unserved (g.F.Folder.holds c.args.files.now) c.args.words.now c.in-Ok.ready.0 (bytes_of c.texts.result.map) (bytes_of c.texts.result.scen) (bytes_of c.texts.result.journal)
    c.serve_typed-desk.ensures.0 c.serve_typed-desk.result.0 c.serve_typed-desk.result.1 (option_map (λ held. held.file.now) c.in-Ok.ready.1) fault
    c.in-Ok.ensures.read c.texts.ensures.map c.texts.ensures.scen c.texts.ensures.journal c.serve_typed-desk.ensures.1 c.in-Ok.ensures.held end
    ))
