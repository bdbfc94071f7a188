use Rattle.std.proofs.Common.{option_map, refl}
use Rattle.mapf_desk.proofs.Planners.{hosted}
use Rattle.mapf_desk.proofs.hosting.host_over.Goals as goal

pub returns : goal.returns
returns g c =
    hosted (g.F.Folder.holds c.args.files.now) (g.F.Saver.has_saved c.args.files.now) c.args.words.now c.in-Ok.opened.0
    c.args.words.now.desk.lines _ c.in-Ok-host_at.end.0
    (option_map (λ held. held.file.now) c.in-Ok.opened.1) c.end_hosted-ended.result c.in-Ok.ensures.opened
    refl refl c.in-Ok-host_at.ensures.hosted c.in-Ok.ensures.held
    c.end_hosted-ended.ensures.end c.end_hosted-ended.ensures.saved
