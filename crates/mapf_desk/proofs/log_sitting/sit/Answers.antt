use Rattle.std.proofs.Common.{unwrap_or}
use Rattle.solver_check.specs.Opens.{bytes_of}
use Rattle.mapf_desk.proofs.LogSession.{heard_from, kept_or_not, sat_from}
use Rattle.mapf_desk.proofs.log_sitting.sit.Goals as goal

pub returns : goal.returns
returns g c =
    let map = bytes_of c.args.texts.map in
    let first = c.in-Ok-hear_first.heard.0.items in
    let (journal, had, opens) = rw c.as_slice-map.ensures.value at c.in-Ok-ready_over.ensures.opens in
    let (last, session) = c.serve_headed-keeper.ensures.session in
    let text = unwrap_or map first in
    let heard = heard_from map _ _ _ text c.in-Ok.ensures.left c.in-Ok-hear_first.ensures.heard in
    let left = rw c.as_slice-map.ensures.value at (kept_or_not c.args.words.now.lines _ _ _ _ _ _ _ _ _ _ _ _ _ c.in-Ok-ready_over.ready.0 c.serve_headed-keeper.new.desk
    c.in-Ok-ready_over.ensures.kept c.serve_headed-keeper.ensures.kept c.serve_headed-keeper.ensures.unkept) in
    rw (c.sat_of.ensures.log, c.sat_of.ensures.ended, c.sat_of.ensures.failed)
    (_, _, _, sat_from c.args.words.now map (bytes_of c.args.texts.scen) first c.args.opened.bytes.items c.in-Ok-hear_first.heard.1 _ _ _ _ _ journal _ _ last _ _ heard c.in-Ok-hear_first.ensures.bounds had opens session left)
