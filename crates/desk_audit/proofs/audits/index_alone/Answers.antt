use Rattle.std.proofs.Common.{refl, [], ◌∷◌, arith}
use Rattle.plan_table.specs.Route.{tracks_of}
use Rattle.desk_audit.proofs.Index.{shares_all, shares_none, shares_pushed}
use Rattle.desk_audit.proofs.audits.index_alone.Goals as goal

pub returns : goal.returns
returns c =
    let fleet = tracks_of c.args.scene.now.mode c.args.scene.now.rows in
    rw (c.in_ok-push.ensures.items, c.new-index.ensures.items) (shares_all fleet 1 (c.in_ok-sightings.sightings ∷ []) (omega arith) refl (shares_pushed fleet 1 [] c.in_ok-sightings.sightings (shares_none fleet 1) (rw (c.mode.ensures, c.plans.ensures.rows) at c.in_ok-sightings.ensures)))
