use Rattle.std.proofs.Common.{◌≡◌, refl, sym, ap, subst, ◌∙◌}
use Rattle.std.specs.Prelude.{slice_index}
use Rattle.std.proofs.lemmas.Option.{same_Some, none-some, MatchOption-at_some}
use Rattle.plan_table.specs.Route.{tracks_of}
use Rattle.mapf_rules.specs.Cycles.{IsRing}
use Rattle.mapf_rules.specs.ConflictList.{Stands}
use Rattle.mapf_rules.specs.declared.entries.Conflict.TheVariants.{Cycle}
use Rattle.desk_audit.specs.Seeking.{IsRingFrom}
use Rattle.desk_audit.proofs.Finding.{finds_none, finds_one}
use Rattle.desk_audit.proofs.adding.add_ring.Goals as goal

pub returns : goal.returns
returns c =
    let fleet = tracks_of c.args.movers.now.mode c.args.movers.now.rows in
    let time = c.args.time in
    let ring = c.in-Some-2.ring in
    let is : IsRing fleet time ring = MatchOption-at_some _ (IsRing fleet time) ring c.in-Some-2.is (c.in_ok-ring.ensures.ring fleet refl c.in-Some.ensures.moves) in
    let first : slice_index ring 0 ≡ c.args.agent = MatchOption-at_some _ (λ r. slice_index r 0 ≡ c.args.agent) ring c.in-Some-2.is c.in_ok-ring.ensures.first in
    rw (c.in_ok-push.ensures.items, c.new.ensures) (finds_one fleet c.args.agent (Cycle time ring) c.args.entries.now.items (IsRingFrom time c.args.agent) is first
    (λ e stands sought.
    let other : IsRing fleet time sought.0 = subst (Stands fleet) sought.1 stands in
    let found = c.in_ok-ring.ensures.only fleet sought.0 refl c.in-Some.ensures.moves other sought.2 in
    ap (Cycle time) (same_Some ring sought.0 (sym c.in-Some-2.is ∙ found)) ∙ sym sought.1))

pub returns-in_default-2 : goal.returns-in_default-2
returns-in_default-2 c =
    let fleet = tracks_of c.args.movers.now.mode c.args.movers.now.rows in
    finds_none fleet c.args.agent c.args.entries.now.items (IsRingFrom c.args.time c.args.agent) (λ e stands sought.
    let other : IsRing fleet c.args.time sought.0 = subst (Stands fleet) sought.1 stands in
    let found = c.in_ok-ring.ensures.only fleet sought.0 refl c.in-Some.ensures.moves other sought.2 in
    absurd (none-some sought.0 (sym c.in_default-2.is ∙ found)))
