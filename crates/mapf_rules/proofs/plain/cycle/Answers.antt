use Rattle.std.proofs.Common.{◌≡◌, refl, sym, ◌∙◌, arith}
use Rattle.std.specs.List.{slice_index}
use Rattle.std.proofs.lemmas.Option.{MatchOption-at_some, none-some, same_Some}
use Rattle.mapf_rules.specs.Cycles.{IsRing}
use Rattle.mapf_rules.specs.Finding.{fleet_of}
use Rattle.mapf_rules.proofs.plain.cycle.Goals as goal

pub returns-in-Some-2-clause-only : goal.returns-in-Some-2-clause-only
returns-in-Some-2-clause-only c =
    let fleet = fleet_of c.args.table.now in
    let ring = c.in-Some-2.ring in
    let is : IsRing fleet c.args.time ring = MatchOption-at_some _ (IsRing fleet c.args.time) ring c.in-Some-2.is (c.in_ok-ring.ensures.ring fleet refl c.in-Some.ensures.moves) in
    let first : slice_index ring 0 ≡ c.args.first = MatchOption-at_some _ (λ r. slice_index r 0 ≡ c.args.first) ring c.in-Some-2.is c.in_ok-ring.ensures.first in
    rw c.new.ensures ((is, refl), first)

pub returns-in-Some-2-clause-found : goal.returns-in-Some-2-clause-found
returns-in-Some-2-clause-found c ring round starts =
    let found = c.in_ok-ring.ensures.only (fleet_of c.args.table.now) ring refl c.in-Some.ensures.moves round starts in
    let same : c.in-Some-2.ring ≡ ring = same_Some _ _ (sym c.in-Some-2.is ∙ found) in
    rw (c.new.ensures, same) refl

pub returns-in-None-clause-found : goal.returns-in-None-clause-found
returns-in-None-clause-found c ring round starts =
    absurd (none-some ring (sym c.in-None.is ∙ c.in_ok-ring.ensures.only (fleet_of c.args.table.now) ring refl c.in-Some.ensures.moves round starts))

pub returns-in_default-clause-found : goal.returns-in_default-clause-found
returns-in_default-clause-found c ring round starts = grind (arith, round.round 0)
