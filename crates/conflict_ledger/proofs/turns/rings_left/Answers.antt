use Rattle.std.proofs.Common.{◌≡◌, inl, inr, sym, subst, ap, ◌∙◌, get_or, arith}
use Rattle.std.specs.Option.{option_map}
use Rattle.std.proofs.lemmas.Bool.{cases_lt}
use Rattle.std.proofs.lemmas.List.{get_or_read}
use Rattle.std.proofs.lemmas.Option.{MatchOption-at_some}
use Rattle.plan_table.specs.Route.{route_of}
use Rattle.mapf_rules.specs.Naming.{time_of}
use Rattle.conflict_ledger.specs.Turns.{IsLeft, MayTurn}
use Rattle.mapf_rules.specs.declared.entries.Conflict.{Conflict}
use Rattle.conflict_ledger.proofs.turns.rings_left.Goals as goal

pub loop-entry-preserved : goal.loop-entry-preserved
loop-entry-preserved c = record {
  only = λ fleet shows e h. elim (c.in_ok-offer.ensures.only e h) [
    | inl before ↦ c.loop-entry.invariant.only fleet shows e before
    | inr is ↦
        let told = MatchOption-at_some _ (λ (ring : Conflict). IsLeft fleet (option_map route_of c.args.with.now.shown) ring × (time_of ring ≡ time_of c.entry-item.result) × MayTurn c.args.turn c.entry-item.result c.args.with.now.agent) e is (c.in_ok-found.ensures.only fleet shows) in
        (told.0, record { entry = c.entry-item.result; has = (c.loop-entry.entry-index, omega arith, sym c.entry-item.is); at = sym told.1; may = told.2 })
  ];
  has = λ fleet other shows beside e left k d lt at may. elim (cases_lt k c.loop-entry.entry-index) [
    | inl lower ↦ c.in_ok-offer.ensures.keeps e (c.loop-entry.invariant.has fleet other shows beside e left k d lower at may)
    | inr higher ↦
        let same : k ≡ c.loop-entry.entry-index = omega arith in
        let read : c.entry-item.result ≡ get_or c.args.entries.now k d = rw same (get_or_read c.args.entries.now c.loop-entry.entry-index c.entry-item.result (omega arith) c.entry-item.is d) in
        c.in_ok-offer.ensures.has e (c.in_ok-found.ensures.has fleet other shows beside e left (sym at ∙ ap time_of (sym read)) (subst (λ (x : Conflict). MayTurn c.args.turn x c.args.with.now.agent) (sym read) may))
  ];
}

pub returns-clause-has : goal.returns-clause-has
returns-clause-has c fleet other shows beside e left told =
    c.loop-entry.invariant.has fleet other shows beside e left told.has.0 told.entry (omega (arith, told.has.1)) (ap time_of told.has.2 ∙ told.at)
    (subst (λ (x : Conflict). MayTurn c.args.turn x c.args.with.now.agent) (sym told.has.2) told.may)
