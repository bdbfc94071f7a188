use Rattle.std.proofs.Common.{◌≡◌, ◌+◌, ◌<◌, ◌≤◌, ℕ, Some, Option, inl, inr, ap, sym, subst, ◌∙◌, get_or, arith}
use Rattle.std.specs.Option.{option_and_then}
use Rattle.std.proofs.lemmas.Bool.{cases_lt}
use Rattle.std.proofs.lemmas.List.{get_or_read}
use Rattle.plan_table.specs.Route.{Route, Fleet, position, position_of, last_of}
use Rattle.where_index.specs.Asked.{ArePassing}
use Rattle.where_index.specs.declared.passings.Passing.{Passing}
use Rattle.conflict_ledger.specs.Sight.{Sees}
use Rattle.conflict_ledger.specs.Late.{HasLate}
use Rattle.conflict_ledger.proofs.Gathers.{gathers_on, gathers_at}
use Rattle.conflict_ledger.proofs.Late.{late_place, passed}
use Rattle.conflict_ledger.proofs.resting.gather_late.Goals as goal

pub loop-passing-preserved : goal.loop-passing-preserved
loop-passing-preserved c =
    let more = λ (fleet : Fleet) (shows : Sees c.args.sight.now fleet) (is_last : c.args.last ≡ last_of fleet c.args.sight.now.agent).
    let through : ArePassing shows.base c.in-Some.rest (c.args.last + 1) c.items-passing-items.result.now = rw (c.items-passing-items.ensures, ← c.new.ensures) (c.in_ok-passings.ensures shows.base shows.stands) in
    let passes = (through.exact c.passing-item.result).0 (c.loop-passing.passing-index, omega arith, sym c.passing-item.is) in
    let rests : position_of fleet c.args.sight.now.agent (c.args.last + 1) ≡ Some c.in-Some.rest = ap (λ (o : Option Route). option_and_then (λ r. position r (c.args.last + 1)) o) shows.own ∙ (sym c.own.ensures ∙ c.in-Some.is) in
    gathers_at fleet _ _ (λ (t : ℕ). c.args.last ≤ t) _ _ (λ t w. omega (arith, passes.not_before, w)) (c.in_ok-offer_passing.ensures.gathers fleet shows (λ apart. passed _ _ _ fleet shows c.args.last is_last c.in-Some.rest rests c.passing-item.result apart passes)) in record {
      gathers = λ fleet shows is_last. gathers_on fleet _ _ _ _ _ (c.loop-passing.invariant.gathers fleet shows is_last) (more fleet shows is_last);
      has = λ fleet shows is_last k d lt. elim (cases_lt k c.loop-passing.passing-index) [
        | inl lower ↦ λ apart entry stands of. (more fleet shows is_last).keeps entry (c.loop-passing.invariant.has fleet shows is_last k d lower apart entry stands of)
        | inr higher ↦
            let same : k ≡ c.loop-passing.passing-index = omega arith in
            let read : c.passing-item.result ≡ get_or c.items-passing-items.result.now k d = rw same (get_or_read c.items-passing-items.result.now c.loop-passing.passing-index c.passing-item.result (omega arith) c.passing-item.is d) in
            subst (λ (p : Passing). HasLate fleet p.time c.args.sight.now.agent p.agent c.in-Some.rest c.offer_passing.new.entries.items) read (c.in_ok-offer_passing.ensures.has fleet shows)
      ];
    }

pub returns-clause-has : goal.returns-clause-has
returns-clause-has c fleet shows is_last time late entry is timed =
    let rests : position_of fleet c.args.sight.now.agent (c.args.last + 1) ≡ Some c.in-Some.rest = ap (λ (o : Option Route). option_and_then (λ r. position r (c.args.last + 1)) o) shows.own ∙ (sym c.own.ensures ∙ c.in-Some.is) in
    let place = late_place _ _ _ fleet shows c.args.last is_last c.in-Some.rest rests entry is.pair is.names is.stands (subst (λ (t : ℕ). c.args.last < t) (sym timed) late) in
    let through : ArePassing shows.base c.in-Some.rest (c.args.last + 1) c.items-passing-items.result.now = rw (c.items-passing-items.ensures, ← c.new.ensures) (c.in_ok-passings.ensures shows.base shows.stands) in
    let inside = (through.exact place.0).1 place.3 in
    subst (λ (p : Passing). HasLate fleet p.time c.args.sight.now.agent p.agent c.in-Some.rest c.loop-passing.entries.items) inside.2 (c.loop-passing.invariant.has fleet shows is_last inside.0 place.0 (omega (arith, inside.1))) place.2 entry is.stands place.1
