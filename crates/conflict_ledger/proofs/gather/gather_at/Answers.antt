use Rattle.std.proofs.Common.{◌≡◌, ◌+◌, ℕ, Option, inl, inr, ap, sym, subst, ◌∙◌, arith}
use mathlib.Core.Bool.{false≢true}
use Rattle.std.specs.Option.{unwrap_or}
use Rattle.grid_cells.specs.Cell.{Point}
use Rattle.std.proofs.lemmas.Result.{on_ok_weaker}
use Rattle.plan_table.specs.Route.{Fleet}
use Rattle.conflict_ledger.specs.Sight.{Sees, IsWhere}
use Rattle.conflict_ledger.specs.Gathering.{IsStop, IsAbout, IsStepOf, HasPlace}
use Rattle.conflict_ledger.specs.declared.places.Stop.{Stop}
use Rattle.conflict_ledger.specs.declared.places.Place.TheVariants.{Ahead}
use Rattle.conflict_ledger.proofs.Gathers.{gathers_at}
use Rattle.conflict_ledger.proofs.Stops.{came_own, still_before, stop_own, stop_ahead, stop_here}
use Rattle.conflict_ledger.proofs.gather.gather_at.Goals as goal

module _ (c : goal.After-gather_stop) (fleet : Fleet) (shows : Sees c.args.sight.now fleet) where
  abbrev stop : Stop
  stop = record { past = c.past_of-past.result; time = c.args.time; before = c.unwrap_or-before.result; here = c.in-Some.here; next = c.unwrap_or-next.result; goes = c.args.goes }

  from_here : (o own : Option Point) → o ≡ own → unwrap_or o c.in-Some.here ≡ unwrap_or own c.in-Some.here
  from_here o own e = ap (λ (o : Option Point). unwrap_or o c.in-Some.here) e

  came : c.past_of-past.result + 1 ≡ c.args.time → IsWhere fleet c.args.sight.now.agent c.past_of-past.result c.unwrap_or-before.result c.in-Some.here
  came next = came_own _ _ _ fleet shows c.past_of-past.result c.args.time _ _ next (sym c.own.ensures ∙ c.in-Some.is) (c.unwrap_or-before.ensures ∙ from_here _ _ c.own-2.ensures)

  is_stop : IsStop fleet c.args.sight.now.agent stop
  is_stop = stop_own _ _ _ fleet shows stop c.past_of-past.ensures.order.0 c.past_of-past.ensures.order.1 (sym c.own.ensures ∙ c.in-Some.is) (c.unwrap_or-before.ensures ∙ from_here _ _ c.own-2.ensures) (c.unwrap_or-next.ensures ∙ from_here _ _ c.own-3.ensures)

  is_step : (t : ℕ) → IsAbout stop t → IsStepOf c.args.time c.args.came c.args.goes t
  is_step t (inr on) = inr on
  is_step t (inl before) = elim c.past_of-past.ensures.is [
    | inl past ↦ inl (omega (arith, before.0, past.0), past.1)
    | inr still ↦ absurd (before.1 (still_before _ _ _ fleet shows stop still.0 (sym c.own.ensures ∙ c.in-Some.is) (c.unwrap_or-before.ensures ∙ from_here _ _ c.own-2.ensures)))
  ]

pub returns-clause-gathers : goal.returns-clause-gathers
returns-clause-gathers c = on_ok_weaker c.gather_stop.result (λ gives fleet shows. gathers_at fleet _ _ _ _ _ (is_step c fleet shows) (gives fleet shows (is_stop c fleet shows))) c.gather_stop.ensures.gathers

pub returns-clause-ahead : goal.returns-clause-ahead
returns-clause-ahead c is_came = on_ok_weaker c.gather_stop.result (λ gives fleet shows past next. elim c.past_of-past.ensures.is [
  | inr still ↦ absurd (false≢true (sym still.1 ∙ is_came))
  | inl before ↦ subst (λ (t : ℕ). HasPlace fleet c.args.sight.now.agent t Ahead c.gather_stop.new.entries.items) (omega (arith, before.0, next)) (stop_ahead _ _ _ fleet shows (stop c fleet shows) _ (gives fleet shows (is_stop c fleet shows)) (came c fleet shows before.0))
]) c.gather_stop.ensures.has

pub returns-clause-here : goal.returns-clause-here
returns-clause-here c goes = on_ok_weaker c.gather_stop.result (λ gives fleet shows. stop_here _ _ _ fleet shows (stop c fleet shows) _ (gives fleet shows (is_stop c fleet shows)) (is_stop c fleet shows) goes) c.gather_stop.ensures.has
