use Rattle.std.proofs.Common.{◌≡◌, ◌↔◌, ◌+◌, ◌≤◌, ℕ, inl, inr, sym, subst, arith}
use Rattle.std.specs.Prelude.{IsTrue}
use Rattle.std.proofs.lemmas.Bool.{cases_lt}
use Rattle.conflict_ledger.specs.Gathering.{HasPlace, HasHere}
use Rattle.conflict_ledger.specs.Spans.{IsIn}
use Rattle.conflict_ledger.specs.declared.places.Place.TheVariants.{Ahead}
use Rattle.conflict_ledger.proofs.Gathers.{gathers_on, gathers_at, place_on}
use Rattle.conflict_ledger.proofs.Late.{ahead_none}
use Rattle.conflict_ledger.proofs.Stops.{step_has}
use Rattle.conflict_ledger.proofs.gather.gather_path.Goals as goal

pub loop-time-preserved : goal.loop-time-preserved
loop-time-preserved c = record {
  later = λ is. omega arith;
  came = λ t next. subst (λ (x : ℕ). IsTrue c.has-goes.result ↔ IsIn c.args.span.now x) (omega (arith, next)) c.has-goes.ensures;
  gathers = λ fleet shows. gathers_on fleet _ _ _ _ _ (gathers_at fleet _ _ _ _ _ (λ t w. (w.0, omega (arith, w.1))) (c.loop-time.invariant.gathers fleet shows)) (gathers_at fleet _ _ _ _ _ (λ t w. elim w [
    | inl before ↦ ((c.loop-time.invariant.came t before.0).0 before.1, omega (arith, before.0))
    | inr now ↦ (subst (IsIn c.args.span.now) (sym now.0) (c.has-goes.ensures.0 now.1), omega (arith, now.0))
  ]) (c.in_ok-gather_at.ensures.gathers fleet shows));
  ahead = λ fleet shows t inside lt. elim (cases_lt (t + 1) c.loop-time.time) [
    | inl lower ↦ place_on fleet _ _ _ _ (c.in_ok-gather_at.ensures.gathers fleet shows) t Ahead (c.loop-time.invariant.ahead fleet shows t inside lower)
    | inr higher ↦
        let same : t + 1 ≡ c.loop-time.time = omega arith in
        c.in_ok-gather_at.ensures.ahead ((c.loop-time.invariant.came t same).1 inside) fleet shows t same
  ];
  here = λ fleet shows t inside lt. elim (cases_lt t c.loop-time.time) [
    | inl lower ↦ λ place not. place_on fleet _ _ _ _ (c.in_ok-gather_at.ensures.gathers fleet shows) t place (c.loop-time.invariant.here fleet shows t inside lower place not)
    | inr higher ↦
        let same : t ≡ c.loop-time.time = omega arith in
        subst (λ (t : ℕ). HasHere fleet c.args.sight.now.agent t c.gather_at.new.entries.items) (sym same) (c.in_ok-gather_at.ensures.here (c.has-goes.ensures.1 (subst (IsIn c.args.span.now) same inside)) fleet shows)
  ];
}

pub returns-clause-gathers : goal.returns-clause-gathers
returns-clause-gathers c fleet shows low = gathers_at fleet _ _ _ _ _ (λ t w. (w.0, omega (arith, w.1, c.loop-time.auto.time-end (omega (arith, low))))) (c.loop-time.invariant.gathers fleet shows)

pub returns-clause-has : goal.returns-clause-has
returns-clause-has c fleet shows is_last time inside le =
    let from : c.args.span.now.from ≤ time = inside.not_before in
    let end = c.loop-time.auto.time-end (omega (arith, from, le)) in
    step_has _ _ _ fleet shows time _ (elim (cases_lt time c.args.last) [
      | inl lower ↦ c.loop-time.invariant.ahead fleet shows time inside (omega (arith, end))
      | inr at_end ↦
          let same : time ≡ c.args.last = omega arith in
          subst (λ (t : ℕ). HasPlace fleet c.args.sight.now.agent t Ahead c.loop-time.entries.items) (sym same) (ahead_none _ _ _ fleet shows c.args.last is_last _)
    ]) (c.loop-time.invariant.here fleet shows time inside (omega (arith, end)))
