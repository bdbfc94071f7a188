use Rattle.std.proofs.Common.{◌≢◌, refl, ap, inl, arith}
use Rattle.std.proofs.lemmas.Bool.Decides.{nat_tests}
use Rattle.std.proofs.lemmas.Result.{on_ok_weaker}
use Rattle.grid_cells.specs.Cell.{Point}
use Rattle.conflict_ledger.proofs.Gathers.{gathers_at}
use Rattle.conflict_ledger.proofs.offers.offer_ahead.Goals as goal

came : (c : goal.After-offer_met) → c.args.stop.now.before ≢ c.args.stop.now.here
came c same = grind (arith, nat_tests, ap (λ (p : Point). p.x) same, ap (λ (p : Point). p.y) same, c.eq.ensures, c.if-eq.false)

pub returns-clause-gathers : goal.returns-clause-gathers
returns-clause-gathers c =
    let shown = c.if-not-is_shown.ensures.0 refl in
    on_ok_weaker c.offer_met.result
    (λ gives fleet shows is showing. gathers_at fleet _ _ _ _ _ (λ t at. inl (at, came c)) (gives fleet shows (is.came (came c)) (λ apart. (came c, showing apart _ shown))))
    c.offer_met.ensures.gathers
