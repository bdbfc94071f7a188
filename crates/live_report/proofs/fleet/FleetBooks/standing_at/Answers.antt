use Rattle.std.proofs.Common.{sym, subst}
use Rattle.std.proofs.lemmas.Result.{IfOk-weaker}
use Rattle.where_index.specs.Index.{StandsFor}
use Rattle.live_report.specs.Fleet.{FleetState}
use Rattle.live_report.proofs.fleet.FleetBooks.standing_at.Goals as goal

pub returns : goal.returns
returns c = IfOk-weaker c.standing_at.result _ _ (λ agents gives fleet are. gives fleet (subst (λ (b : FleetState). StandsFor b.index fleet) (sym c.self.view_is) are.index)) c.standing_at.ensures
