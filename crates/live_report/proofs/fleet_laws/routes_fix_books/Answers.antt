use Rattle.live_report.proofs.RouteChanges.{routes_fix}
use Rattle.live_report.proofs.fleet_laws.routes_fix_books.Goals as goal

pub returns : goal.returns
returns c = routes_fix
