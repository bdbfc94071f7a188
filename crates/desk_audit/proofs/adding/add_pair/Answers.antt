use Rattle.plan_table.specs.Route.{tracks_of}
use Rattle.desk_audit.proofs.Finding.{finds_pair}
use Rattle.desk_audit.proofs.adding.add_pair.Goals as goal

pub returns : goal.returns
returns c = finds_pair (tracks_of c.args.mode c.args.plans.now.rows) c.args.first c.args.time c.args.second c.args.entries.now.items c.into_items-found.result.items c.append.new.self.items c.in_ok-append.ensures.items (rw c.into_items-found.ensures c.in_ok-entries_of_pair.ensures)
