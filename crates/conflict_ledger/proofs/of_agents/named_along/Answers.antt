use Rattle.std.proofs.Common.{ℕ, Some, arith}
use Rattle.plan_table.specs.Route.{last_of, route_of}
use Rattle.conflict_ledger.specs.Spans.{Fits, IsIn}
use Rattle.conflict_ledger.proofs.Sighted.{itself_shows}
use Rattle.conflict_ledger.proofs.Named.{named_all}
use Rattle.conflict_ledger.proofs.of_agents.named_along.Goals as goal

pub returns : goal.returns
returns c fleet stands own =
    let route = route_of c.args.track in
    let shows = itself_shows c.args.index.now fleet c.args.agent (Some route) stands own in
    let every : (time : ℕ) → IsIn c.whole.result time = λ time. record { not_before = omega (arith, c.whole.ensures.from); apart = rw c.whole.ensures.tracks tt } in
    let fits : Fits c.whole.result (last_of fleet c.args.agent) = record { begins = omega (arith, c.whole.ensures.from); ends = rw c.whole.ensures.tracks tt } in
    rw c.in_ok-append.ensures.items (named_all _ _ route fleet shows c.whole.result every c.in_ok-entries.entries.items c.in_ok-rings.rings.items
    (c.in_ok-entries.ensures fleet shows fits)
    (rw c.deref.ensures.value at (c.in_ok-rings.ensures.only fleet shows))
    (rw c.deref.ensures.value at (c.in_ok-rings.ensures.has fleet fleet shows shows)))
