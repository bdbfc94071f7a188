use Rattle.std.proofs.Common.{◌≡◌, refl, sym, ◌∙◌}
use Rattle.plan_table.specs.Route.{tracks_of}
use Rattle.mapf_rules.specs.Visits.{AreVisits}
use Rattle.desk_report.specs.Report.{AreLines}
use Rattle.live_report.specs.Lines.{AreBlockedIn}
use Rattle.live_report.proofs.NamesOne.{named_is_kept}
use Rattle.live_report.proofs.cuts.quick_cut.Goals as goal

pub returns : goal.returns
returns c = λ grid mode entries stand are paths conflicts named.
    let rows = c.args.costs.now.rows in
    let visits = c.in_ok-visits.visits in
    let lines = c.in_ok-lines.lines.items in
    let blocked : AreVisits grid rows visits = c.in_ok-visits.ensures.blocked grid stand in
    let known : AreBlockedIn grid rows visits = record { by_agent = c.in_ok-visits.ensures.by_agent; on = paths; are = blocked } in
    let told : AreLines grid rows lines = c.in_ok-lines.ensures.lines grid rows (rw c.items-2.ensures known) (rw c.items.ensures are) in
    record {
      whole = record { conflicts = entries; visits = visits; lines = lines; sum = c.sum.result; makespan = c.makespan.result; bounds = c.sum_of_bounds-bounds.result; total_gap = c.sum_of_gaps-total_gap.result };
      is_report = record {
        conflicts = conflicts;
        visits = blocked;
        lines = told;
        sum = c.sum.ensures.is;
        makespan = c.makespan.ensures.is;
        bounds = rw c.deref.ensures.value at c.sum_of_bounds-bounds.ensures;
        total_gap = rw c.deref-2.ensures.value at c.sum_of_gaps-total_gap.ensures;
      };
      is_cut = record {
        conflicts = named_is_kept (tracks_of mode rows) c.args.agents.now entries c.args.conflicts conflicts named;
        visits = rw c.items-3.ensures at c.in_ok-visits_of.ensures;
        lines = rw c.deref-3.ensures.value at c.in_ok-lines_of.ensures;
        sum = refl;
        makespan = refl;
        bounds = refl;
        total_gap = refl;
      };
    }
