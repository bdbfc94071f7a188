use Rattle.std.proofs.Common.{◌≡◌, ℕ, List, length, sym, ap, subst, ◌∙◌}
use Rattle.plan_table.specs.Route.{tracks_of}
use Rattle.plan_table.specs.declared.plans.Row.{Row}
use Rattle.plan_table.proofs.OneTable.{one_table_holds}
use Rattle.plan_table.proofs.Order.{EachOf-length}
use Rattle.mapf_rules.specs.ConflictList.{AreConflicts, IsListed}
use Rattle.mapf_rules.specs.Visits.{AreVisits}
use Rattle.mapf_rules.proofs.LawsHold.{one_list}
use Rattle.mapf_rules.proofs.Settling.{visits_law}
use Rattle.cost_ledger.specs.Ledger.{Ledger}
use Rattle.desk_report.specs.Changes.{HasCome}
use Rattle.desk_report.specs.Report.{IsLine}
use Rattle.live_report.specs.Changed.{AreAgentsGone}
use Rattle.live_report.proofs.Differing.{Has, has_as, entries_only, visits_only, lines_only, agents_only}
use Rattle.live_report.proofs.books.Books.changes_by.Goals as goal

pub returns : goal.returns
returns c =
    let was = rw (← c.self.view_is) at c.requires.books in
    let scene = c.args.scene.now in
    let turnover = c.args.turnover in
    let by_agent = c.plans-plans.ensures.scene.by_agent in
    let cut = c.in-Ok.ensures in
    let new = cut.whole in
    let kept = c.self.inside.fleet.conflicts in
    let ledger = c.self.inside.prices.costs in
    let listed : IsListed kept = rw c.entries-entries.ensures at c.has-listed.ensures.once in
    let entries : AreConflicts (tracks_of scene.mode scene.rows) kept = record { ascending = listed; exact = was.fleet.entries } in
    let rows : ledger.rows ≡ scene.rows = one_table_holds _ scene.rows was.prices.by_agent by_agent was.prices.rows in
    let blocked : AreVisits scene.grid scene.rows ledger.visits = subst (λ (t : List (ℕ × Row)). AreVisits scene.grid t ledger.visits) rows was.prices.costs in
    let away : AreAgentsGone scene.rows c.in_ok-lines.gone_lines c.in_ok-gone_agents.gone_agents = rw (c.items.ensures, c.plans-plans.ensures.rows) at c.in_ok-gone_agents.ensures in
    record {
      new = new;
      is = cut.is_report;
      told = λ grid mode table old in_order old_is tells.
          let conflicts = tells.conflicts c.requires.followed.conflicts in
          let visits = tells.visits c.requires.followed.visits in
          let lines = tells.lines c.requires.followed.lines in
          let lines_gone = has_as old.lines new.lines c.in_ok-lines.gone_lines turnover.lines.gone c.in_ok-lines.ensures.gone lines.gone_is in record {
            agents = c.count.ensures.is ∙ ap length c.plans-plans.ensures.rows ∙ EachOf-length (IsLine scene.grid) scene.rows new.lines cut.is_report.lines;
            conflicts = c.len.ensures ∙ ap length c.entries-entries.ensures ∙ ap length (one_list (tracks_of scene.mode scene.rows) kept new.conflicts entries cut.is_report.conflicts);
            blocked = c.visits-2.ensures.is ∙ ap (λ (l : Ledger). length l.visits) c.costs.ensures ∙ ap length (visits_law scene.grid scene.rows ledger.visits new.visits blocked cut.is_report.visits);
            gone_agents = agents_only grid scene.grid table scene.rows in_order by_agent old.lines new.lines old_is.lines cut.is_report.lines c.in_ok-lines.gone_lines c.in_ok-gone_agents.gone_agents c.in_ok-lines.ensures.ascend.1 lines_gone away;
            gone_conflicts = entries_only old.conflicts new.conflicts c.in_ok-conflicts.gone_conflicts c.in_ok-conflicts.ensures.ascend.1 (has_as old.conflicts new.conflicts c.in_ok-conflicts.gone_conflicts turnover.conflicts.gone c.in_ok-conflicts.ensures.gone conflicts.gone_is);
            gone_visits = visits_only grid table old.visits new.visits c.in_ok-visits.gone_visits old_is.visits c.in_ok-visits.ensures.ascend.1 (has_as old.visits new.visits c.in_ok-visits.gone_visits turnover.visits.gone c.in_ok-visits.ensures.gone visits.gone_is);
            came = subst (HasCome old new) (sym c.with_lists.ensures) (record {
              lines = lines_only scene.grid scene.rows by_agent new.lines cut.is_report.lines old.lines c.in_ok-lines.lines c.in_ok-lines.ensures.ascend.0 (has_as new.lines old.lines c.in_ok-lines.lines turnover.lines.came c.in_ok-lines.ensures.came lines.came_is);
              conflicts = entries_only new.conflicts old.conflicts c.in_ok-conflicts.conflicts c.in_ok-conflicts.ensures.ascend.0 (has_as new.conflicts old.conflicts c.in_ok-conflicts.conflicts turnover.conflicts.came c.in_ok-conflicts.ensures.came conflicts.came_is);
              visits = visits_only scene.grid scene.rows new.visits old.visits c.in_ok-visits.visits cut.is_report.visits c.in_ok-visits.ensures.ascend.0 (has_as new.visits old.visits c.in_ok-visits.visits turnover.visits.came c.in_ok-visits.ensures.came visits.came_is);
              sum = cut.is_cut.sum;
              makespan = cut.is_cut.makespan;
              bounds = cut.is_cut.bounds;
              total_gap = cut.is_cut.total_gap;
            });
          };
    }
