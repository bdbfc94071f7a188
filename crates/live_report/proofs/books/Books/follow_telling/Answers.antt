use Rattle.std.proofs.Common.{◌≡◌, List, [], Bool, true, false, IsTrue, sym, subst}
use Rattle.std.proofs.lemmas.Bool.{false≢true}
use Rattle.plan_table.specs.Plans.{row_of}
use Rattle.plan_table.specs.Route.{tracks_of}
use Rattle.mapf_rules.specs.ConflictList.{Stands}
use Rattle.mapf_rules.specs.declared.entries.Conflict.{Conflict}
use Rattle.scene_edits.specs.Scene.{SceneState}
use Rattle.scene_edits.specs.ChangedBy.{ChangedBy}
use Rattle.change_history.specs.Moved.{Moved, Tell}
use Rattle.change_history.proofs.Leading.{follow_none, same_refl}
use Rattle.desk_report.specs.Report.{IsReportOf}
use Rattle.desk_report.specs.declared.reports.Report.{Report}
use Rattle.live_report.specs.Books.{BooksState, AreOf}
use Rattle.live_report.proofs.Parted.{line_listed, visit_listed, tell_listed}
use Rattle.live_report.proofs.books.Books.follow_telling.Goals as goal

-- the entries that were noted are those of the reports
entries_told : (before scene : SceneState) (was books : BooksState) (old new : Report) (moves : Moved Conflict) → AreOf before was → AreOf scene books
    → IsReportOf before.grid before.mode before.rows old → IsReportOf scene.grid scene.mode scene.rows new → Tell was.fleet.conflicts books.fleet.conflicts moves → Tell old.conflicts new.conflicts moves
entries_told before scene was books old new moves are now old_is new_is tell =
    tell_listed (Stands (tracks_of before.mode before.rows)) (Stands (tracks_of scene.mode scene.rows)) was.fleet.conflicts books.fleet.conflicts old.conflicts new.conflicts moves are.fleet.entries now.fleet.entries old_is.conflicts.exact new_is.conflicts.exact tell

noted : (was books : BooksState) (start moves : Moved Conflict) → start ≡ record { followed = true; came = []; gone = [] } → ((first : List Conflict) → Tell first was.fleet.conflicts start → Tell first books.fleet.conflicts moves) → Tell was.fleet.conflicts books.fleet.conflicts moves
noted was books start moves is follows = follows was.fleet.conflicts (subst (Tell was.fleet.conflicts was.fleet.conflicts) (sym is) (λ _. follow_none was.fleet.conflicts was.fleet.conflicts (same_refl was.fleet.conflicts)))

untrue : {b : Bool} → b ≡ false → IsTrue b → ⊥
untrue is holds = false≢true (subst IsTrue is holds)

pub returns-in-Some-clause-told : goal.returns-in-Some-clause-told
returns-in-Some-clause-told c before old new changed are old_is new_is =
    let scene = c.args.scene.now in
    let turned = c.turnover_since-turnover.ensures in
    let tell = noted c.args.self c.in-Ok.books c.new-conflicts.result c.follow_noting.new.moves c.new-conflicts.ensures c.in-Ok.ensures.follows in
    let look = (rw c.in-Some.is at c.seen-seen.ensures.look) before changed are in
    let cover = (rw c.in-Some.is at c.seen-seen.ensures.cover) before changed are in record {
      conflicts = subst (Tell old.conflicts new.conflicts) (sym turned.conflicts) (entries_told before scene c.args.self c.in-Ok.books old new c.follow_noting.new.moves are c.in-Ok.ensures.kept old_is new_is tell);
      visits = turned.visits before.grid (row_of before.rows) old.visits new.visits look cover (visit_listed before.grid before.rows old.visits old_is.visits) (visit_listed scene.grid scene.rows new.visits new_is.visits);
      lines = turned.lines before.grid (row_of before.rows) old.lines new.lines look cover (line_listed before.grid before.rows old.lines changed.is_scene.by_agent old_is.lines) (line_listed scene.grid scene.rows new.lines c.plans-plans.ensures.scene.by_agent new_is.lines);
    }

pub returns-in-None-clause-told : goal.returns-in-None-clause-told
returns-in-None-clause-told c before old new changed are old_is new_is =
    let scene = c.args.scene.now in
    let told = c.conflicts_alone-turnover.ensures in
    let tell = noted c.args.self c.in-Ok.books c.new-conflicts.result c.follow_noting.new.moves c.new-conflicts.ensures c.in-Ok.ensures.follows in record {
      conflicts = subst (Tell old.conflicts new.conflicts) (sym told.conflicts) (entries_told before scene c.args.self c.in-Ok.books old new c.follow_noting.new.moves are c.in-Ok.ensures.kept old_is new_is tell);
      visits = λ followed. absurd (untrue told.visits followed);
      lines = λ followed. absurd (untrue told.lines followed);
    }
