use Rattle.plan_table.specs.Plans.{row_of}
use Rattle.mapf_rules.specs.declared.visits.Visit.{Visit}
use Rattle.desk_report.specs.declared.reports.AgentLine.{AgentLine}
use Rattle.live_report.specs.Looks.{IsLineOf, IsVisitOf, IsLook}
use Rattle.live_report.proofs.Parted.{part_apart, lines_beside, visits_beside}
use Rattle.live_report.proofs.books.Books.turnover_since.Goals as goal

pub returns-clause-visits : goal.returns-clause-visits
returns-clause-visits c map was old new seen cover olds news =
    let grid = c.args.scene.now.grid in
    let rows = row_of c.args.scene.now.rows in
    let agents = c.args.seen.agents.items in
    let look : IsLook grid rows agents c.in-Ok.look = rw c.deref.ensures.value at c.in-Ok.ensures.look in
    let between = rw (c.deref-2.ensures.value, c.deref-3.ensures.value) at c.between-visits.ensures in
    λ followed. part_apart (λ (v : Visit). v.agent) agents old new c.args.seen.look.visits.items c.in-Ok.look.visits.items _ _ (IsVisitOf map was) (IsVisitOf grid rows) olds news seen.visits look.visits (visits_beside agents map was grid rows cover) (between followed)

pub returns-clause-lines : goal.returns-clause-lines
returns-clause-lines c map was old new seen cover olds news =
    let grid = c.args.scene.now.grid in
    let rows = row_of c.args.scene.now.rows in
    let agents = c.args.seen.agents.items in
    let look : IsLook grid rows agents c.in-Ok.look = rw c.deref.ensures.value at c.in-Ok.ensures.look in
    let between = rw (c.deref-4.ensures.value, c.deref-5.ensures.value) at c.between-lines.ensures in
    λ followed. part_apart (λ (l : AgentLine). l.agent) agents old new c.args.seen.look.lines.items c.in-Ok.look.lines.items _ _ (IsLineOf map was) (IsLineOf grid rows) olds news seen.lines look.lines (lines_beside agents map was grid rows cover) (between followed)
