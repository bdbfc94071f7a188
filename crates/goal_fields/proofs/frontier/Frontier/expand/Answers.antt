use Rattle.std.proofs.Common.{◌≡◌, Some, inl, inr, arith, subst, ap, length}
use Rattle.std.specs.List.{slice_get}
use Rattle.std.proofs.lemmas.Option.{get_or_from_slice_get}
use Rattle.std.proofs.lemmas.Bool.{cases_lt}
use Rattle.grid_cells.specs.Size.{Holds}
use Rattle.grid_cells.specs.Grid.{Chart}
use Rattle.goal_fields.specs.AStar.{GathersCells}
use Rattle.goal_fields.proofs.AStarLemmas.{HasWalk-front, Gathers-trans, IsMetFrom-later, IfSome-neighbour, neighbour_at}
use Rattle.goal_fields.proofs.frontier.Frontier.expand.Goals as goal

pub meet-requires-clause-beside : goal.meet-requires-clause-beside
meet-requires-clause-beside c =
    rw (c.loop-beside.invariant.gathers.grid, c.around-around.ensures)
    (IfSome-neighbour c.args.self.now.grid.size c.args.front c.loop-beside.beside-index c.beside-item.result (omega (arith, c.loop-beside-test.true, ap length c.around-around.ensures)))

pub meet-requires-clause-walk : goal.meet-requires-clause-walk
meet-requires-clause-walk c =
    let s = c.loop-beside.self in
    HasWalk-front s.grid c.args.ends.now s.stamps.items s.base s.away s.now.items s.next.items c.args.front c.loop-beside.invariant.seeking

pub loop-beside-preserved : goal.loop-beside-preserved
loop-beside-preserved c =
    let s = c.loop-beside.self in
    let t = c.meet.new.self in
    let i = c.loop-beside.beside-index in
    let goes : GathersCells s t = c.in_ok-meet.ensures.gathers in
    record {
      around = c.around-around.ensures;
      seeking = c.in_ok-meet.ensures.seeking;
      gathers = Gathers-trans c.args.self.now s t c.loop-beside.invariant.gathers goes;
      few = omega (arith, c.in_ok-meet.ensures.few, c.loop-beside.invariant.few);
      met = λ k cell lt at. elim (cases_lt k i) [
        | inl less ↦ IsMetFrom-later s t c.args.ends.now c.args.front cell goes (c.loop-beside.invariant.met k cell less at)
        | inr more ↦
            let same : i ≡ k = omega arith in
            let here : slice_get c.around-around.result i ≡ Some (Some cell) = rw same at in
            rw (get_or_from_slice_get c.around-around.result i (Some cell) c.beside-item.result here) at c.in_ok-meet.ensures.met
      ];
    }

pub returns-clause-met : goal.returns-clause-met
returns-clause-met c cell adj o most e =
    let held : Holds c.args.self.now.grid.size cell = subst (λ (g : Chart). Holds g.size cell) c.loop-beside.invariant.gathers.grid o.0 in
    let (k, lt, at) = neighbour_at c.args.self.now.grid.size c.args.front cell held adj in
    let there : slice_get c.around-around.result k ≡ Some (Some cell) = rw c.around-around.ensures at in
    c.loop-beside.invariant.met k cell (omega (arith, lt, c.loop-beside-test.false, ap length c.around-around.ensures)) there o most e
