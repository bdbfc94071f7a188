use Rattle.std.proofs.Common.{ap, sym, ◌≡◌, ◌∙◌}
use Rattle.grid_cells.specs.Grid.{Chart}
use Rattle.goal_fields.proofs.CountLemmas.{at_rest-few, IsRepaired-at_rest}
use Rattle.goal_fields.proofs.field.Field.repair.Goals as goal

pub returns-clause-repaired : goal.returns-clause-repaired
returns-clause-repaired c =
    let before = c.self.inside in
    let map : c.mend_for.new.self.grid ≡ c.args.grid.now = c.mend_for.ensures.grid ∙ c.adopt.ensures.is in
    let size : c.mend_for.new.self.grid.size ≡ before.room.grid.size = ap (λ (g : Chart). g.size) map ∙ c.requires.same_size ∙ sym (ap (λ v. v.grid.size) c.self.view_is) in
    rw (← c.self.view_is)
    (IsRepaired-at_rest before.room.grid c.mend_for.new.self.grid before.goal before.g.items c.mend_for.new.g.items c.mend_for.result c.self.invariant.0 c.mend_for.ensures.at_rest c.mend_for.ensures.count
    c.args.grid.now map size before.room.queue.taken before.room.queue.total c.mend_for.new.self.queue.taken c.mend_for.new.self.queue.total c.mend_for.ensures.counted c.mend_for.ensures.all_told)

pub returns-clause-few : goal.returns-clause-few
returns-clause-few c =
    at_rest-few _ _ c.self.inside.goal c.self.inside.g.items c.mend_for.new.g.items c.mend_for.result c.self.invariant.0 c.mend_for.ensures.at_rest c.mend_for.ensures.count
