use Rattle.std.proofs.Common.{ap, refl, ◌∙◌}
use Rattle.grid_cells.specs.Size.{Holds}
use Rattle.grid_cells.specs.Grid.{Chart}
use Rattle.goal_fields.specs.Target.{flag_at}
use Rattle.goal_fields.proofs.EditLemmas.{flag_other}
use Rattle.test_parts.proofs.tests.fields.build.set_one.Goals as goal

pub returns-then-holds-clause-others : goal.returns-then-holds-clause-others
returns-then-holds-clause-others c v h ne =
    let held : Holds c.args.grid.now.size c.args.cell = rw (← c.size.ensures.is) (c.if-holds.ensures.0 refl) in
    ap (λ (g : Chart). flag_at g v) c.set.ensures ∙ flag_other c.args.grid.now c.args.cell v c.args.free held h ne
