use Rattle.plan_table.specs.Route.{tracks_of}
use Rattle.desk_audit.proofs.Finding.{finds_as}
use Rattle.desk_audit.proofs.Near.{late_splits}
use Rattle.desk_audit.proofs.Index.{index_filed}
use Rattle.desk_audit.proofs.entries.add_rest.Goals as goal

pub passes_in-requires : goal.passes_in-requires
passes_in-requires c = index_filed _ c.args.index.now c.requires.index

pub returns : goal.returns
returns c =
    finds_as (tracks_of c.args.mode c.args.plans.now.rows) c.args.agent _ _ _ _
    (late_splits _ c.args.index.now c.args.end c.args.agent c.args.cell c.deref.result.now c.requires.index c.requires.end c.requires.there
    (rw c.deref.ensures.value c.in_ok-passes.ensures)) c.in_ok-add_passed.ensures
