use Rattle.std.proofs.Common.{List, None, Some, sym, subst}
use Rattle.plan_table.specs.Route.{route_of}
use Rattle.where_index.specs.Index.{with_route}
use Rattle.mapf_rules.specs.declared.entries.Conflict.{Conflict}
use Rattle.conflict_ledger.specs.Kept.{HasEntries}
use Rattle.change_history.specs.Moved.{Tell}
use Rattle.conflict_ledger.proofs.Beside.{whole_fits, whole_before, whole_after}
use Rattle.conflict_ledger.proofs.Sighted.{with_other, with_shows, itself_shows}
use Rattle.conflict_ledger.proofs.ledger.ConflictLedger.admit_noting.Goals as goal

pub returns-clause-kept : goal.returns-clause-kept
returns-clause-kept c fleet stands own has =
    let had = with_route fleet c.args.agent None in
    whole_after c.whole.result c.whole.ensures.from c.whole.ensures.tracks c.enter.new.kept.keys fleet ((c.in_ok-enter.ensures.entries _ _ _ _ c.in_ok-share.ensures).0 had fleet (with_shows _ fleet c.args.agent None stands) (itself_shows _ fleet c.args.agent (Some (route_of c.args.track)) stands own)
    (λ a apart. sym (with_other fleet c.args.agent None a apart)) (whole_fits c.whole.result c.whole.ensures.from c.whole.ensures.tracks _)
    (whole_before c.whole.result c.whole.ensures.from c.whole.ensures.tracks c.self.inside.kept.keys had (subst (λ (kept : List Conflict). HasEntries kept had) (sym c.self.view_is) has)))

pub returns-clause-follows : goal.returns-clause-follows
returns-clause-follows c = λ first tell. c.in_ok-enter.ensures.follows first (subst (λ kept. Tell first kept c.args.moves.now) (sym c.self.view_is) tell)
