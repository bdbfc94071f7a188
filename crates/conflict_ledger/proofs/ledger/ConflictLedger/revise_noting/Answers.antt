use Rattle.std.proofs.Common.{List, None, Some, sym, subst, ◌∙◌}
use Rattle.plan_table.specs.Route.{route_of}
use Rattle.where_index.specs.Index.{with_route}
use Rattle.mapf_rules.specs.declared.entries.Conflict.{Conflict}
use Rattle.conflict_ledger.specs.Kept.{HasEntries}
use Rattle.change_history.specs.Moved.{Tell}
use Rattle.conflict_ledger.proofs.Beside.{mended}
use Rattle.conflict_ledger.proofs.Sighted.{with_own, with_other, with_shows, itself_shows, but_hidden}
use Rattle.conflict_ledger.proofs.ledger.ConflictLedger.revise_noting.Goals as goal

pub returns-clause-kept : goal.returns-clause-kept
returns-clause-kept c fleet stands own has =
    let agent = c.args.agent in
    let old = Some (route_of c.args.old) in
    let before = with_route fleet agent old in
    let none = with_route fleet agent None in
    let held = subst (λ (kept : List Conflict). HasEntries kept before) (sym c.self.view_is) has in
    let showed = with_shows _ fleet agent old stands in
    let hides = with_shows _ fleet agent None stands in
    let shows = itself_shows _ fleet agent (Some (route_of c.args.new)) stands own in
    let goes = c.in_ok-leave.ensures.entries _ _ _ _ c.in_ok-gone.ensures in
    let comes = c.in_ok-enter.ensures.entries _ _ _ _ c.in_ok-come.ensures in
    let left = goes.0 before none showed hides (λ a apart. sym (with_other fleet agent None a apart) ∙ with_other fleet agent old a apart) c.apart-span.ensures.old (λ entry inside. held entry) in
    mended before fleet agent (λ a apart. sym (with_other fleet agent old a apart)) (route_of c.args.old) (route_of c.args.new) (with_own fleet agent old) own c.apart-span.result c.apart-span.ensures.beside
    c.self.inside.kept.keys c.leave.new.kept.keys c.enter.new.kept.keys held (goes.1 before showed c.apart-span.ensures.old) (comes.1 fleet shows c.apart-span.ensures.new)
    (comes.0 none fleet hides shows (but_hidden fleet agent) c.apart-span.ensures.new left)

pub returns-clause-follows : goal.returns-clause-follows
returns-clause-follows c = λ first tell. c.in_ok-enter.ensures.follows first (c.in_ok-leave.ensures.follows first (subst (λ kept. Tell first kept c.args.moves.now) (sym c.self.view_is) tell))
