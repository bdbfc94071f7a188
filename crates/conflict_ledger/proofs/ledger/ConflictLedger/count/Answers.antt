use Rattle.std.proofs.Common.{◌≡◌, List, sym, ap, subst, ◌∙◌, rules}
use Rattle.std.specs.List.{count_by}
use Rattle.conflict_ledger.specs.Kept.{HasEntries, many_of}
use Rattle.mapf_rules.specs.ConflictList.{kind_of}
use Rattle.mapf_rules.specs.contracts.entries.KindPartialEq.TheImpl as kinds
use Rattle.mapf_rules.specs.declared.entries.Conflict.{Conflict}
use Rattle.mapf_rules.proofs.Orders.{entries_ascend}
use Rattle.mapf_rules.proofs.LawsHold.{one_list}
use Rattle.conflict_ledger.proofs.KindsApart.{counted}
use Rattle.conflict_ledger.proofs.ledger.ConflictLedger.count.Goals as goal

pub returns-clause-kept : goal.returns-clause-kept
returns-clause-kept c =
    let found : c.count.result ≡ count_by (λ (entry : Conflict). kinds.ghosts.eq (kind_of entry) c.args.kind) c.args.self.now = search rules in
    found ∙ counted c.args.kind c.args.self.now

pub returns-clause-listed : goal.returns-clause-listed
returns-clause-listed c fleet entries has are =
    let found : c.count.result ≡ count_by (λ (entry : Conflict). kinds.ghosts.eq (kind_of entry) c.args.kind) c.self.inside.kept.keys = search rules in
    let held = subst (λ (kept : List Conflict). HasEntries kept fleet) (sym c.self.view_is) has in
    found ∙ counted c.args.kind c.self.inside.kept.keys ∙ ap (many_of c.args.kind) (one_list fleet c.self.inside.kept.keys entries (record { ascending = entries_ascend c.self.inside.kept.keys c.iter.ensures.ordered; exact = held }) are)
