use Rattle.std.proofs.Common.{None}
use Rattle.std.proofs.lemmas.Result.{on_ok_weaker}
use Rattle.where_index.specs.Index.{with_route}
use Rattle.conflict_ledger.proofs.Sighted.{hidden, but_hidden}
use Rattle.conflict_ledger.proofs.Mending.{leave_law, leave_beside}
use Rattle.conflict_ledger.proofs.changes.leave.Goals as goal

pub returns-clause-entries : goal.returns-clause-entries
returns-clause-entries c = on_ok_weaker c.put_all.result (λ gains index agent route span tells. (
  λ before after shows hides same fits has.
      leave_law _ _ _ after before hides shows same _ _ _ span (tells after before hides shows fits) _ _ _ _ (rw c.deref.ensures.value at c.take_all.ensures.set) (rw c.deref-2.ensures.value at c.take_all-2.ensures.set) (rw c.deref-3.ensures.value at gains) has,
  λ before shows fits.
      let after = with_route before agent None in
      let hides = hidden _ _ _ before shows in
      leave_beside _ _ _ after before hides shows (but_hidden before agent) _ _ _ span (tells after before hides shows fits) _ _ _ _ (rw c.deref.ensures.value at c.take_all.ensures.set) (rw c.deref-2.ensures.value at c.take_all-2.ensures.set) (rw c.deref-3.ensures.value at gains),
)) c.put_all.ensures.set

pub returns-clause-follows : goal.returns-clause-follows
returns-clause-follows c = on_ok_weaker c.put_all.result (λ follows first tell. follows first (c.take_all-2.ensures.follows first (c.take_all.ensures.follows first tell))) c.put_all.ensures.follows
