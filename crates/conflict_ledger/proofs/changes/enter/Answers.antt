use Rattle.std.proofs.Common.{None}
use Rattle.std.proofs.lemmas.Result.{on_ok_weaker}
use Rattle.where_index.specs.Index.{with_route}
use Rattle.conflict_ledger.proofs.Sighted.{hidden, but_hidden}
use Rattle.conflict_ledger.proofs.Mending.{enter_law, enter_beside}
use Rattle.conflict_ledger.proofs.changes.enter.Goals as goal

pub returns-clause-entries : goal.returns-clause-entries
returns-clause-entries c = on_ok_weaker c.put_all-2.result (λ gains index agent route span tells. (
  λ before after hides shows same fits has.
      enter_law _ _ _ before after hides shows same _ _ _ span (tells before after hides shows fits) _ _ _ _ (rw c.deref.ensures.value at c.take_all.ensures.set) (rw c.deref-2.ensures.value at c.in_ok-put_all.ensures.set) (rw c.deref-3.ensures.value at gains) has,
  λ after shows fits.
      let before = with_route after agent None in
      let hides = hidden _ _ _ after shows in
      enter_beside _ _ _ before after hides shows (but_hidden after agent) _ _ _ span (tells before after hides shows fits) _ _ _ _ (rw c.deref.ensures.value at c.take_all.ensures.set) (rw c.deref-2.ensures.value at c.in_ok-put_all.ensures.set) (rw c.deref-3.ensures.value at gains),
)) c.put_all-2.ensures.set

pub returns-clause-follows : goal.returns-clause-follows
returns-clause-follows c = on_ok_weaker c.put_all-2.result (λ follows first tell. follows first (c.in_ok-put_all.ensures.follows first (c.take_all.ensures.follows first tell))) c.put_all-2.ensures.follows
