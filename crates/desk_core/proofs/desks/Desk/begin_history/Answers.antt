use Rattle.std.proofs.Common.{◌≡◌, ◌∙◌, sym, ap}
use Rattle.std.proofs.lemmas.Option.{same_Some}
use Rattle.live_report.specs.Histories.{HistoryState}
use Rattle.desk_core.proofs.Recorded.{recounts_begun}
use Rattle.desk_core.proofs.desks.Desk.begin_history.Goals as goal

pub invariant_of-self : goal.invariant_of-self
invariant_of-self c = record {
  made = c.self.invariant.made;
  within = c.self.invariant.within;
  on_map = c.self.invariant.on_map;
  stamped = c.self.invariant.stamped;
  booked = c.self.invariant.booked;
  recounted = λ history is.
      let begun = sym (same_Some c.new.result history is) ∙ c.new.ensures in
      recounts_begun c.one_report.ensures c.self.inside.start.value c.self.inside.scene c.self.inside.journal.items history c.plans-plans.ensures.scene c.self.invariant.made c.report_is_there.ensures
      (ap (λ (h : HistoryState). h.conflicts) begun) (ap (λ (h : HistoryState). h.visits) begun) (ap (λ (h : HistoryState). h.lines) begun);
}
