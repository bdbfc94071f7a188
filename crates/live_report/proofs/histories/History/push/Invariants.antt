use Rattle.std.proofs.Common.{◌≡◌, ℕ, ◌-◌, ◌<◌, length}
use Rattle.live_report.specs.Histories.{Grows, HistoryState, records_in, without}
use Rattle.live_report.proofs.histories.History.push.Given as goal

abbrev pub invariant-loop-history : goal.invariant-loop-history
invariant-loop-history l = record {
  lost : ℕ;
  left : l.history ≡ without lost l.initial.history;
  needed : 0 < lost → l.initial.history.most < records_in (without (lost - 1) l.initial.history);
}

abbrev pub decreases-loop-history : goal.decreases-loop-history
decreases-loop-history l = length l.history.conflicts
