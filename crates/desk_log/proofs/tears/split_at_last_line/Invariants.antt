use Rattle.std.proofs.Common.{◌≡◌, ◌≤◌, length, drop, true}
use Rattle.commit_log.specs.Lines.{is_one_line}
use Rattle.desk_log.proofs.tears.split_at_last_line.Given as goal

abbrev pub invariant-loop-end : goal.invariant-loop-end
invariant-loop-end l = record {
  within : l.end ≤ length l.text;
  part : is_one_line (drop l.end l.text) ≡ true;
}

abbrev pub decreases-loop-end : goal.decreases-loop-end
decreases-loop-end l = l.end
