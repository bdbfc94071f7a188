use Rattle.std.proofs.Common.{◌≡◌, ◌++◌, ℕ, List, Some, take}
use Rattle.desk_commits.specs.Entries.{Entry}
use Rattle.commit_log.specs.Text.{log_text}
use Rattle.commit_log.specs.Crashes.{Counts, MayLeave}
use Rattle.desk_log.specs.Keeping.{texts_of, LeavesEntries}
use Rattle.desk_log.proofs.putting.put_entries.Given as goal

-- the entries before and those that were put so far
abbrev pub invariant-loop-entry : goal.invariant-loop-entry
invariant-loop-entry g l = record {
  counted : (head : List ℕ) (before : List Entry) → Counts head (texts_of before) l.fn.writer.count l.fn.writer.check
      → Counts head (texts_of (before ++ take l.entry-index l.entries)) l.writer.count l.writer.check;
  logged : (head : List ℕ) (before : List Entry) → Counts head (texts_of before) l.fn.writer.count l.fn.writer.check
      → g.L.Log.text l.fn.writer.log ≡ Some (log_text head (texts_of before)) → g.L.Log.text l.writer.log ≡ Some (log_text head (texts_of (before ++ take l.entry-index l.entries)));
  left : (head : List ℕ) (before : List Entry) (left : List ℕ) → Counts head (texts_of before) l.fn.writer.count l.fn.writer.check
      → g.L.Log.text l.fn.writer.log ≡ Some (log_text head (texts_of before)) → g.L.Log.kept l.fn.writer.log ≡ g.L.Log.text l.fn.writer.log
      → MayLeave (g.L.Log.kept l.writer.log) (g.L.Log.text l.writer.log) left → LeavesEntries head left before (before ++ take l.entry-index l.entries);
  kept : g.L.Log.kept l.writer.log ≡ g.L.Log.kept l.fn.writer.log;
}
