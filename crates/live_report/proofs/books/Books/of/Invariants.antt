use Rattle.std.proofs.Common.{take}
use Rattle.plan_table.specs.Plans.{row_of}
use Rattle.live_report.specs.Books.{Keep}
use Rattle.live_report.proofs.books.Books.of.Given as goal

abbrev pub invariant-loop-rank : goal.invariant-loop-rank
invariant-loop-rank l = Keep l.scene.mode l.scene.grid (row_of (take l.rank l.scene.rows)) l.books
