use Rattle.std.proofs.Common.{◌≡◌, ◌+◌, min, take, drop}
use Rattle.std.specs.List.{sum_by}
use Rattle.plan_table.specs.Plans.{row_of}
use Rattle.live_report.specs.Prices.{Rows}
use Rattle.live_report.specs.Books.{Keep}
use Rattle.change_history.specs.Moved.{Follows}
use Rattle.live_report.specs.Following.{AreLeft, former_apart}
use Rattle.live_report.proofs.books.Books.catch_up.Given as goal

abbrev pub invariant-loop-former : goal.invariant-loop-former
invariant-loop-former l = record {
  rows : Rows;
  keep : Keep l.scene.mode l.scene.grid rows l.books;
  left : AreLeft rows (row_of l.scene.rows) (drop l.former-index l.formers);
  touched : l.books.fleet.index.touched ≡ min (l.fn.self.fleet.index.touched + sum_by (former_apart l.scene.mode l.scene.rows) (take l.former-index l.formers)) 18446744073709551615;
  follows : Follows l.fn.self.fleet.conflicts l.books.fleet.conflicts l.initial.moves l.moves;
}
