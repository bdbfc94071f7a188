-- What a desk keeps from call to call.
use Rattle.std.specs.Prelude.{◌≡◌, ℕ, ◌≤◌, Option, List, length}
use Rattle.std.specs.Option.{ForSome}
use Rattle.scene_edits.specs.Scene.{SceneState}
use Rattle.live_report.specs.Books.{BooksState, AreOf}
use Rattle.live_report.specs.Histories.{HistoryState}
use Rattle.desk_commits.specs.Entries.{Entry}
use Rattle.desk_commits.specs.State.{scene_after}
use Rattle.desk_commits.specs.Stamps.{NameCellsOfMap, WhereTheyStand}
use Rattle.desk_commits.specs.declared.stamps.Stamps.{Stamps}
use Rattle.desk_core.specs.Histories.{WhereHistoryStands}

-- where the books stand, they are those of the scene
abbrev pub WhereBooksStand : SceneState → Option BooksState → Type 0
WhereBooksStand scene books = ForSome books (AreOf scene)

-- the journal is within its limit, names cells of the map alone, and makes the scene of the one at the opening; and where stamps,
-- books and a history stand they are those of journal and scene
pub record IsKeptDesk (start scene : SceneState) (journal : List Entry) (limit : ℕ) (stamps : Option Stamps) (books : Option BooksState) (history : Option HistoryState) : Type 0 where
  pub made : scene ≡ scene_after start journal
  pub within : length journal ≤ limit
  pub on_map : NameCellsOfMap scene.grid.size journal
  pub stamped : WhereTheyStand scene.grid.size journal stamps
  pub booked : WhereBooksStand scene books
  pub recounted : WhereHistoryStands start journal history
