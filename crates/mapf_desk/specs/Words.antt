-- What the words say of the texts (this project's choice).
use Rattle.std.specs.Prelude.{ℕ, List, Option, Some, None, Result, Ok}
use Rattle.std.specs.Borrow.{Bor}
use Rattle.plan_table.specs.declared.tracks.Mode.{Mode}
use Rattle.desk_commits.specs.State.{DeskState}
use Rattle.session_lines.specs.declared.versions.LinesVersion.{LinesVersion}
use Rattle.session_protocol.specs.declared.bounds.ServeFault.{ServeFault}
use Rattle.desk_cli.specs.declared.words.DrawWords.{DrawWords}
use Rattle.single_runs.specs.declared.courses.Courses.{Courses}
use Rattle.single_runs.specs.declared.courses.Courses.TheVariants.{Journal, Solver}
use Rattle.single_runs.specs.Sittings.{SitsOverFiles}

-- the text is that of the paths where the words name a file of paths, and else that of a journal
abbrev pub courses_in : {P : Type 0} → Option P → Option (Bor (List ℕ)) → Courses
courses_in (Some paths) (Some text) = Solver text
courses_in (Some paths) None = Journal None
courses_in None text = Journal text

abbrev pub courses_of : DrawWords → Option (Bor (List ℕ)) → Courses
courses_of words text = courses_in words.paths text

-- the session of an input in that version of lines over the desk of the texts; its answers went into a buffer
pub record SitsFrom (version : LinesVersion) (map scen : Option (List ℕ)) (agents : ℕ) (mode : Mode) (limit : ℕ) (journal left : Option (List ℕ)) (sat : DeskState × Result ℕ ServeFault) : Type 0 where
  pub after : Option (List ℕ)
  pub held0 : Option (List ℕ)
  pub held1 : Option (List ℕ)
  pub sits : SitsOverFiles version map scen agents mode limit journal left after held0 held1 (Ok sat)
