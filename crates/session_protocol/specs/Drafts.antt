-- A commit that is being gathered, line by line (this project's choice).
use Rattle.std.specs.Prelude.{ℕ, List, []}
use Rattle.scene_edits.specs.declared.changes.Thing.{Thing}
use Rattle.scene_edits.specs.declared.edits.Edit.{Edit}
use Rattle.desk_commits.specs.Entries.{Entry}

-- the version that it is made on, what is watched, and its edits
pub record Draft : Type 0 where
  pub base : ℕ
  pub watch : List Thing
  pub edits : List Edit

-- nothing is gathered yet
abbrev pub nothing_gathered : ℕ → Draft
nothing_gathered base = record { base = base; watch = []; edits = [] }

-- the commit of a planner that asks for what was gathered
abbrev pub entry_gathered : ℕ → Draft → Entry
entry_gathered planner draft = record { planner = planner; base = draft.base; watch = draft.watch; edits = draft.edits }
