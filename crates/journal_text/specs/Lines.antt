-- The text of a journal (this project's choice of lines and of their order). A line is a list of words; its text has one space between each two, and a line feed.
use Rattle.std.specs.Prelude.{ℕ, List, [], ◌∷◌, ◌++◌, length, map, codes, decimal}
use Rattle.std.specs.List.{flat_map}
use Rattle.grid_cells.specs.Cell.{Point}
use Rattle.plan_table.specs.declared.tracks.Mode.{Mode}
use Rattle.plan_table.specs.declared.tracks.Mode.TheVariants.{Stay, Disappear}
use Rattle.scene_edits.specs.declared.changes.Thing.{Thing}
use Rattle.scene_edits.specs.declared.changes.Thing.TheVariants as things
use Rattle.scene_edits.specs.declared.edits.Edit.{Edit}
use Rattle.scene_edits.specs.declared.edits.Edit.TheVariants.{Add, Drop, Goal, Path, Tail, Open, Close}
use Rattle.desk_report.specs.LineText.{line_text, cell_text}
use Rattle.desk_commits.specs.Entries.{Entry}
use Rattle.journal_text.specs.declared.places.Heading.{Heading}
use Rattle.journal_text.specs.declared.places.Heading.TheVariants.{First, Second}

-- watch agent AGENT | watch cell X,Y | watch map
abbrev pub watch_words : Thing → List (List ℕ)
watch_words (things.Agent agent) = codes "watch" ∷ codes "agent" ∷ decimal agent ∷ []
watch_words (things.Cell cell) = codes "watch" ∷ codes "cell" ∷ cell_text cell ∷ []
watch_words things.Map = codes "watch" ∷ codes "map" ∷ []

-- a line of a name, some words and cells
abbrev pub route_line : List ℕ → List (List ℕ) → List Point → List ℕ
route_line name words cells = line_text (name ∷ (words ++ map cell_text cells))

-- an edit line, as in a session
abbrev pub edit_words : Edit → List (List ℕ)
edit_words (Add agent start goal) = codes "agent" ∷ decimal agent ∷ cell_text start ∷ cell_text goal ∷ []
edit_words (Drop agent) = codes "drop" ∷ decimal agent ∷ []
edit_words (Goal agent goal) = codes "goal" ∷ decimal agent ∷ cell_text goal ∷ []
edit_words (Path agent cells) = codes "path" ∷ decimal agent ∷ map cell_text cells
edit_words (Tail agent from cells) = codes "tail" ∷ decimal agent ∷ decimal from ∷ map cell_text cells
edit_words (Open cell) = codes "open" ∷ cell_text cell ∷ []
edit_words (Close cell) = codes "close" ∷ cell_text cell ∷ []

-- entry PLANNER BASE W E
abbrev pub entry_words : ℕ → ℕ → ℕ → ℕ → List (List ℕ)
entry_words planner base watches edits = codes "entry" ∷ decimal planner ∷ decimal base ∷ decimal watches ∷ decimal edits ∷ []

-- an entry: its numbers, its watches, its edits
abbrev pub entry_lines : Entry → List (List (List ℕ))
entry_lines entry = entry_words entry.planner entry.base (length entry.watch) (length entry.edits) ∷ (map watch_words entry.watch ++ map edit_words entry.edits)

-- journal 1 | journal 2
abbrev pub version_words : List ℕ → List (List ℕ)
version_words number = codes "journal" ∷ number ∷ []

-- mode stay | mode disappear
abbrev pub mode_words : Mode → List (List ℕ)
mode_words Stay = codes "mode" ∷ codes "stay" ∷ []
mode_words Disappear = codes "mode" ∷ codes "disappear" ∷ []

-- version 1 has no line for its mode
abbrev pub heading_lines : Heading → List (List (List ℕ))
heading_lines First = version_words (codes "1") ∷ []
heading_lines (Second mode) = version_words (codes "2") ∷ mode_words mode ∷ []

-- end COUNT
abbrev pub end_words : ℕ → List (List ℕ)
end_words count = codes "end" ∷ decimal count ∷ []

-- the heading, the entries, and how many they are
abbrev pub journal_lines : Heading → List Entry → List (List (List ℕ))
journal_lines heading entries = heading_lines heading ++ (flat_map entry_lines entries ++ end_words (length entries) ∷ [])

-- the text of lines
abbrev pub text_of : List (List (List ℕ)) → List ℕ
text_of lines = flat_map line_text lines

-- the text of version 2, and that of version 1
abbrev pub journal_text : Mode → List Entry → List ℕ
journal_text mode entries = text_of (journal_lines (Second mode) entries)

abbrev pub first_text : List Entry → List ℕ
first_text entries = text_of (journal_lines First entries)
