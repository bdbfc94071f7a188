-- The edit of an edit line (this project's choice).
use Rattle.std.specs.Prelude.{ℕ, Option, None, List, [], ◌∷◌}
use Rattle.std.specs.Option.{option_map}
use Rattle.scene_edits.specs.declared.edits.Edit.{Edit}
use Rattle.scene_edits.specs.declared.edits.Edit.TheVariants as edit
use Rattle.session_lines.specs.Values.{with_both, with_all, agent_of, time_named, cell_of}
use Rattle.session_lines.specs.Cells.{cells_of}
use Rattle.session_lines.specs.Shapes.{only_agent, only_cell, agent_and_cell}
use Rattle.session_lines.specs.declared.commands.EditCommand.{EditCommand}
use Rattle.session_lines.specs.declared.commands.EditCommand.TheVariants.{Add, Drop, Goal, Path, Tail, Open, Close}

-- AGENT START GOAL
abbrev pub add_of : List (List ℕ) → Option Edit
add_of (agent ∷ start ∷ goal ∷ []) = with_all edit.Add (agent_of agent) (cell_of start) (cell_of goal)
add_of _ = None

-- AGENT CELL..
abbrev pub path_edit_of : List (List ℕ) → Option Edit
path_edit_of [] = None
path_edit_of (agent ∷ words) = with_both edit.Path (agent_of agent) (cells_of words)

-- AGENT TIME CELL..
abbrev pub tail_of : List (List ℕ) → Option Edit
tail_of (agent ∷ time ∷ words) = with_all edit.Tail (agent_of agent) (time_named time) (cells_of words)
tail_of _ = None

-- an edit with a list of cells, which grows as its line is read
abbrev pub ListsCells : EditCommand → Type 0
ListsCells Path = Unit {0}
ListsCells Tail = Unit {0}
ListsCells _ = ⊥

-- the edit of a first word and the words behind it, if they are of its shape and in their ranges
abbrev pub edit_of : EditCommand → List (List ℕ) → Option Edit
edit_of Add words = add_of words
edit_of Drop words = option_map edit.Drop (only_agent words)
edit_of Goal words = option_map (λ named. edit.Goal named.0 named.1) (agent_and_cell words)
edit_of Path words = path_edit_of words
edit_of Tail words = tail_of words
edit_of Open words = option_map edit.Open (only_cell words)
edit_of Close words = option_map edit.Close (only_cell words)
