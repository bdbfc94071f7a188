-- The request of a session line (this project's choice).
use Rattle.std.specs.Prelude.{◌≡◌, ◌⊎◌, ℕ, Option, Some, None, Result, Ok, Err, List, [], ◌∷◌, codes, bytes_eq, if◌then◌else◌}
use Rattle.std.specs.Option.{IsSomeAnd, option_map, option_map_or, ok_or}
use Rattle.bench_reader.specs.Words.{words_of}
use Rattle.scene_edits.specs.declared.changes.Thing.{Thing}
use Rattle.scene_edits.specs.declared.changes.Thing.TheVariants as thing
use Rattle.session_lines.specs.Values.{agent_of, cell_of}
use Rattle.session_lines.specs.Kinds.{kinds_of}
use Rattle.session_lines.specs.Commands.{is_remark, command_of}
use Rattle.session_lines.specs.Shapes.{alone, agent_and_cell}
use Rattle.session_lines.specs.Edits.{ListsCells, edit_of}
use Rattle.session_lines.specs.declared.commands.Command.{Command}
use Rattle.session_lines.specs.declared.commands.Command.TheVariants.{Edit, Begin, Watch, Commit, Cancel, Version, Report, Distance, Solves}
use Rattle.session_lines.specs.declared.requests.LineFault.{LineFault}
use Rattle.session_lines.specs.declared.requests.LineFault.TheVariants as fault
use Rattle.session_lines.specs.declared.requests.Request.{Request}
use Rattle.session_lines.specs.declared.requests.Request.TheVariants as request

-- `agent AGENT`, `cell X,Y` or `map`
abbrev pub thing_watched : List (List ℕ) → Option Thing
thing_watched (kind ∷ []) = if bytes_eq kind (codes "map") then Some thing.Map else None
thing_watched (kind ∷ name ∷ []) =
    if bytes_eq kind (codes "agent") then option_map thing.Agent (agent_of name) else
    if bytes_eq kind (codes "cell") then option_map thing.Cell (cell_of name) else None
thing_watched _ = None

-- the request of a first word and the words behind it, if they are of its shape and in their ranges
abbrev pub shaped : Command → List (List ℕ) → Option Request
shaped (Edit command) words = option_map request.Edit (edit_of command words)
shaped Begin words = alone request.Begin words
shaped Watch words = option_map request.Watch (thing_watched words)
shaped Commit words = alone request.Commit words
shaped Cancel words = alone request.Cancel words
shaped Version words = alone request.Version words
shaped Report words = alone request.Report words
shaped Distance words = option_map (λ named. request.Distance named.0 named.1) (agent_and_cell words)
shaped Solves words = option_map request.Solves (kinds_of words)

-- the request of a line's words
abbrev pub request_of_words : List (List ℕ) → Result Request LineFault
request_of_words [] = Ok request.Silent
request_of_words (word ∷ words) =
    if is_remark word then Ok request.Silent else
    option_map_or (λ command. ok_or (shaped command words) fault.Shape) (command_of word) (Err fault.Word)

-- the request of a line, without its line feed
unfoldable pub request_of : List ℕ → Result Request LineFault
request_of line = request_of_words (words_of line)

-- a line with a list of cells is asked for, in whatever shape it is
abbrev pub AsksForCells : Command → Type 0
AsksForCells (Edit command) = ListsCells command
AsksForCells _ = ⊥

-- the first word is that of such a line: no other line grows anything as it is read
abbrev pub HasCells : List (List ℕ) → Type 0
HasCells [] = ⊥
HasCells (word ∷ words) = IsSomeAnd (command_of word) AsksForCells

-- the line's request or fault, or want of memory, of a line with a list of cells alone
abbrev pub IsRequest : List ℕ → Result Request LineFault → Type 0
IsRequest line result = (result ≡ request_of line) ⊎ (HasCells (words_of line) × (result ≡ Err fault.OutOfMemory))
