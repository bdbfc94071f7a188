-- The first words of session lines (this project's choice).
use Rattle.std.specs.Prelude.{ℕ, Bool, false, ◌==◌, Option, Some, None, List, [], ◌∷◌, codes, bytes_eq, if◌then◌else◌}
use Rattle.std.specs.Option.{option_map}
use Rattle.session_lines.specs.declared.commands.EditCommand.{EditCommand}
use Rattle.session_lines.specs.declared.commands.EditCommand.TheVariants.{Add, Drop, Goal, Path, Tail, Open, Close}
use Rattle.session_lines.specs.declared.commands.Command.{Command}
use Rattle.session_lines.specs.declared.commands.Command.TheVariants.{Edit, Begin, Watch, Commit, Cancel, Version, Report, Distance, Solves}

-- a remark begins with `#`
abbrev pub is_remark : List ℕ → Bool
is_remark [] = false
is_remark (byte ∷ word) = byte == 35

-- the edits that the first words of lines ask for
abbrev pub edit_command_of : List ℕ → Option EditCommand
edit_command_of word =
    if bytes_eq word (codes "agent") then Some Add else
    if bytes_eq word (codes "drop") then Some Drop else
    if bytes_eq word (codes "goal") then Some Goal else
    if bytes_eq word (codes "path") then Some Path else
    if bytes_eq word (codes "tail") then Some Tail else
    if bytes_eq word (codes "open") then Some Open else
    if bytes_eq word (codes "close") then Some Close else None

-- what the first words of lines ask for
abbrev pub command_of : List ℕ → Option Command
command_of word =
    if bytes_eq word (codes "begin") then Some Begin else
    if bytes_eq word (codes "watch") then Some Watch else
    if bytes_eq word (codes "commit") then Some Commit else
    if bytes_eq word (codes "cancel") then Some Cancel else
    if bytes_eq word (codes "version") then Some Version else
    if bytes_eq word (codes "report") then Some Report else
    if bytes_eq word (codes "distance") then Some Distance else
    if bytes_eq word (codes "solves") then Some Solves else option_map Edit (edit_command_of word)
