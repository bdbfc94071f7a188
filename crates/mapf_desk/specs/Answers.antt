-- What the end of a run says, by its words (this project's choice). The system's files say nothing of their bytes or saves.
use Rattle.std.specs.Prelude.{◌≡◌, None, Some, Bool}
use Rattle.std.specs.Option.{option_copied}
use Rattle.desk_cli.specs.declared.words.Words.{Words}
use Rattle.desk_cli.specs.declared.words.Words.TheVariants.{Version, Serve, Audit, Drill, Host, Check, Draw, Page}
use Rattle.desk_io.specs.Texts.{untold}
use Rattle.mapf_desk.specs.Ends.{unsaid}
use Rattle.mapf_desk.specs.Files.{OfFiles}
use Rattle.mapf_desk.specs.Logged.{HasServed}
use Rattle.mapf_desk.specs.Hosted.{HasHosted}
use Rattle.mapf_desk.specs.Rows.{HasCheckedPaths}
use Rattle.mapf_desk.specs.Runs.{HasAudited, HasDrawn, HasPaged}
use Rattle.mapf_desk.specs.Drilled.{HasDrilled, OfScripts}
use Rattle.mapf_desk.specs.Statuses.{answered}
use Rattle.mapf_desk.specs.declared.statuses.RunEnd.{RunEnd}
use Rattle.mapf_desk.specs.declared.statuses.RunEnd.TheVariants.{Yes}

-- the run of the words was done over the texts of their files, each in its place. A check ends with its verdict, or the worst of several, a drill with whether the reports are
-- the same, hosting with that or a session's fault, and what asks no question well
abbrev pub Ends : Words → RunEnd → Type 0
Ends Version end = end ≡ Yes
Ends (Serve words) end =
    (end ≡ Yes) × HasServed untold unsaid untold unsaid words (option_copied words.log)
Ends (Audit words) end =
    (end ≡ Yes) × OfFiles untold (Some words.map.now) (option_copied words.scen) (option_copied words.journal) None (HasAudited words)
Ends (Drill words) end =
    (same : Bool) × (end ≡ answered same) × OfScripts untold words (λ map scen scripts. HasDrilled words map scen scripts same)
Ends (Host words) end = HasHosted untold unsaid untold unsaid words (option_copied words.desk.log) end
Ends (Check words) end = HasCheckedPaths untold words words.more.items end
Ends (Draw words) end =
    (end ≡ Yes) × OfFiles untold (Some words.map.now) (option_copied words.scen) (option_copied words.journal) (option_copied words.paths) (HasDrawn words)
Ends (Page words) end =
    (end ≡ Yes) × OfFiles untold (Some words.map.now) (option_copied words.scen) (option_copied words.journal) (option_copied words.paths) (HasPaged words)
