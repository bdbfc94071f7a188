-- The words that ask a question (this project's choice).
use Rattle.desk_cli.specs.declared.words.Words.{Words}
use Rattle.desk_cli.specs.declared.words.Words.TheVariants.{Version, Serve, Audit, Drill, Host, Check, Draw, Page}

-- whether reports are the same, or paths solve their problem
abbrev pub IsQuestion : Words → Type 0
IsQuestion Version = ⊥
IsQuestion (Serve words) = ⊥
IsQuestion (Audit words) = ⊥
IsQuestion (Drill words) = Unit {0}
IsQuestion (Host words) = Unit {0}
IsQuestion (Check words) = Unit {0}
IsQuestion (Draw words) = ⊥
IsQuestion (Page words) = ⊥
