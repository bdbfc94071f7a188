-- What is so of the texts of files (this project's choice).
use Rattle.std.specs.Prelude.{◌≡◌, ◌⊎◌, ◌<◌, ℕ, List, Option, None, Some, option_map}
use Rattle.std.specs.Option.{option_copied}
use Rattle.solver_check.specs.declared.faults.Fault.{Fault}
use Rattle.solver_check.specs.declared.faults.Fault.TheVariants.{AgentsWithoutScen}
use Rattle.desk_cli.specs.declared.words.ServeWords.{ServeWords}
use Rattle.desk_io.specs.Texts.{AreTexts, IsUnheld, IsUnreadOf}
use Rattle.desk_io.specs.declared.named.Named.{Named}

-- the texts of the files of these names, each in its place, are so
pub record OfFiles (holds : List ℕ → Option (List ℕ)) (map scen journal paths : Option (List ℕ)) (IsSo : (map scen courses : Option (List ℕ)) → Type 0) : Type 0 where
  pub named : Named
  pub texts : AreTexts holds map scen journal paths named
  pub is : IsSo (option_map (λ b. b.items) named.map) (option_map (λ b. b.items) named.scen) (option_map (λ b. b.items) named.journal)

-- agents are asked for, and no scenario that has their tasks
abbrev pub LacksScen : ServeWords → Type 0
LacksScen words = (0 < words.agents) × (words.scen ≡ None)

-- why the files of `serve` aren't read: the words lack a scenario, or a file isn't read, or the one to save in isn't held
abbrev pub IsUnready : (List ℕ → Option (List ℕ)) → ServeWords → Fault → Type 0
IsUnready holds words AgentsWithoutScen = LacksScen words
IsUnready holds words fault =
    IsUnreadOf holds (option_copied words.map) (option_copied words.scen) (option_copied words.journal) None fault
    ⊎ ((file : List ℕ) × (option_copied words.save ≡ Some file) × IsUnheld file fault)
