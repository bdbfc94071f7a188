-- What holds of the texts of maps and scenarios.
use Rattle.std.specs.Prelude.{◌≡◌, ◌≢◌, ℕ, List, Result, Err}
use Rattle.grid_cells.specs.Size.{Extent}
use Rattle.grid_cells.specs.Grid.{Chart}
use Rattle.bench_reader.specs.MapFaults.{IsMapAnswer}
use Rattle.bench_reader.specs.ScenFaults.{IsScenAnswer}
use Rattle.bench_reader.specs.declared.maps.MapFault.{MapFault}
use Rattle.bench_reader.specs.declared.maps.MapFault.TheVariants.{OutOfMemory}
use Rattle.bench_reader.specs.declared.scens.ScenFault.{ScenFault}
use Rattle.bench_reader.specs.declared.scens.ScenFault.TheVariants.{OutOfMemory as NoMemory}
use Rattle.bench_reader.specs.declared.tasks.Task.{Task}

-- a text has one answer as a map but for want of memory
abbrev pub OneMapAnswer : Type 0
OneMapAnswer = (text : List ℕ) (a b : Result Chart MapFault) → IsMapAnswer text a → IsMapAnswer text b → a ≢ Err OutOfMemory → b ≢ Err OutOfMemory → a ≡ b

-- a text has one answer as a scenario for a map of a size, but for want of memory
abbrev pub OneScenAnswer : Type 0
OneScenAnswer = (size : Extent) (text : List ℕ) (a b : Result (List Task) ScenFault) → IsScenAnswer size text a → IsScenAnswer size text b → a ≢ Err NoMemory → b ≢ Err NoMemory → a ≡ b
