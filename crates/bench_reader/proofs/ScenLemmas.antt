-- Tasks read so far, line by line.
use Rattle.std.proofs.lemmas.Bool.Decides.{nat_tests}
use Rattle.std.proofs.lemmas.Grind.{common_steps}
use Rattle.std.proofs.Common.{◌≡◌, ℕ, ◌+◌, false, List, [], ◌∷◌, ◌++◌, length, refl, arith}
use Rattle.std.proofs.lemmas.List.Elements.{filter-append}
use Rattle.grid_cells.specs.Size.{Extent}
use Rattle.bench_reader.specs.Lines.{is_blank_line}
use Rattle.bench_reader.specs.ScenText.{IsTaskLine, AreTaskLines, AreTasks}
use Rattle.bench_reader.specs.declared.tasks.Task.{Task}

task_lines-push : (size : Extent) (lines : List (List ℕ)) (line : List ℕ) (tasks : List Task) (task : Task) → AreTaskLines size lines tasks → IsTaskLine size line task → AreTaskLines size (lines ++ line ∷ []) (tasks ++ task ∷ [])
task_lines-push size [] line tasks task none last = rw none (last, refl)
task_lines-push size (first ∷ lines) line [] task none last = absurd none
task_lines-push size (first ∷ lines) line (head ∷ tasks) task good last = (good.0, task_lines-push size lines line tasks task good.1 last)

-- a line that isn't blank gives its task
pub tasks-push : (size : Extent) (above : List (List ℕ)) (line : List ℕ) (tasks : List Task) (task : Task) → is_blank_line line ≡ false → AreTasks size above tasks → IsTaskLine size line task → AreTasks size (above ++ line ∷ []) (tasks ++ task ∷ [])
tasks-push size above line tasks task written good last = grind (arith, nat_tests, common_steps, filter-append, task_lines-push)

-- the lines so far give the tasks so far, and these are left
pub record TasksSoFar (size : Extent) (body rest : List (List ℕ)) (tasks : List Task) (number : ℕ) : Type 0 where
  pub above : List (List ℕ)
  pub split : body ≡ above ++ rest
  pub good : AreTasks size above tasks
  pub count : number ≡ 2 + length above
