-- Each edit that a text of paths asks for adds an agent or gives one a path.
use Rattle.std.proofs.Common.{◌≡◌, ℕ, ◌+◌, List, [], ◌∷◌, Option, Some, None, Bool, true, false, subst}
use Rattle.std.specs.List.{slice_get, All, AllByRecursion}
use Rattle.std.proofs.lemmas.List.Elements.{All-append, All-from_recursion}
use Rattle.std.proofs.lemmas.Option.{slice_get_within, get_or_from_slice_get}
use Rattle.grid_cells.specs.Cell.{Point}
use Rattle.scene_edits.specs.declared.edits.Edit.{Edit}
use Rattle.path_files.specs.declared.paths.SolverPaths.{SolverPaths}
use Rattle.solver_check.specs.CheckEdits.{start_in, goal_in, add_given, adds_from, paths_from, edits_of, IsOfPaths}

add-of_paths : (agent : ℕ) (start goal : Option Point) → AllByRecursion IsOfPaths (add_given agent start goal)
add-of_paths agent (Some start) (Some goal) = (tt, tt)
add-of_paths agent (Some start) None = tt
add-of_paths agent None goal = tt

adds-of_paths : (spelled : SolverPaths) (agent : ℕ) (paths : List (List Point)) → All IsOfPaths (adds_from spelled agent paths)
adds-of_paths spelled agent [] = All-from_recursion IsOfPaths [] tt
adds-of_paths spelled agent (path ∷ paths) =
    All-append IsOfPaths (add_given agent (start_in spelled agent path) (goal_in spelled agent path)) (adds_from spelled (agent + 1) paths)
    (All-from_recursion IsOfPaths _ (add-of_paths agent (start_in spelled agent path) (goal_in spelled agent path)))
    (adds-of_paths spelled (agent + 1) paths)

paths-of_paths : (agent : ℕ) (paths : List (List Point)) → AllByRecursion IsOfPaths (paths_from agent paths)
paths-of_paths agent [] = tt
paths-of_paths agent (path ∷ paths) = (tt, paths-of_paths (agent + 1) paths)

all-of_paths : (bare : Bool) (spelled : SolverPaths) → All IsOfPaths (edits_of bare spelled)
all-of_paths true spelled =
    All-append IsOfPaths (adds_from spelled 0 spelled.paths) (paths_from 0 spelled.paths)
    (adds-of_paths spelled 0 spelled.paths) (All-from_recursion IsOfPaths _ (paths-of_paths 0 spelled.paths))
all-of_paths false spelled = All-from_recursion IsOfPaths _ (paths-of_paths 0 spelled.paths)

pub edit-of_paths : (bare : Bool) (spelled : SolverPaths) (index : ℕ) (edit : Edit) → slice_get (edits_of bare spelled) index ≡ Some edit → IsOfPaths edit
edit-of_paths bare spelled index edit there =
    subst IsOfPaths (get_or_from_slice_get (edits_of bare spelled) index edit edit there)
    (all-of_paths bare spelled index edit (slice_get_within (edits_of bare spelled) index edit there))
