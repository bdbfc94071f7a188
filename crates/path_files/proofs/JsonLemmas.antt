-- What a text says as JSON, by whether it is UTF-8 and what it reads as; lists of more starts and paths than agents.
use Rattle.std.proofs.Common.{◌≡◌, ℕ, ◌<◌, ◌≤◌, nat_le, true, List, [], ◌∷◌, length, Some, None, Err, inl, inr, refl, ◌∙◌, arith}
use Rattle.std.proofs.lemmas.Bool.{cases_Bool, cond-true, cond-false}
use Rattle.std.proofs.lemmas.Bool.Decides.{nat_tests}
use Rattle.std.proofs.lemmas.Str.{IsUtf8-from_is_utf8, is_utf8-from_IsUtf8}
use Rattle.std.specs.Prelude.{IsUtf8}
use Rattle.std.specs.Str.{is_utf8}
use Rattle.serde_json.specs.Data.{Data}
use Rattle.serde_json.specs.Read.{read}
use Rattle.serde_json.specs.View.{items_view}
use Rattle.serde_json.specs.declared.value.Value.{Value}
use Rattle.grid_cells.specs.Cell.{Point}
use Rattle.scene_edits.specs.declared.scenes.TheConstants.{MOST_AGENTS}
use Rattle.path_files.specs.Robots.{data_in, paths_from, starts_from}
use Rattle.path_files.specs.declared.faults.PathsFault.TheVariants.{TooManyPaths}

-- a text in UTF-8 that reads as a value
pub data_some : (text : List ℕ) (value : Data) → IsUtf8 text → read text ≡ Some value → data_in text ≡ Some value
data_some text value utf8 reads = cond-true _ _ None (is_utf8-from_IsUtf8 text utf8) ∙ reads

-- one that isn't UTF-8, or reads as none
pub data_none : (text : List ℕ) → (IsUtf8 text → read text ≡ None) → data_in text ≡ None
data_none text none =
    elim (cases_Bool (is_utf8 text)) [
      | inl utf8 ↦ cond-true _ _ None utf8 ∙ none (IsUtf8-from_is_utf8 text utf8)
      | inr other ↦ cond-false _ _ None other
    ]

-- one more start than agents
pub starts_full : (starts : List Point) (values : List Value) → 0 < length values → MOST_AGENTS ≤ length starts → starts_from starts (items_view values) ≡ Err TooManyPaths
starts_full starts [] some full = absurd (omega arith)
starts_full starts (value ∷ values) some full =
    let test : nat_le MOST_AGENTS (length starts) ≡ true = grind (arith, nat_tests) in
    rw test refl

-- one more path than agents
pub paths_full : (starts : List Point) (paths : List (List Point)) (values : List Value) → 0 < length values → MOST_AGENTS ≤ length paths → paths_from starts paths (items_view values) ≡ Err TooManyPaths
paths_full starts paths [] some full = absurd (omega arith)
paths_full starts paths (value ∷ values) some full =
    let test : nat_le MOST_AGENTS (length paths) ≡ true = grind (arith, nat_tests) in
    rw test refl
