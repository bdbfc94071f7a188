use Rattle.std.proofs.Common.{◌≡◌, ℕ, List}
use Rattle.std.specs.Prelude.{Option, Result, Ok, Err, IfOk}
use mathlib.Core.Logic.{inr}
use Rattle.solver_check.specs.Checks.{IsCheckFault}
use Rattle.solver_check.specs.declared.checks.faults.CheckFault.{CheckFault}
use Rattle.desk_cli.specs.declared.words.CheckWords.{CheckWords}
use Rattle.desk_io.specs.Texts.{IsTold}
use Rattle.mapf_desk.specs.Rows.{IsRow, fault_row}
use Rattle.mapf_desk.specs.declared.checking_row.Row.{Row}
use Rattle.mapf_desk.specs.declared.statuses.RunEnd.TheVariants.{Faulty}

-- the row of a file that isn't judged, for a fault of its paths
pub unjudged : (holds : List ℕ → Option (List ℕ)) (words : CheckWords) (map : List ℕ) (scen : Option (List ℕ)) (file paths : List ℕ) (fault : CheckFault) {E : Type 0} (result : Result Row E)
    → IfOk result (λ row. row.end ≡ Faulty) → IfOk result (λ row. (why : List ℕ) × (row.text.items ≡ fault_row words.is_json file why))
    → IsTold (holds file) paths → IsCheckFault map scen words.agents words.mode paths words.form fault → IfOk result (IsRow holds words map scen file)
unjudged holds words map scen file paths fault (Ok row) end text told of =
    inr (record { end = end; why = text.0; shown = text.1; of = inr (paths, told, (fault, of)) })
unjudged holds words map scen file paths fault (Err why) end text told of = tt
