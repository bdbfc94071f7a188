-- The lines of a report, of the lines that are kept.
use Rattle.std.proofs.Common.{◌≡◌, ℕ, suc, zero, ◌-◌, List, [], ◌∷◌, get_or, Some, refl, subst, arith}
use Rattle.std.specs.Prelude.{All, slice_get}
use Rattle.std.proofs.lemmas.Option.{same_Some, slice_get-get_or, gets}
use Rattle.std.proofs.lemmas.Bool.Decides.{nat_tests}
use Rattle.std.proofs.lemmas.Grind.{common_steps}
use Rattle.grid_cells.specs.Grid.{Chart}
use Rattle.plan_table.specs.Order.{EachOf}
use Rattle.plan_table.specs.Plans.{row_of}
use Rattle.plan_table.specs.declared.plans.Row.{Row}
use Rattle.plan_table.proofs.Fleets.{row_here}
use Rattle.plan_table.proofs.Order.{EachOf-with, Contains-nil}
use Rattle.mapf_rules.specs.Visits.{IsUnblocked}
use Rattle.desk_report.specs.Laws.{IsPathOn}
use Rattle.desk_report.specs.Report.{IsLine, AreLines}
use Rattle.desk_report.specs.declared.reports.AgentLine.{AgentLine}
use Rattle.live_report.specs.Lines.{IsOpenLine, AreOpenLines, AreBlockedIn}

-- the element that goes with the one at an index of the other list
pub EachOf-before : {A B : Type 0} (R : A → B → Type 0) (xs : List A) (ys : List B) → EachOf R xs ys → (k : ℕ) (y : B) → slice_get ys k ≡ Some y → (x : A) × (slice_get xs k ≡ Some x) × R x y
EachOf-before R [] [] each k y at = cc
EachOf-before R [] (b ∷ ys) each k y at = absurd each
EachOf-before R (a ∷ xs) [] each k y at = absurd each
EachOf-before R (a ∷ xs) (b ∷ ys) each zero y at = (a, refl, subst (λ q. R a q) (same_Some b y at) each.0)
EachOf-before R (a ∷ xs) (b ∷ ys) each (suc k) y at = EachOf-before R xs ys each.1 k y at

-- a path on the map, no place of which is closed
abbrev pub IsOpen : Chart → ℕ × Row → Type 0
IsOpen grid entry = IsPathOn grid entry.1.plan × IsUnblocked grid entry.1.plan

pub line_told : (grid : Chart) (entry : ℕ × Row) (line : AgentLine) → IsOpen grid entry → IsOpenLine grid entry line → IsLine grid entry line
line_told grid entry line (on, unblocked) is = grind (arith, nat_tests, common_steps, gets)

-- where no visit is blocked the lines are told as they are
pub lines_told : (grid : Chart) (rows : List (ℕ × Row)) (lines : List AgentLine) → AreBlockedIn grid rows [] → AreOpenLines grid rows lines → AreLines grid rows lines
lines_told grid rows lines known are = EachOf-with (IsOpenLine grid) (IsLine grid) (IsOpen grid) (line_told grid) rows lines all_open are
  where
    all_open : All (IsOpen grid) rows
    all_open k d within =
        let entry = get_or rows k d in
        let live : row_of rows entry.0 ≡ Some entry.1 = (row_here rows known.by_agent k entry.0 entry.1 (slice_get-get_or rows k d within)).0 in
        (known.on entry.0 entry.1 live, λ time cell blocked. Contains-nil _ ((known.are.exact (record { agent = entry.0; time = time; cell = cell })).1 (record { row = entry.1; live = live; blocked = blocked })))
