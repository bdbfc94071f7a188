-- There is a report of a map, a mode and a table, and whether it solves.
use Rattle.std.proofs.Common.{◌≡◌, ℕ, ◌+◌, ◌-◌, ◌<◌, min, Bool, List, [], ◌∷◌, length, get_or, Option, None, Some, refl, sym, ap, subst, ◌∙◌, cond, arith}
use Rattle.std.specs.Prelude.{◌↔◌, IsTrue, All, map, unwrap_or, count_by, slice_get}
use Rattle.std.specs.Option.{is_none}
use Rattle.std.proofs.lemmas.List.{nil_from_length}
use Rattle.std.proofs.lemmas.List.Elements.{All-nil, All-cons, All-head, All-tail, All-contains, All-contains_itself}
use Rattle.std.proofs.lemmas.List.Sums.{sum_by-cons}
use Rattle.std.proofs.lemmas.Option.{slice_get-get_or}
use Rattle.grid_cells.specs.Cell.{Point}
use Rattle.grid_cells.specs.Size.{Holds}
use Rattle.grid_cells.specs.Grid.{Chart}
use Rattle.grid_cells.specs.Walks.{IsDistance}
use Rattle.plan_table.specs.Path.{place, last_index}
use Rattle.plan_table.specs.Plans.{row_of, IsByAgent}
use Rattle.plan_table.specs.Route.{tracks_of}
use Rattle.plan_table.specs.declared.plans.Row.{Row}
use Rattle.plan_table.specs.declared.tracks.Mode.{Mode}
use Rattle.plan_table.proofs.Fleets.{row_here}
use Rattle.mapf_rules.specs.ConflictList.{AreConflicts, kind_of}
use Rattle.conflict_ledger.specs.Kept.{HasEntries}
use Rattle.mapf_rules.specs.ConflictList.{IsListed}
use Rattle.mapf_rules.specs.declared.entries.Conflict.{Conflict}
use Rattle.mapf_rules.specs.declared.entries.Kind.{Kind}
use Rattle.mapf_rules.specs.Costs.{IsFinished, IsCost, AreCosts}
use Rattle.cost_ledger.specs.Ledger.{IsUnfinishedCount}
use Rattle.mapf_rules.specs.Visits.{IsUnblocked, AreVisits}
use Rattle.mapf_rules.specs.declared.visits.Visit.{Visit}
use Rattle.goal_fields.specs.Target.{Standing}
use Rattle.goal_fields.specs.Held.{HasGoal, StandFor, HaveDistances}
use Rattle.desk_report.specs.Laws.{IsPathOn}
use Rattle.desk_report.specs.Report.{IsBound, IsLine, AreLines}
use Rattle.desk_report.specs.Solves.{IsVerdict}
use Rattle.mapf_rules.specs.Kinds.{is_named}
use Rattle.mapf_rules.specs.declared.kinds.Kinds.{Kinds}
use Rattle.desk_report.specs.declared.reports.AgentLine.{AgentLine}
use Rattle.desk_report.specs.declared.reports.Report.{Report}
use Rattle.live_report.specs.Rows.{HaveFields, HavePathsOn}
use Rattle.live_report.specs.Asked.{HasAnyAsked}
use Rattle.live_report.proofs.Deciding.{Decided, decided_both, given_if, decided_by, truth_of, sum_given, greatest_given, unblocked_or_not}

-- ---- what the line of an agent is made of
abbrev pub IsReady : Chart → ℕ × Row → Type 0
IsReady grid entry = ((bound : Option ℕ) × IsBound grid entry.1 bound) × Decided (IsUnblocked grid entry.1.plan)

bound_of : (grid : Chart) (row : Row) (fields : List Standing) → StandFor grid fields → HaveDistances fields → HasGoal fields row.goal → IsPathOn grid row.plan → (bound : Option ℕ) × IsBound grid row bound
bound_of grid row fields stand have (field, held, aims) on =
    let inside : 0 < length row.plan = on.path_is.walkable.some_cell in
    let start = get_or row.plan 0 row.goal in
    let zeroth : min 0 (last_index row.plan) ≡ 0 = omega arith in
    let starts : place row.plan 0 ≡ Some start = ap (slice_get row.plan) zeroth ∙ slice_get-get_or row.plan 0 row.goal inside in
    let same : field.grid ≡ grid = All-contains (λ (f : Standing). f.grid ≡ grid) fields field stand held in
    let far = All-contains (λ (f : Standing). (cell : Point) → Holds f.grid.size cell → (distance : Option ℕ) × IsDistance f.grid cell f.goal distance) fields field have held start (subst (λ (g : Chart). Holds g.size start) (sym same) (on.held 0 row.goal inside)) in
    (far.0, record { start = start; starts = starts; distance = subst (λ (goal : Point). IsDistance grid start goal far.0) aims (subst (λ (g : Chart). IsDistance g start field.goal far.0) same far.1) })

pub all_ready : (grid : Chart) (rows : List (ℕ × Row)) (visits : List Visit) (fields : List Standing) → IsByAgent rows → AreVisits grid rows visits → StandFor grid fields → HaveDistances fields → HaveFields rows fields → HavePathsOn grid rows → All (IsReady grid) rows
all_ready grid rows visits fields by_agent are stand have aims on k d within =
    let entry = get_or rows k d in
    let live : row_of rows entry.0 ≡ Some entry.1 = (row_here rows by_agent k entry.0 entry.1 (slice_get-get_or rows k d within)).0 in
    (bound_of grid entry.1 fields stand have (aims entry.0 entry.1 live) (on entry.0 entry.1 live), unblocked_or_not grid rows visits are entry.0 entry.1 live)

-- ---- lines
line_of : (grid : Chart) (agent : ℕ) (row : Row) (cost : Option ℕ) → IsCost row cost → IsReady grid (agent, row) → (line : AgentLine) × IsLine grid (agent, row) line
line_of grid agent row cost is ((bound, starts), free) =
    let done : Decided (IsFinished row) = decided_by cost (IsFinished row) is.time is.given in
    let finished = truth_of (IsFinished row) done in
    let gap = given_if (IsFinished row × IsUnblocked grid row.plan) (is.time - unwrap_or bound 0) (decided_both (IsFinished row) (IsUnblocked grid row.plan) done free) in (
      record { agent = agent; settle = is.time; finished = finished.0; bound = bound; gap = gap.0 },
      record { agent = refl; settle = is.settles; finished = finished.1; bound = starts; gap = gap.1 },
    )

pub lines_of : (grid : Chart) (rows : List (ℕ × Row)) (costs : List (Option ℕ)) → AreCosts rows costs → All (IsReady grid) rows → (lines : List AgentLine) × AreLines grid rows lines
lines_of grid [] [] are ready = ([], tt)
lines_of grid [] (cost ∷ costs) are ready = absurd are
lines_of grid (entry ∷ rows) [] are ready = absurd are
lines_of grid (entry ∷ rows) (cost ∷ costs) are ready =
    let line = line_of grid entry.0 entry.1 cost are.0 (All-head (IsReady grid) entry rows ready) in
    let later = lines_of grid rows costs are.1 (All-tail (IsReady grid) entry rows ready) in
    (line.0 ∷ later.0, (line.1, later.1))

-- no agent is without a cost exactly where each line is of a finished one
abbrev Done : AgentLine → Type 0
Done line = IsTrue line.finished

all_done : (grid : Chart) (rows : List (ℕ × Row)) (lines : List AgentLine) (costs : List (Option ℕ)) → AreLines grid rows lines → AreCosts rows costs → (count_by is_none costs ≡ 0) ↔ All Done lines
all_done grid [] [] [] lines costs = ((λ _. All-nil Done), (λ _. refl))
all_done grid [] (line ∷ later) costs lines are = absurd lines
all_done grid [] [] (cost ∷ costs) lines are = absurd are
all_done grid (entry ∷ rows) [] costs lines are = absurd lines
all_done grid (entry ∷ rows) (line ∷ later) [] lines are = absurd are
all_done grid (entry ∷ rows) (line ∷ later) (None ∷ costs) lines are = (
  (λ none. let counted = sum_by-cons (λ (o : Option ℕ). cond (is_none o) 1 0) None costs in absurd (omega (arith, counted, none))),
  (λ all. absurd (are.0.given (lines.0.finished.0 (All-head Done line later all)))),
)
all_done grid (entry ∷ rows) (line ∷ later) (Some n ∷ costs) lines are =
    let rest = all_done grid rows later costs lines.1 are.1 in
    let sum : count_by is_none (Some n ∷ costs) ≡ 0 + count_by is_none costs = sum_by-cons (λ (o : Option ℕ). cond (is_none o) 1 0) (Some n) costs in
    let counted : count_by is_none (Some n ∷ costs) ≡ count_by is_none costs = omega (arith, sum) in (
      (λ none. All-cons Done line later (lines.0.finished.1 are.0.given.0) (rest.0 (sym counted ∙ none))),
      (λ all. counted ∙ rest.1 (All-tail Done line later all)),
    )

-- ---- the report, and what it says
module _ (grid : Chart) (mode : Mode) (rows : List (ℕ × Row)) (entries : List Conflict) (visits : List Visit) (costs : List (Option ℕ)) (conflicts : AreConflicts (tracks_of mode rows) entries) (blocked : AreVisits grid rows visits) (priced : AreCosts rows costs) (ready : All (IsReady grid) rows) (kinds : Kinds) where
  verdict : (answer : Bool) → (IsTrue answer ↔ ((count_by is_none costs ≡ 0) × (length visits ≡ 0) × (HasAnyAsked kinds entries → ⊥))) → IsVerdict grid mode rows kinds answer
  verdict answer means =
      let lines = lines_of grid rows costs priced ready in
      let sum = sum_given costs in
      let makespan = greatest_given costs in
      let bounds = sum_given (map (λ (line : AgentLine). line.bound) lines.0) in
      let gaps = sum_given (map (λ (line : AgentLine). line.gap) lines.0) in
      let done = all_done grid rows lines.0 costs lines.1 priced in
      let told : Report = record { conflicts = entries; visits = visits; lines = lines.0; sum = sum.0; makespan = makespan.0; bounds = bounds.0; total_gap = gaps.0 } in
      record {
        report = told;
        is_report = record { conflicts = conflicts; visits = blocked; lines = lines.1; sum = (costs, priced, sum.1); makespan = (costs, priced, makespan.1); bounds = bounds.1; total_gap = gaps.1 };
        says = (
          (λ is. record {
            finished = done.0 (means.0 is).0;
            unblocked = nil_from_length visits (means.0 is).1;
            free = λ k d within named. (means.0 is).2 (kind_of (get_or entries k d), (named, (get_or entries k d, All-contains_itself entries k d within, refl)));
          }),
          (λ solves. means.1 (
            done.1 solves.finished,
            ap length solves.unblocked,
            λ has. All-contains (λ (entry : Conflict). IsTrue (is_named kinds (kind_of entry)) → ⊥) entries has.1.1.0 solves.free has.1.1.1 (subst (λ (kind : Kind). IsTrue (is_named kinds kind)) (sym has.1.1.2) has.1.0),
          )),
        );
      }

-- from what is kept of the rows
module _ (rows : List (ℕ × Row)) (entries : List Conflict) (visits : List Visit) (fields : List Standing) (count : ℕ) (kinds : Kinds) (unfinished : IsUnfinishedCount rows count) (by_agent : IsByAgent rows) (listed : IsListed entries) (far : HaveDistances fields) where
  pub kept_verdict : (answer : Bool) → (IsTrue answer ↔ ((count ≡ 0) × (length visits ≡ 0) × (HasAnyAsked kinds entries → ⊥)))
      → (grid : Chart) (mode : Mode) → HasEntries entries (tracks_of mode rows) → AreVisits grid rows visits → StandFor grid fields → HaveFields rows fields → HavePathsOn grid rows → IsVerdict grid mode rows kinds answer
  kept_verdict answer means grid mode has blocked stand aims on =
      let counted : count ≡ count_by is_none unfinished.0 = unfinished.2 in
      verdict grid mode rows entries visits unfinished.0 (record { ascending = listed; exact = has }) blocked unfinished.1 (all_ready grid rows visits fields by_agent blocked stand far aims on) kinds answer
      (subst (λ (n : ℕ). IsTrue answer ↔ ((n ≡ 0) × (length visits ≡ 0) × (HasAnyAsked kinds entries → ⊥))) counted means)
