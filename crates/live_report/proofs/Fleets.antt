-- Books of the rows of a fleet: the same rows, and one row changed.
use Rattle.std.proofs.Common.{◌≡◌, ◌≢◌, ℕ, inl, inr, List, [], Option, Some, None, sym, ap, ◌∙◌, subst, arith}
use Rattle.std.proofs.lemmas.Bool.Decides.{eqb_tells, nat_tests}
use Rattle.std.proofs.lemmas.Option.{MatchOption-at_some, gets}
use Rattle.std.specs.Prelude.{◌↔◌, IfSome, ⊤}
use Rattle.std.proofs.lemmas.Grind.{common_steps}
use Rattle.grid_cells.specs.Cell.{Point}
use Rattle.grid_cells.specs.Grid.{Chart}
use Rattle.plan_table.specs.Plans.{row_of, ChangesRow, IsByAgent}
use Rattle.plan_table.specs.declared.plans.Row.{Row}
use Rattle.cost_ledger.specs.Ledger.{Ledger, StandsForMap}
use Rattle.plan_table.specs.Sets.{Gains, Loses}
use Rattle.goal_fields.specs.Target.{Standing}
use Rattle.goal_fields.specs.Held.{HasGoal, StandFor}
use Rattle.live_report.specs.Aims.{aim}
use Rattle.live_report.specs.Goals.{HoldAimed}
use Rattle.live_report.specs.Prices.{Rows, with_row_in, AimsAt, Prices, AreOfRows}
use Rattle.live_report.specs.PriceLaws.{SameRowsSameBooks}
use Rattle.live_report.proofs.RowAims.{AreAims, aims_same, row_here, row_elsewhere, rows_changed, aims_put, aims_take, aims_stay, aims_moved}
use Rattle.live_report.specs.declared.aims.Aim.{Aim}

pub same_books : SameRowsSameBooks
same_books grid rows other books same are = record {
  by_agent = are.by_agent;
  rows = λ agent. are.rows agent ∙ same agent;
  costs = are.costs;
  aims = λ a. (
    (λ h. aims_same rows other a.agent a.goal (same a.agent) ((are.aims a).0 h)),
    (λ at. (are.aims a).1 (aims_same other rows a.agent a.goal (sym (same a.agent)) at)),
  );
  fields = are.fields;
  goals = λ goal. (
    (λ h. let one = (are.goals goal).0 h in (one.0, aims_same rows other one.0 goal (same one.0) one.1)),
    (λ one. (are.goals goal).1 (one.0, aims_same other rows one.0 goal (sym (same one.0)) one.1)),
  );
}

-- books with nothing in them
pub no_books : (grid : Chart) (books : Prices) → books.costs.rows ≡ [] → StandsForMap books.costs grid → books.aims ≡ [] → books.fields ≡ [] → AreOfRows grid (λ _. None) books
no_books grid books rows stands aims fields = grind (arith, nat_tests, common_steps, gets)

-- the goals that are held are those that agents aim at
held_of : (grid : Chart) (fleet : Rows) (books : Prices) → AreOfRows grid fleet books → HoldAimed books.aims books.fields
held_of grid fleet books are goal = (
  (λ h. let one = (are.goals goal).0 h in (one.0, (are.aims (aim goal one.0)).1 one.1)),
  (λ one. (are.goals goal).1 (one.0, (are.aims (aim goal one.0)).0 one.1)),
)

-- and those that agents aim at are held
goals_aimed : (fleet : Rows) (aims : List Aim) (fields : List Standing) → AreAims fleet aims → HoldAimed aims fields → (goal : Point) → HasGoal fields goal ↔ ((agent : ℕ) × AimsAt fleet agent goal)
goals_aimed fleet aims fields are held goal = (
  (λ h. let one = (held goal).0 h in (one.0, (are (aim goal one.0)).0 one.1)),
  (λ one. (held goal).1 (one.0, (are (aim goal one.0)).1 one.1)),
)

-- books in which one agent's row has changed
module _ (grid : Chart) (fleet : Rows) (old : Prices) (agent : ℕ) (changed : Option Row) (costs : Ledger) (are : AreOfRows grid fleet old) (change : ChangesRow old.costs.rows costs.rows agent changed) (by_agent : IsByAgent costs.rows) (stands : StandsForMap costs grid) where
  books_changed : (aims : List Aim) (fields : List Standing) → AreAims (with_row_in fleet agent changed) aims → StandFor grid fields → HoldAimed aims fields → AreOfRows grid (with_row_in fleet agent changed) (record { costs = costs; aims = aims; fields = fields })
  books_changed aims fields are_aims stand held = record {
    by_agent = by_agent;
    rows = rows_changed fleet old.costs.rows costs.rows agent changed are.rows change;
    costs = stands;
    aims = are_aims;
    fields = stand;
    goals = goals_aimed (with_row_in fleet agent changed) aims fields are_aims held;
  }

-- a row has come
pub books_put : (grid : Chart) (fleet : Rows) (old : Prices) (agent : ℕ) (row : Row) (costs : Ledger) (aims : List Aim) (fields : List Standing) → AreOfRows grid fleet old → row_of old.costs.rows agent ≡ None → ChangesRow old.costs.rows costs.rows agent (Some row) → IsByAgent costs.rows → (StandsForMap old.costs grid → StandsForMap costs grid) → Gains old.aims aims (aim row.goal agent) → StandFor grid fields → HoldAimed aims fields → AreOfRows grid (with_row_in fleet agent (Some row)) (record { costs = costs; aims = aims; fields = fields })
books_put grid fleet old agent row costs aims fields are absent change by_agent stands gains stand held =
    books_changed grid fleet old agent (Some row) costs are change by_agent (stands are.costs) aims fields (aims_put fleet agent old.aims aims are.aims row (sym (are.rows agent) ∙ absent) gains) stand held

-- a row has gone
pub books_take : (grid : Chart) (fleet : Rows) (old : Prices) (agent : ℕ) (goal : Point) (costs : Ledger) (aims : List Aim) (fields : List Standing) → AreOfRows grid fleet old → AimsAt fleet agent goal → ChangesRow old.costs.rows costs.rows agent None → IsByAgent costs.rows → (StandsForMap old.costs grid → StandsForMap costs grid) → Loses old.aims aims (aim goal agent) → (StandFor grid old.fields → StandFor grid fields) → HoldAimed aims fields → AreOfRows grid (with_row_in fleet agent None) (record { costs = costs; aims = aims; fields = fields })
books_take grid fleet old agent goal costs aims fields are at change by_agent stands loses stand held =
    books_changed grid fleet old agent None costs are change by_agent (stands are.costs) aims fields (aims_take fleet agent old.aims aims are.aims goal at loses) (stand are.fields) held

-- a row has another plan
pub books_planned : (grid : Chart) (fleet : Rows) (old : Prices) (agent : ℕ) (row : Row) (costs : Ledger) → AreOfRows grid fleet old → AimsAt fleet agent row.goal → IfSome (row_of old.costs.rows agent) (λ was. ChangesRow old.costs.rows costs.rows agent (Some (record was { plan = row.plan }))) → IsByAgent costs.rows → (StandsForMap old.costs grid → StandsForMap costs grid) → AreOfRows grid (with_row_in fleet agent (Some row)) (record { costs = costs; aims = old.aims; fields = old.fields })
books_planned grid fleet old agent row costs are at change by_agent stands =
    let moves = MatchOption-at_some ⊤ (λ was. ChangesRow old.costs.rows costs.rows agent (Some (record was { plan = row.plan }))) at.row (are.rows agent ∙ at.live) change in
    let now : ChangesRow old.costs.rows costs.rows agent (Some row) = subst (λ (g : Point). ChangesRow old.costs.rows costs.rows agent (Some (record row { goal = g }))) at.aims moves in
    books_changed grid fleet old agent (Some row) costs are now by_agent (stands are.costs) old.aims old.fields (aims_stay fleet agent old.aims old.aims are.aims row at) are.fields (held_of grid fleet old are)

-- a row has another goal
pub books_moved : (grid : Chart) (fleet : Rows) (old : Prices) (agent : ℕ) (row : Row) (before goal : Point) (costs : Ledger) (mid aims : List Aim) (fields : List Standing) → AreOfRows grid fleet old → fleet agent ≡ Some row → row.goal ≡ before → before ≢ goal → IfSome (row_of old.costs.rows agent) (λ was. ChangesRow old.costs.rows costs.rows agent (Some (record was { goal = goal }))) → IsByAgent costs.rows → (StandsForMap old.costs grid → StandsForMap costs grid) → Gains old.aims mid (aim goal agent) → Loses mid aims (aim before agent) → StandFor grid fields → HoldAimed aims fields → AreOfRows grid (with_row_in fleet agent (Some (record row { goal = goal }))) (record { costs = costs; aims = aims; fields = fields })
books_moved grid fleet old agent row before goal costs mid aims fields are live is moves change by_agent stands gains loses stand held =
    let now : Row = record row { goal = goal } in
    books_changed grid fleet old agent (Some now) costs are
    (MatchOption-at_some ⊤ (λ was. ChangesRow old.costs.rows costs.rows agent (Some (record was { goal = goal }))) row (are.rows agent ∙ live) change)
    by_agent (stands are.costs) aims fields
    (aims_moved fleet agent old.aims aims are.aims mid now before (record { row = row; live = live; aims = is }) moves gains loses) stand held

-- a row has the goal that it had
pub books_stay : (grid : Chart) (fleet : Rows) (books : Prices) (agent : ℕ) (row : Row) (goal : Point) → AreOfRows grid fleet books → fleet agent ≡ Some row → row.goal ≡ goal → AreOfRows grid (with_row_in fleet agent (Some (record row { goal = goal }))) books
books_stay grid fleet books agent row goal are live same =
    let now : Row = record row { goal = goal } in
    let is : row ≡ now = λ i. record row { goal = same i } in
    same_books grid fleet (with_row_in fleet agent (Some now)) books
    (λ other. elim (eqb_tells other agent) [
      | inl here ↦ ap fleet here.1 ∙ live ∙ ap Some is ∙ sym (row_here fleet agent (Some now) other here.0)
      | inr apart ↦ sym (row_elsewhere fleet agent (Some now) other apart.0)
    ])
    are

-- the map has changed
pub books_flipped : (old new : Chart) (fleet : Rows) (books : Prices) (costs : Ledger) (aims : List Aim) (fields : List Standing) → AreOfRows old fleet books → costs.rows ≡ books.costs.rows → StandsForMap costs new → aims ≡ books.aims → StandFor new fields → HoldAimed aims fields → AreOfRows new fleet (record { costs = costs; aims = aims; fields = fields })
books_flipped old new fleet books costs aims fields are rows stands same stand held = record {
  by_agent = subst IsByAgent (sym rows) are.by_agent;
  rows = λ agent. ap (λ (r : List (ℕ × Row)). row_of r agent) rows ∙ are.rows agent;
  costs = stands;
  aims = are_aims;
  fields = stand;
  goals = goals_aimed fleet aims fields are_aims held;
}
  where
    are_aims : AreAims fleet aims
    are_aims = subst (AreAims fleet) (sym same) are.aims
