-- Rows in the order of their agents: what a look-up finds, and what an edit does to it.
use Rattle.std.proofs.Common.{◌≡◌, ◌≢◌, ℕ, zero, suc, ◌+◌, ◌-◌, ◌<◌, ◌≤◌, eqb, List, [], ◌∷◌, length, get_or, set, if◌then◌else◌, Some, None, Option, Result, Ok, Err, IfOk, IfErr, refl, sym, ap, subst, arith}
use Rattle.std.specs.List.{insert, remove}
use Rattle.std.proofs.lemmas.List.Elements.{All-append, All-cons, All-take, All-drop, All-get_or, All-set}
use Rattle.std.specs.List.Sorted.{IsSearchInRange, IsBinarySearchResult, IsNonDecreasingBy}
use Rattle.std.specs.Ordering.{nat_cmp, ordering_index}
use Rattle.std.proofs.lemmas.Cmp.{ranked}
use Rattle.std.proofs.lemmas.Bool.Decides.{nat_tests}
use Rattle.std.proofs.lemmas.Grind.{common_steps}
use Rattle.std.proofs.lemmas.List.Edits.{length-insert, get_or-insert_below, get_or-insert_at, get_or-insert_above, length-remove, get_or-remove_below, get_or-remove_above}
use Rattle.plan_table.specs.Plans.{IsByAgent, AreRows, IsAt, IsGapFor, row_of, ChangesRow, with_goal, with_plan}
use Rattle.grid_cells.specs.Cell.{Point}
use Rattle.grid_cells.specs.declared.numbers.TheConstants.{MOST_AGENT}
use Rattle.plan_table.specs.declared.plans.Row.{Row}

-- no row before the place is the agent's
abbrev pub NoneBefore : List (ℕ × Row) → ℕ → ℕ → Type 0
NoneBefore rows agent place = (k : ℕ) (d : ℕ × Row) → k < place → (get_or rows k d).0 ≢ agent

none_before_tail : (x : ℕ × Row) (rows : List (ℕ × Row)) (agent place : ℕ) → NoneBefore (x ∷ rows) agent (suc place) → NoneBefore rows agent place
none_before_tail x rows agent place none k d h = none (suc k) d (omega arith)

is_at_tail : (x : ℕ × Row) (rows : List (ℕ × Row)) (agent place : ℕ) → IsAt (x ∷ rows) agent (suc place) → IsAt rows agent place
is_at_tail x rows agent place is_at = record { in_range = omega (arith, is_at.in_range); has_agent = is_at.has_agent }

pub row_of_absent : (rows : List (ℕ × Row)) (agent : ℕ) → NoneBefore rows agent (length rows) → row_of rows agent ≡ None
row_of_absent [] agent none = refl
row_of_absent (x ∷ rows) agent none = grind (arith, nat_tests, none 0 x (omega arith), row_of_absent rows agent (none_before_tail x rows agent _ none))

pub row_of_present : (rows : List (ℕ × Row)) (agent place : ℕ) (d : ℕ × Row) → IsAt rows agent place → NoneBefore rows agent place → row_of rows agent ≡ Some (get_or rows place d).1
row_of_present [] agent place d is_at none = absurd (omega (arith, is_at.in_range))
row_of_present (x ∷ rows) agent zero d is_at none = grind (arith, nat_tests, is_at.has_agent d)
row_of_present (x ∷ rows) agent (suc place) d is_at none = grind (arith, nat_tests, none 0 x (omega arith), row_of_present rows agent place d (is_at_tail x rows agent place is_at) (none_before_tail x rows agent place none))

pub row_of-insert : (rows : List (ℕ × Row)) (agent : ℕ) (row : Row) (place : ℕ) → NoneBefore rows agent place → (q : ℕ) → row_of (insert rows place (agent, row)) q ≡ (if eqb agent q then Some row else row_of rows q)
row_of-insert rows agent row zero none q = refl
row_of-insert [] agent row (suc place) none q = refl
row_of-insert (x ∷ rows) agent row (suc place) none q = grind (arith, nat_tests, none 0 x (omega arith), row_of-insert rows agent row place (none_before_tail x rows agent place none) q)

-- the first row is below the others
pub first_below : (x : ℕ × Row) (rows : List (ℕ × Row)) → IsByAgent (x ∷ rows) → NoneBefore rows x.0 (length rows)
first_below x rows by_agent k d h same = omega (arith, by_agent 0 (suc k) d (omega arith) (omega arith))

pub tail_by_agent : (x : ℕ × Row) (rows : List (ℕ × Row)) → IsByAgent (x ∷ rows) → IsByAgent rows
tail_by_agent x rows by_agent i j d h within = by_agent (suc i) (suc j) d (omega arith) (omega arith)

pub row_of-remove : (rows : List (ℕ × Row)) (agent place : ℕ) → IsByAgent rows → IsAt rows agent place → (q : ℕ) → row_of (remove rows place) q ≡ (if eqb agent q then None else row_of rows q)
row_of-remove [] agent place by_agent is_at q = absurd (omega (arith, is_at.in_range))
row_of-remove (x ∷ rows) agent zero by_agent is_at q = grind (arith, nat_tests, is_at.has_agent x, row_of_absent rows x.0 (first_below x rows by_agent))
row_of-remove (x ∷ rows) agent (suc place) by_agent is_at q =
    let differs : x.0 ≢ agent = λ same. omega (arith, by_agent 0 (suc place) x (omega arith) is_at.in_range, is_at.has_agent x) in
    grind (arith, nat_tests, differs, row_of-remove rows agent place (tail_by_agent x rows by_agent) (is_at_tail x rows agent place is_at) q)

-- one equation for every agent gives both facts
pub changes_row : (old new : List (ℕ × Row)) (agent : ℕ) (row : Option Row) → ((q : ℕ) → row_of new q ≡ (if eqb agent q then row else row_of old q)) → ChangesRow old new agent row
changes_row old new agent row gives = record { this_agent = grind (arith, nat_tests, gives agent); other_agents = λ q differs. grind (arith, nat_tests, gives q) }

module _ (rows : List (ℕ × Row)) (by_agent : IsByAgent rows) (agent : ℕ) where
  comparisons_rise : IsNonDecreasingBy (λ row. ordering_index (nat_cmp row.0 agent)) rows
  comparisons_rise i j d le within =
      let rise : (get_or rows i d).0 ≤ (get_or rows j d).0 = grind (arith, by_agent i j d, λ (same : i ≡ j). ap (λ k. (get_or rows k d).0) same) in
      grind (arith, nat_tests)

  -- a binary search ends at the agent's row, or at the gap for it
  pub searched : (r : Result ℕ ℕ) → IsSearchInRange r (length rows) → IsBinarySearchResult (λ row. nat_cmp row.0 agent) rows r → record { found : IfOk r (IsAt rows agent); absent : IfErr r (IsGapFor rows agent) }
  searched (Ok at) within equal = record { found = record { in_range = within; has_agent = λ d. ranked _ agent _ (sym (equal d)) }; absent = tt }
  searched (Err at) within parted = record {
    found = tt;
    absent = record {
      in_range = within;
      lesser_before = λ k d lt. ranked _ agent _ (sym ((parted comparisons_rise).0 k d (omega arith) lt));
      greater_after = λ k d le lt. ranked _ agent _ (sym ((parted comparisons_rise).1 k d le lt));
    };
  }

  pub none_before_at : (place : ℕ) → IsAt rows agent place → NoneBefore rows agent place
  none_before_at place is_at k d lt same = omega (arith, by_agent k place d lt is_at.in_range, is_at.has_agent d)

  pub row_of_at : (place : ℕ) (d : ℕ × Row) → IsAt rows agent place → row_of rows agent ≡ Some (get_or rows place d).1
  row_of_at place d is_at = row_of_present rows agent place d is_at (none_before_at place is_at)

pub row_of_gap : (rows : List (ℕ × Row)) (agent place : ℕ) → IsGapFor rows agent place → row_of rows agent ≡ None
row_of_gap rows agent place gap = row_of_absent rows agent (λ k d lt same. grind (arith, gap.lesser_before k d, gap.greater_after k d))

pub changes_row_insert : (rows : List (ℕ × Row)) (agent place : ℕ) (row : Row) → IsGapFor rows agent place → ChangesRow rows (insert rows place (agent, row)) agent (Some row)
changes_row_insert rows agent place row gap = changes_row _ _ agent (Some row) (row_of-insert rows agent row place (λ k d lt same. omega (arith, gap.lesser_before k d lt)))

pub changes_row_remove : (rows : List (ℕ × Row)) (agent place : ℕ) → IsByAgent rows → IsAt rows agent place → ChangesRow rows (remove rows place) agent None
changes_row_remove rows agent place by_agent is_at = changes_row _ _ agent None (row_of-remove rows agent place by_agent is_at)

pub by_agent_insert : (rows : List (ℕ × Row)) (agent place : ℕ) (row : Row) → IsGapFor rows agent place → IsByAgent rows → IsByAgent (insert rows place (agent, row))
by_agent_insert rows agent place row gap by_agent i j d lt within =
    let new = insert rows place (agent, row) in
    let key = λ (x : ℕ × Row). x.0 in
    let length_new = length-insert rows place (agent, row) gap.in_range in
    let below : (i : ℕ) → i < place → (get_or new i d).0 ≡ (get_or rows i d).0 = λ i h. ap key (get_or-insert_below rows place (agent, row) d i h gap.in_range) in
    let here : (i : ℕ) → i ≡ place → (get_or new i d).0 ≡ agent = λ i h. rw h (ap key (get_or-insert_at rows place (agent, row) d gap.in_range)) in
    let above : (i : ℕ) → place < i → (get_or new i d).0 ≡ (get_or rows (i - 1) d).0 = λ i h. subst (λ q. (get_or new q d).0 ≡ (get_or rows (i - 1) d).0) {x = i - 1 + 1} (omega arith) (ap key (get_or-insert_above rows place (agent, row) d (i - 1) (omega arith) gap.in_range)) in
    grind (arith, below i, here i, above i, below j, here j, above j, by_agent i j d, by_agent i (j - 1) d, by_agent (i - 1) (j - 1) d, gap.lesser_before i d, gap.greater_after (j - 1) d)

-- a removal keeps the order: each new row is an old one, or one moved down
pub by_agent_remove : (rows : List (ℕ × Row)) (place : ℕ) → place < length rows → IsByAgent rows → IsByAgent (remove rows place)
by_agent_remove rows place within by_agent i j d lt inside =
    let shorter = length-remove rows place within in
    let below : (i : ℕ) → i < place → (get_or (remove rows place) i d).0 ≡ (get_or rows i d).0 = λ i h. ap (λ (x : ℕ × Row). x.0) (get_or-remove_below rows place d i h within) in
    let above : (i : ℕ) → place ≤ i → (get_or (remove rows place) i d).0 ≡ (get_or rows (i + 1) d).0 = λ i h. ap (λ (x : ℕ × Row). x.0) (get_or-remove_above rows place d i h within) in
    grind (arith, below i, above i, below j, above j, by_agent i j d, by_agent i (j + 1) d, by_agent (i + 1) (j + 1) d)

pub rows_insert : (rows : List (ℕ × Row)) (agent place : ℕ) (row : Row) → IsGapFor rows agent place → agent ≤ MOST_AGENT → AreRows rows → AreRows (insert rows place (agent, row))
rows_insert rows agent place row gap small are =
    let P : ℕ × Row → Type 0 = λ x. x.0 ≤ MOST_AGENT in
    record {
      by_agent = by_agent_insert rows agent place row gap are.by_agent;
      numbers = All-append P _ _ (All-take P place rows are.numbers) (All-cons P _ _ small (All-drop P place rows are.numbers));
    }

pub rows_remove : (rows : List (ℕ × Row)) (place : ℕ) → place < length rows → AreRows rows → AreRows (remove rows place)
rows_remove rows place within are =
    let P : ℕ × Row → Type 0 = λ x. x.0 ≤ MOST_AGENT in
    record {
      by_agent = by_agent_remove rows place within are.by_agent;
      numbers = All-append P _ _ (All-take P place rows are.numbers) (All-drop P (suc place) rows are.numbers);
    }

-- an agent is at least its rank
pub rank-le : (rows : List (ℕ × Row)) → IsByAgent rows → (rank : ℕ) (d : ℕ × Row) → rank < length rows → rank ≤ (get_or rows rank d).0
rank-le rows by_agent zero d within = omega arith
rank-le rows by_agent (suc rank) d within =
    omega (arith, rank-le rows by_agent rank d (omega arith), by_agent rank (suc rank) d (omega arith) within)

-- so there are few rows
pub rows_few : (rows : List (ℕ × Row)) → AreRows rows → length rows ≤ MOST_AGENT + 1
rows_few [] are = omega arith
rows_few (x ∷ rows) are =
    let last = rank-le (x ∷ rows) are.by_agent (length rows) x (omega arith) in
    let small : (get_or (x ∷ rows) (length rows) x).0 ≤ MOST_AGENT = All-get_or (λ row. row.0 ≤ MOST_AGENT) (x ∷ rows) (length rows) x (omega arith) are.numbers in
    omega arith

pub row_of-set : (rows : List (ℕ × Row)) (agent : ℕ) (row : Row) (place : ℕ) → IsAt rows agent place → NoneBefore rows agent place → (q : ℕ) → row_of (set rows place (agent, row)) q ≡ (if eqb agent q then Some row else row_of rows q)
row_of-set [] agent row place is_at none q = absurd (omega (arith, is_at.in_range))
row_of-set (x ∷ rows) agent row zero is_at none q = grind (arith, nat_tests, is_at.has_agent x)
row_of-set (x ∷ rows) agent row (suc place) is_at none q = grind (arith, nat_tests, none 0 x (omega arith), row_of-set rows agent row place (is_at_tail x rows agent place is_at) (none_before_tail x rows agent place none) q)

pub changes_row_set : (rows : List (ℕ × Row)) (agent place : ℕ) (row : Row) → IsByAgent rows → IsAt rows agent place → ChangesRow rows (set rows place (agent, row)) agent (Some row)
changes_row_set rows agent place row by_agent is_at = changes_row _ _ agent (Some row) (row_of-set rows agent row place is_at (none_before_at rows by_agent agent place is_at))

pub rows_set : (rows : List (ℕ × Row)) (agent place : ℕ) (row : Row) → IsAt rows agent place → AreRows rows → AreRows (set rows place (agent, row))
rows_set rows agent place row is_at are =
    let P : ℕ × Row → Type 0 = λ x. x.0 ≤ MOST_AGENT in
    let small : agent ≤ MOST_AGENT = subst (λ n. n ≤ MOST_AGENT) (is_at.has_agent (agent, row)) (All-get_or P rows place (agent, row) is_at.in_range are.numbers) in
    record {
      by_agent = λ i j d lt within. grind (arith, common_steps, are.by_agent i j d, are.by_agent i place d, are.by_agent place j d, is_at.in_range, is_at.has_agent d);
      numbers = All-set P rows place (agent, row) small are.numbers;
    }

-- a row with another goal, written back, stands for the same agent
pub set_here : (rows : List (ℕ × Row)) (agent place : ℕ) (d : ℕ × Row) (goal : Point) → IsAt rows agent place → set rows place (with_goal (get_or rows place d) goal) ≡ set rows place (agent, record (get_or rows place d).1 { goal = goal })
set_here rows agent place d goal is_at = ap (λ (a : ℕ). set rows place (a, record (get_or rows place d).1 { goal = goal })) (is_at.has_agent d)

-- the same of a plan
pub set_plan_here : (rows : List (ℕ × Row)) (agent place : ℕ) (d : ℕ × Row) (plan : List Point) → IsAt rows agent place → set rows place (with_plan (get_or rows place d) plan) ≡ set rows place (agent, record (get_or rows place d).1 { plan = plan })
set_plan_here rows agent place d plan is_at = ap (λ (a : ℕ). set rows place (a, record (get_or rows place d).1 { plan = plan })) (is_at.has_agent d)
