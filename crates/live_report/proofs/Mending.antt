-- Lines of a table's agents, one agent's line changed.
use Rattle.std.proofs.Common.{◌≡◌, ℕ, zero, suc, ◌<◌, ◌≤◌, false, List, [], ◌∷◌, length, get_or, set, Option, Some, None, Result, Ok, Err, IfOk, IfErr, refl, sym, ap, subst, ◌∙◌, arith}
use Rattle.std.specs.List.{insert, remove}
use Rattle.std.specs.List.Sorted.{IsNonDecreasingBy, IsPartitionPoint, IsSearchInRange, IsBinarySearchResult}
use Rattle.std.specs.Ordering.{nat_cmp, ordering_index}
use Rattle.std.specs.declared.cmp.Ordering.TheVariants.{Less, Equal, Greater}
use Rattle.std.proofs.lemmas.Bool.Decides.{nat_tests}
use Rattle.std.proofs.lemmas.Cmp.{ranked}
use Rattle.std.proofs.lemmas.Grind.{common_steps}
use Rattle.grid_cells.specs.Grid.{Chart}
use Rattle.plan_table.specs.Order.{EachOf}
use Rattle.std.proofs.lemmas.Option.{same_Some, slice_get-get_or}
use Rattle.plan_table.specs.Plans.{row_of, IsByAgent, IsAt, IsGapFor, ChangesRow}
use Rattle.plan_table.proofs.Fleets.{row_here}
use Rattle.plan_table.specs.declared.plans.Row.{Row}
use Rattle.plan_table.proofs.Order.{EachOf-length, EachOf-at}
use Rattle.plan_table.proofs.Rows.{row_of_gap, changes_row_insert, changes_row_remove, changes_row_set, by_agent_insert, by_agent_remove}
use Rattle.desk_report.specs.declared.reports.AgentLine.{AgentLine}
use Rattle.live_report.specs.Lines.{IsOpenLine, AreOpenLines, AreLinesOf, GoWith}
use Rattle.live_report.specs.Looks.{IsOpenLineAt}
use Rattle.live_report.specs.Prices.{Rows, with_row_in}
use Rattle.live_report.proofs.RowAims.{rows_changed}

-- ---- an element more, one fewer, another one
module _ {A B : Type 0} (R : A → B → Type 0) where
  EachOf-insert : (xs : List A) (ys : List B) (at : ℕ) (x : A) (y : B) → EachOf R xs ys → R x y → EachOf R (insert xs at x) (insert ys at y)
  EachOf-insert xs ys zero x y each here = (here, each)
  EachOf-insert [] [] (suc at) x y each here = (here, tt)
  EachOf-insert [] (b ∷ ys) (suc at) x y each here = absurd each
  EachOf-insert (a ∷ xs) [] (suc at) x y each here = absurd each
  EachOf-insert (a ∷ xs) (b ∷ ys) (suc at) x y each here = (each.0, EachOf-insert xs ys at x y each.1 here)

  EachOf-remove : (xs : List A) (ys : List B) (at : ℕ) → EachOf R xs ys → EachOf R (remove xs at) (remove ys at)
  EachOf-remove [] [] zero each = tt
  EachOf-remove [] [] (suc at) each = tt
  EachOf-remove [] (b ∷ ys) at each = absurd each
  EachOf-remove (a ∷ xs) [] at each = absurd each
  EachOf-remove (a ∷ xs) (b ∷ ys) zero each = each.1
  EachOf-remove (a ∷ xs) (b ∷ ys) (suc at) each = (each.0, EachOf-remove xs ys at each.1)

  EachOf-set : (xs : List A) (ys : List B) (at : ℕ) (x : A) (y : B) → EachOf R xs ys → R x y → EachOf R (set xs at x) (set ys at y)
  EachOf-set [] [] at x y each here = tt
  EachOf-set [] (b ∷ ys) at x y each here = absurd each
  EachOf-set (a ∷ xs) [] at x y each here = absurd each
  EachOf-set (a ∷ xs) (b ∷ ys) zero x y each here = (here, each.1)
  EachOf-set (a ∷ xs) (b ∷ ys) (suc at) x y each here = (each.0, EachOf-set xs ys at x y each.1 here)

-- ---- where a line stands
same_agent : (table : List (ℕ × Row)) (lines : List AgentLine) → GoWith table lines → (k : ℕ) (e : ℕ × Row) (d : AgentLine) → k < length table → (get_or lines k d).agent ≡ (get_or table k e).0
same_agent [] lines go k e d within = absurd (omega arith)
same_agent (x ∷ table) [] go k e d within = absurd go
same_agent (x ∷ table) (y ∷ lines) go zero e d within = go.0
same_agent (x ∷ table) (y ∷ lines) go (suc k) e d within = same_agent table lines go.1 k e d (omega arith)

some_line : AgentLine
some_line = record { agent = 0; settle = 0; finished = false; bound = None; gap = None }

some_entry : ℕ × Row
some_entry = (0, record { goal = record { x = 0; y = 0 }; plan = [] })

module _ (table : List (ℕ × Row)) (lines : List AgentLine) (by_agent : IsByAgent table) (go : GoWith table lines) (agent at : ℕ) where
  long : length table ≡ length lines
  long = EachOf-length (λ (entry : ℕ × Row) (line : AgentLine). line.agent ≡ entry.0) table lines go

  found_at : at < length lines → ((d : AgentLine) → nat_cmp (get_or lines at d).agent agent ≡ Equal) → IsAt table agent at
  found_at within equal =
      let inside : at < length table = omega (arith, long) in
      record { in_range = inside; has_agent = λ e. sym (same_agent table lines go at e some_line inside) ∙ ranked _ agent _ (sym (equal some_line)) }

  rise : IsNonDecreasingBy (λ (line : AgentLine). ordering_index (nat_cmp line.agent agent)) lines
  rise i j d le within =
      let upper : j < length table = omega (arith, long) in
      let one = same_agent table lines go i some_entry d (omega arith) in
      let other = same_agent table lines go j some_entry d upper in
      let order : (get_or lines i d).agent ≤ (get_or lines j d).agent = grind (arith, one, other, by_agent i j some_entry, λ (same : i ≡ j). ap (λ k. (get_or lines k d).agent) same) in
      grind (arith, nat_tests)

  gap_at : at ≤ length lines → (IsNonDecreasingBy (λ (line : AgentLine). ordering_index (nat_cmp line.agent agent)) lines → IsPartitionPoint (λ (line : AgentLine). nat_cmp line.agent agent ≡ Less) (λ line. nat_cmp line.agent agent ≡ Greater) lines at) → IsGapFor table agent at
  gap_at within parted = record {
    in_range = omega (arith, long);
    lesser_before = λ k e lt.
        let same = same_agent table lines go k e some_line (omega (arith, long)) in
        let less : (get_or lines k some_line).agent < agent = ranked _ agent _ (sym ((parted rise).0 k some_line (omega arith) lt)) in
        omega arith;
    greater_after = λ k e le lt.
        let same = same_agent table lines go k e some_line lt in
        let more : agent < (get_or lines k some_line).agent = ranked _ agent _ (sym ((parted rise).1 k some_line le (omega (arith, long)))) in
        omega arith;
  }

-- a binary search ends at the agent's line, or at the gap for it
pub searched : (lines : List AgentLine) (agent : ℕ) (r : Result ℕ ℕ) → IsSearchInRange r (length lines) → IsBinarySearchResult (λ (line : AgentLine). nat_cmp line.agent agent) lines r → record { within : IfOk r (λ at. at < length lines); room : IfErr r (λ at. at ≤ length lines); found : IfOk r (λ at. (table : List (ℕ × Row)) → IsByAgent table → GoWith table lines → IsAt table agent at); absent : IfErr r (λ at. (table : List (ℕ × Row)) → IsByAgent table → GoWith table lines → IsGapFor table agent at) }
searched lines agent (Ok at) within equal = record { within = within; room = tt; found = λ table by_agent go. found_at table lines by_agent go agent at within equal; absent = tt }
searched lines agent (Err at) within parted = record { within = tt; room = within; found = tt; absent = λ table by_agent go. gap_at table lines by_agent go agent at within parted }

-- ---- an agent's line
pub go_with : (grid : Chart) (table : List (ℕ × Row)) (lines : List AgentLine) → AreOpenLines grid table lines → GoWith table lines
go_with grid [] [] are = tt
go_with grid [] (y ∷ lines) are = absurd are
go_with grid (x ∷ table) [] are = absurd are
go_with grid (x ∷ table) (y ∷ lines) are = (are.0.agent, go_with grid table lines are.1)

module _ (grid : Chart) (rows : Rows) (lines : List AgentLine) (were : AreLinesOf grid rows lines) (agent at : ℕ) where
  mended : (table : List (ℕ × Row)) (new : List AgentLine) (changed : Option Row) → ChangesRow were.table table agent changed → IsByAgent table → AreOpenLines grid table new → AreLinesOf grid (with_row_in rows agent changed) new
  mended table new changed change by_agent are = record { table = table; by_agent = by_agent; same = rows_changed rows were.table table agent changed were.same change; are = are }

  -- another one in its place
  pub line_set : (row : Row) (line : AgentLine) → IsAt were.table agent at → IsOpenLine grid (agent, row) line → AreLinesOf grid (with_row_in rows agent (Some row)) (set lines at line)
  line_set row line found is =
      mended (set were.table at (agent, row)) (set lines at line) (Some row) (changes_row_set were.table agent at row were.by_agent found)
      (λ i j d lt within. grind (arith, common_steps, were.by_agent i j d, were.by_agent i at d, were.by_agent at j d, found.in_range, found.has_agent d))
      (EachOf-set (IsOpenLine grid) were.table lines at (agent, row) line were.are is)

  -- its first one
  pub line_inserted : (row : Row) (line : AgentLine) → IsGapFor were.table agent at → IsOpenLine grid (agent, row) line → AreLinesOf grid (with_row_in rows agent (Some row)) (insert lines at line)
  line_inserted row line gap is =
      mended (insert were.table at (agent, row)) (insert lines at line) (Some row) (changes_row_insert were.table agent at row gap) (by_agent_insert were.table agent at row gap were.by_agent) (EachOf-insert (IsOpenLine grid) were.table lines at (agent, row) line were.are is)

  -- none
  pub line_removed : IsAt were.table agent at → AreLinesOf grid (with_row_in rows agent None) (remove lines at)
  line_removed found =
      mended (remove were.table at) (remove lines at) None (changes_row_remove were.table agent at were.by_agent found) (by_agent_remove were.table at found.in_range were.by_agent) (EachOf-remove (IsOpenLine grid) were.table lines at were.are)

  pub line_absent : IsGapFor were.table agent at → AreLinesOf grid (with_row_in rows agent None) lines
  line_absent gap = mended were.table lines None (record { this_agent = row_of_gap were.table agent at gap; other_agents = λ a h. refl }) were.by_agent were.are

-- the line that a search finds is the agent's
pub line_found : (grid : Chart) (rows : Rows) (lines : List AgentLine) (were : AreLinesOf grid rows lines) (agent at : ℕ) → IsAt were.table agent at → (line : AgentLine) → line ≡ get_or lines at line → IsOpenLineAt grid rows agent (Some line)
line_found grid rows lines were agent at found line is =
    let entry = get_or were.table at some_entry in
    let there = slice_get-get_or were.table at some_entry found.in_range in
    let goes = EachOf-at (IsOpenLine grid) were.table lines were.are at entry there in
    let long = EachOf-length (IsOpenLine grid) were.table lines were.are in
    let here : goes.0 ≡ line = same_Some goes.0 line (sym goes.1 ∙ slice_get-get_or lines at line (omega (arith, found.in_range, long)) ∙ ap Some (sym is)) in
    let own : entry.0 ≡ agent = found.has_agent some_entry in
    let live : row_of were.table entry.0 ≡ Some entry.1 = (row_here were.table were.by_agent at entry.0 entry.1 there).0 in (
      entry.1,
      sym (were.same agent) ∙ ap (row_of were.table) (sym own) ∙ live,
      subst (λ a. IsOpenLine grid (a, entry.1) line) own (subst (IsOpenLine grid entry) here goes.2),
    )
