-- Rows in an ordered map: what a look-up finds, and the sums of numbers of rows, after an edit.
use Rattle.std.proofs.Common.{◌≡◌, ℕ, ◌+◌, cond, List, [], ◌∷◌, Some, None, Option, refl, sym, ◌∙◌, arith}
use Rattle.std.specs.Prelude.{IfSome, sum_by}
use Rattle.std.specs.Ordering.{nat_cmp}
use Rattle.std.specs.List.Sorted.{IsStrictlySortedBy}
use Rattle.std.specs.Map.{lookup, remove_entry, set_value, keys_of, values_of}
use Rattle.std.specs.BTreeMap.{insert_entry, is_at}
use Rattle.std.proofs.lemmas.Bool.Decides.{nat_tests}
use Rattle.std.proofs.lemmas.List.{get_or-map, length-map}
use Rattle.std.proofs.lemmas.List.Sums.{sum_by-cons}
use Rattle.std.proofs.lemmas.Map.Entries.{sum_by-insert_entry, sum_by-remove_entry, sum_by-set_value}
use Rattle.std.proofs.lemmas.Map.Keys.{Less-from_sorted}
use Rattle.plan_table.specs.Plans.{IsByAgent, row_of, ChangesRow}
use Rattle.plan_table.specs.declared.plans.Row.{Row}
use Rattle.cost_ledger.specs.Kept.{sum_of_rows}
use Rattle.std.proofs.lemmas.Cmp.{nat_cmp_total}

-- a look-up in the map finds the row
pub row_of_lookup : (rows : List (ℕ × Row)) (agent : ℕ) → lookup (is_at (nat_cmp agent)) rows ≡ row_of rows agent
row_of_lookup [] agent = refl
row_of_lookup ((a, row) ∷ rows) agent = grind (arith, nat_tests, row_of_lookup rows agent)

pub changes : (old new : List (ℕ × Row)) (agent : ℕ) (row : Option Row) → ((q : ℕ) → lookup (is_at (nat_cmp q)) new ≡ cond (is_at (nat_cmp agent) q) row (lookup (is_at (nat_cmp q)) old)) → ChangesRow old new agent row
changes old new agent row updates = grind (arith, nat_tests, row_of_lookup new, row_of_lookup old, updates)

-- the sum of a number over the rows, one row at a time
sum_first : (number : Row → ℕ) (x : ℕ × Row) (rows : List (ℕ × Row)) → sum_of_rows number (x ∷ rows) ≡ number x.1 + sum_of_rows number rows
sum_first number x rows = sum_by-cons (λ (entry : ℕ × Row). number entry.1) x rows

sum_values : (number : Row → ℕ) (rows : List (ℕ × Row)) → sum_of_rows number rows ≡ sum_by number (values_of rows)
sum_values number [] = refl
sum_values number (x ∷ rows) = grind (arith, sum_first number x rows, sum_by-cons number x.1 (values_of rows), sum_values number rows)

module _ (number : Row → ℕ) (agent : ℕ) (row : Row) (rows : List (ℕ × Row)) where
  pub sum_insert : IsStrictlySortedBy nat_cmp (keys_of rows) → row_of rows agent ≡ None → sum_of_rows number (insert_entry nat_cmp rows agent row) ≡ sum_of_rows number rows + number row
  sum_insert sorted none = grind (arith, sum_values, sum_by-insert_entry number nat_cmp_total rows agent row sorted, row_of_lookup rows agent)

  pub sum_remove : row_of rows agent ≡ Some row → sum_of_rows number (remove_entry (is_at (nat_cmp agent)) rows) + number row ≡ sum_of_rows number rows
  sum_remove found = grind (arith, sum_values, sum_by-remove_entry number (is_at (nat_cmp agent)) rows, row_of_lookup rows agent)

  pub sum_set : (after : Row) → row_of rows agent ≡ Some row → sum_of_rows number (set_value (is_at (nat_cmp agent)) rows after) + number row ≡ sum_of_rows number rows + number after
  sum_set after found = grind (arith, sum_values, sum_by-set_value number (is_at (nat_cmp agent)) rows row after (row_of_lookup rows agent ∙ found))

-- the row that a look-up finds is taken out of each sum
pub sums_removed : (old new : List (ℕ × Row)) (agent : ℕ) (found : Option Row) → found ≡ row_of old agent → new ≡ remove_entry (is_at (nat_cmp agent)) old → IfSome found (λ row. (number : Row → ℕ) → sum_of_rows number new + number row ≡ sum_of_rows number old)
sums_removed old new agent None is left = tt
sums_removed old new agent (Some row) is left = λ number. rw left (sum_remove number agent row old (sym is))

-- the rows of a map rise by agent
pub by_agent_sorted : (rows : List (ℕ × Row)) → IsStrictlySortedBy nat_cmp (keys_of rows) → IsByAgent rows
by_agent_sorted rows sorted i j d lt within =
    let agent_at = λ (k : ℕ). get_or-map (λ (e : ℕ × Row). e.0) rows k d 0 in
    grind (arith, nat_tests, length-map rows (λ (e : ℕ × Row). e.0), Less-from_sorted nat_cmp (keys_of rows) i j 0 sorted, agent_at i, agent_at j)
