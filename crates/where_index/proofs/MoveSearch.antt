-- What a binary search in a list of moves by agent ends at.
use Rattle.std.proofs.Common.{◌≡◌, ℕ, ◌≤◌, List, length, get_or, Result, Ok, Err, IfOk, IfErr, sym, ap, arith}
use Rattle.std.specs.List.Sorted.{IsSearchInRange, IsBinarySearchResult, IsNonDecreasingBy}
use Rattle.std.specs.Ordering.{nat_cmp, ordering_index}
use Rattle.std.proofs.lemmas.Cmp.{ranked}
use Rattle.std.proofs.lemmas.Bool.Decides.{nat_tests}
use Rattle.where_index.specs.declared.moves.Move.{Move}
use Rattle.where_index.specs.Moves.{AreByAgent, IsMoveAt, IsMoveGap}

module _ (moves : List Move) (by_agent : AreByAgent moves) (agent : ℕ) where
  comparisons_rise : IsNonDecreasingBy (λ (m : Move). ordering_index (nat_cmp m.agent agent)) moves
  comparisons_rise i j d le within =
      let rise : (get_or moves i d).agent ≤ (get_or moves j d).agent = grind (arith, by_agent i j d, λ (same : i ≡ j). ap (λ k. (get_or moves k d).agent) same) in
      grind (arith, nat_tests)

  -- it ends at the agent's move, or at the gap for it
  pub searched : (r : Result ℕ ℕ) → IsSearchInRange r (length moves) → IsBinarySearchResult (λ (m : Move). nat_cmp m.agent agent) moves r → record { found : IfOk r (IsMoveAt moves agent); absent : IfErr r (IsMoveGap moves agent) }
  searched (Ok at) within equal = record { found = record { within = within; has_agent = λ d. ranked _ agent _ (sym (equal d)) }; absent = tt }
  searched (Err at) within parted = record {
    found = tt;
    absent = record {
      within = within;
      lesser_before = λ k d lt. ranked _ agent _ (sym ((parted comparisons_rise).0 k d (omega arith) lt));
      greater_after = λ k d le lt. ranked _ agent _ (sym ((parted comparisons_rise).1 k d le lt));
    };
  }
