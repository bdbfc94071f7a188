use Rattle.std.proofs.Common.{◌≡◌, ℕ, slice_index, vec_len}
use Rattle.where_index.proofs.tallies.reach.Given as goal

abbrev pub invariant-loop : goal.invariant-loop
invariant-loop l = record {
  long : vec_len l.numbers ≡ l.counter;
  same : (t : ℕ) → slice_index l.numbers.items t ≡ slice_index l.fn.numbers.items t;
}
