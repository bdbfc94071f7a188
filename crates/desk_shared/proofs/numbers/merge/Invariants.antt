use Rattle.std.proofs.Common.{◌≡◌, ℕ, ◌<◌, ◌≤◌, ◌||◌, false, length, slice_index_or}
use Rattle.desk_shared.proofs.numbers.merge.Given as goal

abbrev pub invariant-loop-number : goal.invariant-loop-number
invariant-loop-number l = record {
  sized : length l.unused ≡ 256;
  done : (u : ℕ) → u < l.number → slice_index_or l.unused u false ≡ (slice_index_or l.initial.unused u false || slice_index_or l.others u false);
  left : (u : ℕ) → l.number ≤ u → slice_index_or l.unused u false ≡ slice_index_or l.initial.unused u false;
}
