use Rattle.std.proofs.Common.{◌≡◌, ℕ, ◌+◌, ◌*◌, Some, List, ◌++◌, length, map, take, All, IsSome}
use Rattle.bench_reader.specs.Letters.{state_of}
use Rattle.bench_reader.proofs.rows.read_row.Given as goal

abbrev pub invariant-loop-col : goal.invariant-loop-col
invariant-loop-col l = record {
  size : l.grid.size ≡ l.fn.grid.size;
  count : length l.grid.flags ≡ length l.fn.grid.flags;
  good : All (λ letter. IsSome (state_of letter)) (take l.col l.letters);
  flags : (before : List ℕ) → map state_of before ≡ map Some (take (l.row * l.fn.grid.size.width) l.fn.grid.flags)
      → map state_of (before ++ take l.col l.letters) ≡ map Some (take (l.row * l.fn.grid.size.width + l.col) l.grid.flags);
}
