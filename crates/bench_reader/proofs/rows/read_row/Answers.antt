use Rattle.std.proofs.Common.{◌≡◌, ℕ, ◌<◌, Some, List, length, get_or, arith, sym, ap, ◌∙◌, add-one}
use Rattle.std.proofs.lemmas.Nat.{mul-add-lt}
use Rattle.grid_cells.specs.Cell.{point}
use Rattle.bench_reader.specs.Letters.{state_of}
use Rattle.bench_reader.proofs.RowLemmas.{good_more, cell_more, count_kept, some_value, is_some_of}
use Rattle.bench_reader.proofs.rows.read_row.Goals as goal

pub loop-col-preserved : goal.loop-col-preserved
loop-col-preserved c =
    let size = c.size-size.ensures.is in
    let old = c.loop-col.invariant in
    let letters : List ℕ = c.args.letters.now in
    let col : ℕ = c.loop-col.col in
    let width : ℕ = c.args.grid.now.size.width in
    let within : col < length letters = omega arith in
    let wide : length letters ≡ width = omega (arith, c.if-letters-width.false, c.if-letters-width-2.false, c.width-width.ensures.is, ap (λ size. size.width) size) in
    let at : c.unwrap-cell.result ≡ point col c.args.row = some_value _ _ _ _ c.cell.ensures c.unwrap-cell.ensures in
    let says : state_of (get_or letters col 0) ≡ Some c.in-Some.free = sym c.in-Some.ensures in
    let below = mul-add-lt c.args.row width col c.args.grid.now.size.height c.requires (omega arith) in
    record {
      size = ap (λ grid. grid.size) c.set.ensures ∙ old.size;
      count = count_kept c.loop-col.grid c.set.new.self c.unwrap-cell.result c.in-Some.free c.set.ensures ∙ old.count;
      good = rw add-one (good_more letters col within old.good (is_some_of says));
      flags = λ before same. cell_more c.loop-col.grid c.set.new.self width c.unwrap-cell.result c.in-Some.free c.args.row col before letters (ap (λ size. size.width) old.size) at c.set.ensures (omega (arith, below, old.count, c.size-size.ensures.whole)) within says (old.flags before same);
    }
