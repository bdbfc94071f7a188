use Rattle.std.proofs.Common.{rules, ◌≡◌, ◌*◌, ◌+◌, ◌<◌, ◌++◌, ◌∷◌, [], ℕ, length, arith, refl, sym, ap, subst, ◌∙◌}
use Rattle.std.proofs.lemmas.Nat.{mul-add-lt}
use Rattle.grid_cells.specs.Cell.{point}
use Rattle.grid_cells.specs.Size.{Holds}
use Rattle.grid_cells.specs.Grid.{Chart, flag_index}
use Rattle.bench_reader.specs.MapSpelling.{letter_of}
use Rattle.bench_reader.proofs.RowLemmas.{some_value}
use Rattle.bench_reader.proofs.SpellingLemmas.{letter_written, flag_of}
use Rattle.bench_reader.proofs.writer.write_row.Goals as goal

pub loop-col-preserved : goal.loop-col-preserved
loop-col-preserved c =
    let grid : Chart = c.args.grid.now in
    let row : ℕ = c.args.row in
    let col : ℕ = c.loop-col.col in
    let width : ℕ = grid.size.width in
    let at : c.unwrap-cell.result ≡ point col row = some_value _ _ _ _ c.cell.ensures c.unwrap-cell.ensures in
    let inside : col < width = omega (arith, ap (λ size. size.width) c.size-size.ensures.is, c.width-col-end.ensures.is) in
    let held : Holds grid.size c.unwrap-cell.result = subst (Holds grid.size) (sym at) (inside, c.requires) in
    let index : flag_index grid.size c.unwrap-cell.result ≡ row * width + col = rw at refl in
    let below : row * width + col < length grid.flags = omega (arith, mul-add-lt row width col grid.size.height c.requires inside, c.size-size.ensures.whole) in
    let flag = rw index at (flag_of grid c.unwrap-cell.result c.is_open.result held (subst (λ k. k < length grid.flags) (sym index) below) c.is_open.ensures) in
    let wrote = letter_written c.args.text.now.items c.loop-col.text.items grid.flags (row * width) col c.is_open.result below c.loop-col.invariant flag in
    let pushed : c.push.new.self.items ≡ c.loop-col.text.items ++ letter_of c.is_open.result ∷ [] = search rules in
    pushed ∙ wrote
