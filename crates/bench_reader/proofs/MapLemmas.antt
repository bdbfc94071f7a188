-- A map's text from its parts.
use Rattle.std.proofs.lemmas.Bool.Decides.{nat_tests}
use Rattle.std.proofs.lemmas.Grind.{common_steps}
use Rattle.std.proofs.Common.{arith}
use Rattle.std.proofs.Common.{◌≡◌, ℕ, ◌+◌, true, List, drop}
use Rattle.std.specs.List.{list_all}
use Rattle.grid_cells.specs.Size.{Extent}
use Rattle.grid_cells.specs.Grid.{Chart}
use Rattle.bench_reader.specs.Lines.{is_blank_line, IsFirstWritten}
use Rattle.bench_reader.specs.Letters.{BeginsWithRows}
use Rattle.bench_reader.specs.MapText.{HasSize, AreMapLines}
use Rattle.bench_reader.specs.MapFaults.{IsExtraLine}

pub map_lines : (lines body tail : List (List ℕ)) (grid : Chart) (size : Extent) → grid.size ≡ size → HasSize lines size → body ≡ drop 4 lines → BeginsWithRows grid body tail → list_all is_blank_line tail ≡ true → AreMapLines lines grid
map_lines lines body tail grid size same header behind rows blank = grind (arith, nat_tests, common_steps)

pub extra_line : (lines body tail : List (List ℕ)) (grid : Chart) (size : Extent) (number : ℕ) → grid.size ≡ size → HasSize lines size → body ≡ drop 4 lines → BeginsWithRows grid body tail → IsFirstWritten tail (5 + size.height) number → IsExtraLine lines number
extra_line lines body tail grid size number same header behind rows extra = grind (arith, nat_tests, common_steps)
