-- Which fault of a map's text is the first (the order is this project's choice).
use Rattle.std.specs.Prelude.{◌≡◌, ℕ, ◌+◌, true, false, ◌⊎◌, None, IsSome, List, drop, Result, MatchResult}
use Rattle.grid_cells.specs.Size.{Extent, IsSize}
use Rattle.grid_cells.specs.Grid.{Chart}
use Rattle.bench_reader.specs.Lines.{lines_of, IsFirstWritten}
use Rattle.bench_reader.specs.Letters.{BeginsWithRows}
use Rattle.bench_reader.specs.RowFaults.{IsRowsFault}
use Rattle.bench_reader.specs.MapText.{is_title, is_marker, words_at, height_of, width_of, IsHeader, HasSize, IsMapText}
use Rattle.bench_reader.specs.declared.maps.MapFault.{MapFault}
use Rattle.bench_reader.specs.declared.maps.MapFault.TheVariants.{NotOctile, BadHeader, BadSize, MissingRow, ShortRow, LongRow, BadLetter, ExtraLine, OutOfMemory}

-- the first bad one of the lines 2 to 4
pub record IsBadHeader (lines : List (List ℕ)) (number : ℕ) : Type 0 where
  pub title : is_title (words_at lines 0) ≡ true
  pub first : ((number ≡ 2) × (height_of lines ≡ None))
      ⊎ ((number ≡ 3) × IsSome (height_of lines) × (width_of lines ≡ None))
      ⊎ ((number ≡ 4) × IsSome (height_of lines) × IsSome (width_of lines) × (is_marker (words_at lines 3) ≡ false))

-- a good header with a size that no map may have
pub record IsBadSize (lines : List (List ℕ)) : Type 0 where
  pub height : ℕ
  pub width : ℕ
  pub header : IsHeader lines height width
  pub unlawful : IsSize width height → ⊥

-- header and rows are good, and this is the number of the first line behind them that isn't blank
pub record IsExtraLine (lines : List (List ℕ)) (number : ℕ) : Type 0 where
  pub grid : Chart
  pub tail : List (List ℕ)
  pub size : HasSize lines grid.size
  pub rows : BeginsWithRows grid (drop 4 lines) tail
  pub extra : IsFirstWritten tail (5 + grid.size.height) number

-- one of the rows is bad
abbrev pub IsBadRow : List (List ℕ) → MapFault → Type 0
IsBadRow lines fault = (size : Extent) × HasSize lines size × IsRowsFault size (drop 4 lines) fault

-- the first fault of a text with these lines; memory is asked for only where the size is good
abbrev pub IsMapFault : List (List ℕ) → MapFault → Type 0
IsMapFault lines NotOctile = is_title (words_at lines 0) ≡ false
IsMapFault lines (BadHeader number) = IsBadHeader lines number
IsMapFault lines BadSize = IsBadSize lines
IsMapFault lines (MissingRow row) = IsBadRow lines (MissingRow row)
IsMapFault lines (ShortRow row) = IsBadRow lines (ShortRow row)
IsMapFault lines (LongRow row) = IsBadRow lines (LongRow row)
IsMapFault lines (BadLetter row col) = IsBadRow lines (BadLetter row col)
IsMapFault lines (ExtraLine number) = IsExtraLine lines number
IsMapFault lines OutOfMemory = (size : Extent) × HasSize lines size

-- the answer to a text: its map, or its first fault
abbrev pub IsMapAnswer : List ℕ → Result Chart MapFault → Type 0
IsMapAnswer text answer = MatchResult answer (IsMapText text) (IsMapFault (lines_of text))
