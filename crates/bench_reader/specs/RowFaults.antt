-- Faults of a map's rows.
use Rattle.std.specs.Prelude.{◌≡◌, ℕ, ◌<◌, Bool, Some, None, IsSome, List, [], ◌∷◌, ◌++◌, length, take, slice_get, All}
use Rattle.grid_cells.specs.Size.{Extent}
use Rattle.bench_reader.specs.Lines.{row_of}
use Rattle.bench_reader.specs.Letters.{state_of, AreRows}
use Rattle.bench_reader.specs.declared.maps.MapFault.{MapFault}
use Rattle.bench_reader.specs.declared.maps.MapFault.TheVariants.{NotOctile, BadHeader, BadSize, MissingRow, ShortRow, LongRow, BadLetter, ExtraLine, OutOfMemory}

-- the letter at this column is none of a map's, and those before it are
pub record IsFirstBad (letters : List ℕ) (col : ℕ) : Type 0 where
  pub before : All (λ letter. IsSome (state_of letter)) (take col letters)
  pub letter : ℕ
  pub there : slice_get letters col ≡ Some letter
  pub none : state_of letter ≡ None

-- the fault of a row that is there, by its letters
abbrev pub IsRowFault : ℕ → ℕ → List ℕ → MapFault → Type 0
IsRowFault width row letters (ShortRow at) = (at ≡ row) × (length letters < width)
IsRowFault width row letters (LongRow at) = (at ≡ row) × (width < length letters)
IsRowFault width row letters (BadLetter at col) = (at ≡ row) × (length letters ≡ width) × IsFirstBad letters col
IsRowFault width row letters NotOctile = ⊥
IsRowFault width row letters (BadHeader line) = ⊥
IsRowFault width row letters BadSize = ⊥
IsRowFault width row letters (MissingRow at) = ⊥
IsRowFault width row letters (ExtraLine line) = ⊥
IsRowFault width row letters OutOfMemory = ⊥

-- the fault of a row's place, where these lines are left: none is, or the first one's
abbrev pub IsPlaceFault : ℕ → ℕ → List (List ℕ) → MapFault → Type 0
IsPlaceFault width row [] fault = fault ≡ MissingRow row
IsPlaceFault width row (line ∷ below) fault = IsRowFault width row (row_of line) fault

-- the lines begin with good rows, and then comes the fault, before the map's height is reached
pub record IsRowsFault (size : Extent) (body : List (List ℕ)) (fault : MapFault) : Type 0 where
  pub above : List (List ℕ)
  pub below : List (List ℕ)
  pub flags : List Bool
  pub split : body ≡ above ++ below
  pub good : AreRows size.width above flags
  pub within : length above < size.height
  pub first : IsPlaceFault size.width (length above) below fault
