-- What a reader of some words answers (this project's choice).
use Rattle.std.specs.Prelude.{◌≡◌, ◌⊎◌, Option, Result, Err}
use Rattle.std.specs.Option.{ok_or}
use Rattle.session_lines.specs.declared.requests.LineFault.{LineFault}
use Rattle.session_lines.specs.declared.requests.LineFault.TheVariants.{Shape, OutOfMemory}

-- what the words stand for, or the fault `Shape`, or want of memory
abbrev pub IsShaped : {A : Type 0} → Option A → Result A LineFault → Type 0
IsShaped meant result = (result ≡ ok_or meant Shape) ⊎ (result ≡ Err OutOfMemory)

-- the same, and memory is wanting only where something grows
abbrev pub IsShapedAs : {A : Type 0} → Type 0 → Option A → Result A LineFault → Type 0
IsShapedAs Grows meant result = (result ≡ ok_or meant Shape) ⊎ (Grows × (result ≡ Err OutOfMemory))
