-- What a reader of paths answers: what the text spells or its first fault, or want of memory.
use Rattle.std.specs.Prelude.{◌≡◌, ◌⊎◌, Option, Some, None, Result, Ok, Err}
use Rattle.path_files.specs.declared.faults.PathsFault.{PathsFault}
use Rattle.path_files.specs.declared.faults.PathsFault.TheVariants.{OutOfMemory}

-- what is read next from what was read, and its fault where that has one
abbrev pub and_then : {A B : Type 0} → Result A PathsFault → (A → Result B PathsFault) → Result B PathsFault
and_then (Ok a) next = next a
and_then (Err fault) next = Err fault

-- the value, unless it has a fault
abbrev pub unless : {A : Type 0} → Option PathsFault → A → Result A PathsFault
unless None a = Ok a
unless (Some fault) a = Err fault

-- that value or fault, or want of memory
abbrev pub IsRead : {A : Type 0} → Result A PathsFault → Result A PathsFault → Type 0
IsRead meant result = (result ≡ meant) ⊎ (result ≡ Err OutOfMemory)
