-- How a list of cells is read part by part.
use Rattle.std.proofs.Common.{◌≡◌, ℕ, ◌<◌, Err, List, [], ◌∷◌, ◌++◌, length, refl, ap, sym, ◌∙◌, ◌⊎◌, inl, inr, arith, Option, Some, None, MatchOption, Bor, ◌==◌}
use Rattle.std.proofs.lemmas.List.Splits.{length-slice_split}
use Rattle.std.specs.Option.{option_map_or}
use Rattle.grid_cells.specs.Cell.{Point}
use Rattle.path_files.specs.Lines.{cut}
use Rattle.path_files.specs.Answers.{IsRead}
use Rattle.path_files.specs.Cells.{join_of, cell_in, parts_of, cells_from}
use Rattle.path_files.specs.declared.faults.PathsFault.{PathsFault}
use Rattle.path_files.specs.declared.faults.PathsFault.TheVariants.{BadCell, OutOfMemory}
use Rattle.path_files.specs.declared.cells.Notation.{Notation}
use Rattle.path_files.proofs.LineLemmas.{cut-none, cut-some}

-- what a cut says of the parts
pub parts_are : (text : List ℕ) (found : Option (Bor (List ℕ) × Bor (List ℕ))) → MatchOption found (cut 41 text ≡ None) (λ r. cut 41 text ≡ Some (r.0.now, r.1.now)) → MatchOption found (parts_of text ≡ text ∷ []) (λ r. parts_of text ≡ r.0.now ∷ parts_of r.1.now)
parts_are text None found = cut-none 41 text found
parts_are text (Some r) found = cut-some 41 text r.0.now r.1.now found

-- there is a part at least
pub some_part : (text : List ℕ) → 0 < length (parts_of text)
some_part text = omega (arith, length-slice_split (λ byte. byte == 41) text)

-- a part that isn't the last has a cell
pub cells_from-more : (notation : Notation) (line : ℕ) (front : List ℕ) (cells : List Point) (part : List ℕ) (parts : List (List ℕ)) → 0 < length parts → cells_from notation line front cells (part ∷ parts) ≡ option_map_or (λ cell. cells_from notation line (join_of notation) (cells ++ cell ∷ []) parts) (cell_in notation front part) (Err (BadCell line (length cells)))
cells_from-more notation line front cells part [] some = absurd (omega arith)
cells_from-more notation line front cells part (next ∷ parts) some = refl

part_read : (notation : Notation) (line : ℕ) (front : List ℕ) (cells : List Point) (rest part below : List ℕ) → parts_of rest ≡ part ∷ parts_of below → cells_from notation line front cells (parts_of rest) ≡ option_map_or (λ cell. cells_from notation line (join_of notation) (cells ++ cell ∷ []) (parts_of below)) (cell_in notation front part) (Err (BadCell line (length cells)))
part_read notation line front cells rest part below split =
    ap (cells_from notation line front cells) split ∙ cells_from-more notation line front cells part (parts_of below) (some_part below)

-- a part without a cell, or want of memory
pub part_bad : (notation : Notation) (line : ℕ) (front : List ℕ) (cells : List Point) (rest part below : List ℕ) (fault : PathsFault) → parts_of rest ≡ part ∷ parts_of below → (fault ≡ OutOfMemory) ⊎ ((fault ≡ BadCell line (length cells)) × (cell_in notation front part ≡ None)) → IsRead (cells_from notation line front cells (parts_of rest)) (Err fault)
part_bad notation line front cells rest part below fault split (inl memory) = inr (ap Err memory)
part_bad notation line front cells rest part below fault split (inr bad) =
    inl (ap Err bad.0 ∙ sym (part_read notation line front cells rest part below split ∙ rw bad.1 refl))

after_cell : (notation : Notation) (line : ℕ) (cells after : List Point) (below : List ℕ) (found : Option Point) → MatchOption found ⊥ (λ cell. after ≡ cells ++ cell ∷ []) → option_map_or (λ cell. cells_from notation line (join_of notation) (cells ++ cell ∷ []) (parts_of below)) found (Err (BadCell line (length cells))) ≡ cells_from notation line (join_of notation) after (parts_of below)
after_cell notation line cells after below None good = absurd good
after_cell notation line cells after below (Some cell) good = rw good refl

-- a part with a cell
pub part_good : (notation : Notation) (line : ℕ) (front : List ℕ) (cells after : List Point) (rest part below : List ℕ) → parts_of rest ≡ part ∷ parts_of below → MatchOption (cell_in notation front part) ⊥ (λ cell. after ≡ cells ++ cell ∷ []) → cells_from notation line front cells (parts_of rest) ≡ cells_from notation line (join_of notation) after (parts_of below)
part_good notation line front cells after rest part below split good =
    part_read notation line front cells rest part below split ∙ after_cell notation line cells after below (cell_in notation front part) good
