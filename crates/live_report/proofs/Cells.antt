-- Whether two cells are the same, by a test of their coordinates.
use Rattle.std.proofs.Common.{◌≡◌, ◌≢◌, ◌⊎◌, Bool, true, false, ◌&&◌, eqb, arith}
use Rattle.std.proofs.lemmas.Bool.Decides.{nat_tests}
use Rattle.std.proofs.lemmas.Grind.{common_steps}
use Rattle.std.proofs.lemmas.Option.{gets}
use Rattle.grid_cells.specs.Cell.{Point}

abbrev pub same_test : Point → Point → Bool
same_test a b = eqb a.y b.y && eqb a.x b.x

pub same_tells : (a b : Point) → ((same_test a b ≡ true) × (a ≡ b)) ⊎ ((same_test a b ≡ false) × (a ≢ b))
same_tells a b = grind (arith, nat_tests, common_steps, gets)

pub same_if : (a b : Point) → true ≡ same_test a b → a ≡ b
same_if a b e = grind (arith, nat_tests, common_steps, gets)

pub apart_if : (a b : Point) → false ≡ same_test a b → a ≢ b
apart_if a b e = grind (arith, nat_tests, common_steps, gets)
