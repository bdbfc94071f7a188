use Rattle.std.proofs.lemmas.Bool.Decides.{nat_tests}
use Rattle.std.proofs.lemmas.Grind.{common_steps}
use Rattle.std.proofs.Common.{arith}
use Rattle.std.proofs.Common.{◌≡◌, ◌≢◌, Ok, Err, Result, List, ℕ, Some, None, Option, ap}
use Rattle.grid_cells.specs.Grid.{Chart}
use Rattle.bench_reader.specs.Lines.{lines_of}
use Rattle.bench_reader.specs.MapFaults.{IsMapAnswer}
use Rattle.bench_reader.specs.declared.maps.MapFault.{MapFault}
use Rattle.bench_reader.specs.declared.maps.MapFault.TheVariants.{OutOfMemory}
use Rattle.bench_reader.proofs.MapLaw.{first_fault, fault_is, no_fault, one_grid}
use Rattle.bench_reader.proofs.laws.one_map_answer.Goals as goal

apart : (fault : MapFault) (found : Option MapFault) → found ≡ None → found ≡ Some fault → ⊥
apart fault found none some = cc

same_fault : (a b : MapFault) (found : Option MapFault) → found ≡ Some a → found ≡ Some b → a ≡ b
same_fault a b found p q = cc

one : (text : List ℕ) (a b : Result Chart MapFault) → IsMapAnswer text a → IsMapAnswer text b → a ≢ Err OutOfMemory → b ≢ Err OutOfMemory → a ≡ b
one text (Ok a) (Ok b) p q other else = ap (λ grid. Ok grid) (one_grid (lines_of text) a b p q)
one text (Ok a) (Err b) p q other else = absurd (apart b (first_fault (lines_of text)) (no_fault (lines_of text) a p) (fault_is (lines_of text) b (λ same. else (ap (λ fault. Err fault) same)) q))
one text (Err a) (Ok b) p q other else = absurd (apart a (first_fault (lines_of text)) (no_fault (lines_of text) b q) (fault_is (lines_of text) a (λ same. other (ap (λ fault. Err fault) same)) p))
one text (Err a) (Err b) p q other else = grind (arith, nat_tests, common_steps, same_fault, first_fault, fault_is)

pub returns : goal.returns
returns c = one
