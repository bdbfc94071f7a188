use Rattle.std.proofs.lemmas.Bool.Decides.{nat_tests}
use Rattle.std.proofs.lemmas.Grind.{common_steps}
use Rattle.std.proofs.Common.{arith}
use Rattle.std.proofs.Common.{◌≡◌, ◌≢◌, Ok, Err, Result, List, ℕ, Some, None, Option, filter, drop, ap}
use Rattle.grid_cells.specs.Size.{Extent}
use Rattle.bench_reader.specs.Lines.{lines_of}
use Rattle.bench_reader.specs.ScenFaults.{IsScenAnswer}
use Rattle.bench_reader.specs.ScenText.{is_written}
use Rattle.bench_reader.specs.declared.tasks.Task.{Task}
use Rattle.bench_reader.specs.declared.scens.ScenFault.{ScenFault}
use Rattle.bench_reader.specs.declared.scens.ScenFault.TheVariants.{OutOfMemory}
use Rattle.bench_reader.proofs.ScenLaw.{first_fault, fault_is, no_fault, one_list}
use Rattle.bench_reader.proofs.laws.one_scen_answer.Goals as goal

apart : (fault : ScenFault) (found : Option ScenFault) → found ≡ None → found ≡ Some fault → ⊥
apart fault found none some = cc

same_fault : (a b : ScenFault) (found : Option ScenFault) → found ≡ Some a → found ≡ Some b → a ≡ b
same_fault a b found p q = cc

one : (size : Extent) (text : List ℕ) (a b : Result (List Task) ScenFault) → IsScenAnswer size text a → IsScenAnswer size text b → a ≢ Err OutOfMemory → b ≢ Err OutOfMemory → a ≡ b
one size text (Ok a) (Ok b) p q other else = ap (λ tasks. Ok tasks) (one_list size (filter is_written (drop 1 (lines_of text))) a b p.body q.body)
one size text (Ok a) (Err b) p q other else = absurd (apart b (first_fault size (lines_of text)) (no_fault size (lines_of text) a p) (fault_is size (lines_of text) b (λ same. else (ap (λ fault. Err fault) same)) q))
one size text (Err a) (Ok b) p q other else = absurd (apart a (first_fault size (lines_of text)) (no_fault size (lines_of text) b q) (fault_is size (lines_of text) a (λ same. other (ap (λ fault. Err fault) same)) p))
one size text (Err a) (Err b) p q other else = grind (arith, nat_tests, common_steps, same_fault, first_fault, fault_is)

pub returns : goal.returns
returns c = one
