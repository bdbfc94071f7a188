-- The first fault of a scenario's text, computed, and that it is the one fault of the definition.
use Rattle.std.proofs.lemmas.Bool.Decides.{nat_tests}
use Rattle.std.proofs.lemmas.Grind.{common_steps}
use Rattle.std.proofs.Math.Bool.{and-false}
use Rattle.std.proofs.lemmas.List.{append-nil}
use Rattle.std.proofs.lemmas.Bool.{not-true}
use Rattle.std.proofs.Common.{◌≡◌, ◌≢◌, inl, inr, ℕ, suc, ◌+◌, Bool, true, false, not, ◌&&◌, cond, nat_eq, nat_lt, Option, Some, None, List, [], ◌∷◌, ◌++◌, length, drop, filter, unwrap_or, refl, ap, subst, sym, ◌∙◌, arith, eq-eqb}
use Rattle.std.proofs.lemmas.Bool.{ne_eqb, le-ltb, lt-ltb}
use Rattle.std.specs.Option.{is_none}
use Rattle.std.specs.List.{find}
use Rattle.grid_cells.specs.Size.{Extent}
use Rattle.bench_reader.specs.Lines.{is_blank_line, line_at}
use Rattle.bench_reader.specs.Words.{words_of}
use Rattle.bench_reader.specs.ScenText.{is_version, is_written, number_at, AreFields, IsTaskLine, AreTaskLines, AreTasks, AreScenLines}
use Rattle.bench_reader.specs.ScenFaults.{IsOtherSize, IsOffMap, IsLineFault, IsBadLine, IsScenFault}
use Rattle.bench_reader.specs.declared.fields.Fields.{Fields}
use Rattle.bench_reader.specs.declared.tasks.Task.{Task}
use Rattle.bench_reader.specs.declared.scens.ScenFault.{ScenFault}
use Rattle.bench_reader.specs.declared.scens.ScenFault.TheVariants.{BadVersion, FieldCount, BadNumber, SizeMismatch, OutOfMap, OutOfMemory}

abbrev or_else : Option ScenFault → Option ScenFault → Option ScenFault
or_else None later = later
or_else (Some fault) later = Some fault

abbrev value_at : List (List ℕ) → ℕ → ℕ
value_at words field = unwrap_or (number_at words field) 0

abbrev off_map : Extent → ℕ → ℕ → ℕ → ℕ → ℕ → Option ScenFault
off_map size number start_x start_y goal_x goal_y =
    cond (nat_lt start_x size.width)
    (cond (nat_lt start_y size.height)
    (cond (nat_lt goal_x size.width) (cond (nat_lt goal_y size.height) None (Some (OutOfMap number 8))) (Some (OutOfMap number 7)))
    (Some (OutOfMap number 6)))
    (Some (OutOfMap number 5))

abbrev size_fault : Extent → ℕ → Fields → Option ScenFault
size_fault size number fields =
    cond (nat_eq fields.width size.width && nat_eq fields.height size.height)
    (off_map size number fields.start_x fields.start_y fields.goal_x fields.goal_y) (Some (SizeMismatch number))

abbrev fields_in : List (List ℕ) → Fields
fields_in words = record {
  bucket = value_at words 1;
  width = value_at words 3;
  height = value_at words 4;
  start_x = value_at words 5;
  start_y = value_at words 6;
  goal_x = value_at words 7;
  goal_y = value_at words 8;
}

abbrev number_fault : Extent → ℕ → List (List ℕ) → Option ℕ → Option ScenFault
number_fault size number words (Some field) = Some (BadNumber number field)
number_fault size number words None = size_fault size number (fields_in words)

abbrev bad_field : List (List ℕ) → Option ℕ
bad_field words = find (λ field. is_none (number_at words field)) (1 ∷ 3 ∷ 4 ∷ 5 ∷ 6 ∷ 7 ∷ 8 ∷ [])

abbrev words_fault : Extent → ℕ → List (List ℕ) → Option ScenFault
words_fault size number words = cond (nat_eq (length words) 9) (number_fault size number words (bad_field words)) (Some (FieldCount number))

abbrev line_fault : Extent → ℕ → List ℕ → Option ScenFault
line_fault size number line = words_fault size number (words_of line)

abbrev lines_fault : Extent → ℕ → List (List ℕ) → Option ScenFault
lines_fault size number [] = None
lines_fault size number (line ∷ lines) = or_else (cond (is_blank_line line) None (line_fault size number line)) (lines_fault size (number + 1) lines)

-- the first fault of the lines, and none for a scenario's
abbrev pub first_fault : Extent → List (List ℕ) → Option ScenFault
first_fault size lines = cond (is_version (words_of (line_at lines 0))) (lines_fault size 2 (drop 1 lines)) (Some BadVersion)

same_fields : (a b : Fields) → a.bucket ≡ b.bucket → a.width ≡ b.width → a.height ≡ b.height → a.start_x ≡ b.start_x → a.start_y ≡ b.start_y → a.goal_x ≡ b.goal_x → a.goal_y ≡ b.goal_y → a ≡ b
same_fields a b p q r s t u v = grind (arith, nat_tests, common_steps)

value : (o : Option ℕ) (n : ℕ) → o ≡ Some n → unwrap_or o 0 ≡ n
value o n is = ap (λ o. unwrap_or o 0) is

-- the fields of words are one
fields_are : (words : List (List ℕ)) (fields : Fields) → AreFields words fields → fields_in words ≡ fields
fields_are words fields are = grind (arith, nat_tests, common_steps, same_fields, value)

known : (o : Option ℕ) (n : ℕ) → o ≡ Some n → is_none o ≡ false
known o n is = ap (λ o. is_none o) is

no_bad_field : (words : List (List ℕ)) (fields : Fields) → AreFields words fields → bad_field words ≡ None
no_bad_field words fields are = rw (are.bucket, are.width, are.height, are.start_x, are.start_y, are.goal_x, are.goal_y) refl

words_are : (size : Extent) (number : ℕ) (words : List (List ℕ)) (fields : Fields) → AreFields words fields → words_fault size number words ≡ size_fault size number fields
words_are size number words fields are = grind (arith, nat_tests, common_steps, eq-eqb, no_bad_field, fields_are)

size_same : (size : Extent) (number : ℕ) (fields : Fields) → fields.width ≡ size.width → fields.height ≡ size.height → size_fault size number fields ≡ off_map size number fields.start_x fields.start_y fields.goal_x fields.goal_y
size_same size number fields wide high = rw (eq-eqb fields.width size.width wide, eq-eqb fields.height size.height high) refl

size_other : (size : Extent) (number : ℕ) (fields : Fields) → IsOtherSize size fields → size_fault size number fields ≡ Some (SizeMismatch number)
size_other size number fields (inl wide) = rw (ne_eqb fields.width size.width wide) refl
size_other size number fields (inr high) = rw (ne_eqb fields.height size.height high, and-false (nat_eq fields.width size.width)) refl

off_map-is : (size : Extent) (number field : ℕ) (fields : Fields) → IsOffMap size fields field → off_map size number fields.start_x fields.start_y fields.goal_x fields.goal_y ≡ Some (OutOfMap number field)
off_map-is size number field fields (inl is) = rw (le-ltb fields.start_x size.width is.1, is.0) refl
off_map-is size number field fields (inr (inl is)) = rw (lt-ltb fields.start_x size.width is.1, le-ltb fields.start_y size.height is.2, is.0) refl
off_map-is size number field fields (inr (inr (inl is))) = rw (lt-ltb fields.start_x size.width is.1.0, lt-ltb fields.start_y size.height is.1.1, le-ltb fields.goal_x size.width is.2, is.0) refl
off_map-is size number field fields (inr (inr (inr is))) = rw (lt-ltb fields.start_x size.width is.1.0, lt-ltb fields.start_y size.height is.1.1, lt-ltb fields.goal_x size.width is.2, le-ltb fields.goal_y size.height is.3, is.0) refl

line_fault-is : (size : Extent) (number : ℕ) (line : List ℕ) (fault : ScenFault) → IsLineFault size number line fault → line_fault size number line ≡ Some fault
line_fault-is size number line BadVersion is = absurd is
line_fault-is size number line (FieldCount at) is = rw (ne_eqb (length (words_of line)) 9 is.1, is.0) refl
line_fault-is size number line (BadNumber at field) is = grind (arith, nat_tests, common_steps, eq-eqb)
line_fault-is size number line (SizeMismatch at) is = grind (arith, nat_tests, common_steps, words_are, size_other)
line_fault-is size number line (OutOfMap at field) is =
    words_are size number (words_of line) is.1 is.2 ∙ size_same size number is.1 is.3 is.4 ∙ off_map-is size number field is.1 is.5 ∙ ap (λ n. Some (OutOfMap n field)) (sym is.0)
line_fault-is size number line OutOfMemory is = absurd is

task_line-none : (size : Extent) (number : ℕ) (line : List ℕ) (task : Task) → IsTaskLine size line task → line_fault size number line ≡ None
task_line-none size number line task is = grind (arith, nat_tests, common_steps, words_are, size_same, lt-ltb)

skip : (size : Extent) (number : ℕ) (line : List ℕ) (later : Option ScenFault) → line_fault size number line ≡ None → or_else (cond (is_blank_line line) None (line_fault size number line)) later ≡ later
skip size number line later none = grind (arith, nat_tests, common_steps)

skip_lines : (size : Extent) (number : ℕ) (above tail : List (List ℕ)) (tasks : List Task) → AreTasks size above tasks → lines_fault size number (above ++ tail) ≡ lines_fault size (number + length above) tail
skip_lines size number [] tail tasks good = let place : number + 0 ≡ number = omega arith in ap (λ n. lines_fault size n tail) (sym place)
skip_lines size number (line ∷ above) tail tasks good = go (λ tasks good. skip_lines size (number + 1) above tail tasks good) (is_blank_line line) refl tasks good
  where
    place : number + 1 + length above ≡ number + suc (length above)
    place = omega arith

    go : ((tasks : List Task) → AreTasks size above tasks → lines_fault size (number + 1) (above ++ tail) ≡ lines_fault size (number + 1 + length above) tail) → (b : Bool) → is_blank_line line ≡ b → (tasks : List Task) → AreTaskLines size (filter is_written (line ∷ above)) tasks → lines_fault size number (line ∷ (above ++ tail)) ≡ lines_fault size (number + suc (length above)) tail
    go later true blank tasks good =
        let rest : AreTasks size above tasks = subst (λ b. AreTaskLines size (cond (not b) (line ∷ filter is_written above) (filter is_written above)) tasks) blank good in
        ap (λ b. or_else (cond b None (line_fault size number line)) (lines_fault size (number + 1) (above ++ tail))) blank
        ∙ later tasks rest ∙ ap (λ n. lines_fault size n tail) place
    go later false written [] good = absurd (subst (λ b. AreTaskLines size (cond (not b) (line ∷ filter is_written above) (filter is_written above)) []) written good)
    go later false written (task ∷ tasks) good =
        let both = subst (λ b. AreTaskLines size (cond (not b) (line ∷ filter is_written above) (filter is_written above)) (task ∷ tasks)) written good in
        skip size number line (lines_fault size (number + 1) (above ++ tail)) (task_line-none size number line task both.0)
        ∙ later tasks both.1 ∙ ap (λ n. lines_fault size n tail) place

bad_line : (size : Extent) (lines : List (List ℕ)) (fault : ScenFault) → IsBadLine size lines fault → first_fault size lines ≡ Some fault
bad_line size lines fault bad = grind (arith, nat_tests, common_steps, skip_lines, not-true, line_fault-is)

-- a fault of the definition is the first one
pub fault_is : (size : Extent) (lines : List (List ℕ)) (fault : ScenFault) → fault ≢ OutOfMemory → IsScenFault size lines fault → first_fault size lines ≡ Some fault
fault_is size lines BadVersion other is = ap (λ b. cond b (lines_fault size 2 (drop 1 lines)) (Some BadVersion)) is
fault_is size lines (FieldCount at) other is = bad_line size lines (FieldCount at) is
fault_is size lines (BadNumber at field) other is = bad_line size lines (BadNumber at field) is
fault_is size lines (SizeMismatch at) other is = bad_line size lines (SizeMismatch at) is
fault_is size lines (OutOfMap at field) other is = bad_line size lines (OutOfMap at field) is
fault_is size lines OutOfMemory other is = absurd (other refl)

-- a scenario's lines have none
pub no_fault : (size : Extent) (lines : List (List ℕ)) (tasks : List Task) → AreScenLines size lines tasks → first_fault size lines ≡ None
no_fault size lines tasks is = grind (arith, nat_tests, append-nil (drop 1 lines), skip_lines size 2 (drop 1 lines))

same_task : (a b : Task) → a.bucket ≡ b.bucket → a.start ≡ b.start → a.goal ≡ b.goal → a ≡ b
same_task a b p q r = grind (arith, nat_tests, common_steps)

one_task : (size : Extent) (line : List ℕ) (a b : Task) → IsTaskLine size line a → IsTaskLine size line b → a ≡ b
one_task size line a b p q = grind (arith, nat_tests, common_steps, fields_are, same_task)

-- lines are those of one list of tasks
pub one_list : (size : Extent) (lines : List (List ℕ)) (a b : List Task) → AreTaskLines size lines a → AreTaskLines size lines b → a ≡ b
one_list size [] a b p q = p ∙ sym q
one_list size (line ∷ lines) [] b p q = absurd p
one_list size (line ∷ lines) (x ∷ a) [] p q = absurd q
one_list size (line ∷ lines) (x ∷ a) (y ∷ b) p q = grind (arith, nat_tests, common_steps, one_list size lines a b p.1 q.1, one_task)
