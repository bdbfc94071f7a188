-- The entries of a log that are still to come, where a text is a front of it.
use Rattle.std.proofs.Common.{◌≡◌, ◌<◌, ◌≤◌, ◌^◌, ℕ, ◌+◌, List, [], ◌∷◌, ◌++◌, length, codes, refl, ap, sym, ◌∙◌, arith, append_assoc, length-append}
use Rattle.std.proofs.lemmas.List.{append_cancel_left, nil_from_length}
use Rattle.std.proofs.lemmas.List.Elements.{All-head, All-tail, All-nil}
use Rattle.std.specs.List.{All}
use Rattle.plan_table.specs.declared.tracks.Mode.{Mode}
use Rattle.desk_commits.specs.Entries.{Entry}
use Rattle.desk_commits.specs.declared.limits.TheConstants.{MOST_ENTRIES}
use Rattle.journal_text.specs.Ranges.{IsThing, IsEdit, IsEntry}
use Rattle.journal_text.specs.Lines.{entry_lines, text_of}
use Rattle.journal_text.specs.Fitting.{IsEntryOf}
use Rattle.commit_log.specs.Lines.{lines_text}
use Rattle.commit_log.specs.Text.{check_of, commit_words, commit_line, sealed, entries_text, head_check, head_text}
use Rattle.commit_log.specs.Reads.{BeginsHead, BeginsNoHead, BeginsSealed, IsUnsealed, IsDamagedAt, FaultIs}
use Rattle.commit_log.specs.declared.reading.ReadFault.{ReadFault}
use Rattle.commit_log.specs.declared.reading.ReadFault.TheVariants.{Damaged, OutOfMemory}
use Rattle.desk_log.specs.Keeping.{texts_of}
use Rattle.desk_log.specs.Reading.{IsFrontOfLog, IsTear}
use Rattle.desk_log.proofs.Bodies.{entry-body}
use Rattle.desk_log.proofs.Sealed.{same-sealed, sealed-sound, sealed-lacks}
use Rattle.desk_log.proofs.OneHead.{same-head}

abbrev text_in : Entry → List ℕ
text_in entry = text_of (entry_lines entry)

-- so many entries stand before the rest of the text, and these are to come
pub record Ahead (rest check : List ℕ) (count : ℕ) : Type 0 where
  pub entries : List Entry
  pub lawful : All IsEntry entries
  pub few : count + length entries ≤ MOST_ENTRIES
  pub lost : List ℕ
  pub front : entries_text (count + 1) check (texts_of entries) ≡ rest ++ lost

pub has-head : (text : List ℕ) → IsFrontOfLog text → ((mode : Mode) → BeginsNoHead text mode) → ⊥
has-head text f none = none f.mode f.scene f.more f.digest f.begins

pub ahead-first : (text : List ℕ) (mode : Mode) (scene check rest : List ℕ) → BeginsHead text mode scene check rest → IsFrontOfLog text → Ahead rest check 0
ahead-first text mode scene check rest head f =
    let own : List ℕ = head_text f.mode f.scene in
    let same = same-head f.mode mode f.scene scene f.more rest f.digest head.digest (sym f.begins ∙ head.is) in
    let check_is : check ≡ head_check own = head.check_is ∙ ap head_check (sym same.head) in
    record {
      entries = f.entries;
      lawful = f.lawful;
      few = omega (arith, f.few);
      lost = f.lost;
      front = ap (λ (t : List ℕ). entries_text 1 t (texts_of f.entries)) check_is
          ∙ append_cancel_left own (entries_text 1 (head_check own) (texts_of f.entries)) (f.more ++ f.lost) (f.front ∙ ap (λ (t : List ℕ). t ++ f.lost) f.begins ∙ append_assoc own f.more f.lost)
          ∙ ap (λ (t : List ℕ). t ++ f.lost) same.rest;
    }

sealed-long : (n : ℕ) (check entry : List ℕ) → 0 < length (sealed n check entry)
sealed-long n check entry = omega (arith, length-append entry (commit_line n (check_of check entry)), length-append (commit_words n (check_of check entry)) (codes "\n"))

-- the entry that stands there is the first of those to come
pub record Next (entry rest check : List ℕ) (count : ℕ) : Type 0 where
  pub is : (e : Entry) × IsEntryOf entry e
  pub room : count < MOST_ENTRIES
  pub later : Ahead rest check (count + 1)

next-of : (rest check entry check' rest' lost : List ℕ) (count : ℕ) (entries : List Entry) → BeginsSealed rest (count + 1) check entry check' rest' → All IsEntry entries → count + length entries ≤ MOST_ENTRIES
    → entries_text (count + 1) check (texts_of entries) ≡ rest ++ lost → Next entry rest' check' count
next-of rest check entry check' rest' lost count [] begins lawful few front =
    absurd (omega (arith, ap length front, ap length begins.is, length-append rest lost, length-append (sealed (count + 1) check entry) rest', sealed-long (count + 1) check entry))
next-of rest check entry check' rest' lost count (first ∷ entries) begins lawful few front =
    let own = All-head IsEntry first entries lawful in
    let small : count + 1 < 2 ^ 64 = omega (arith, few) in
    let same = same-sealed (count + 1) check (text_in first) entry (entries_text (count + 1 + 1) (check_of check (text_in first)) (texts_of entries)) (rest' ++ lost) small (entry-body first own) begins.lines
    (front ∙ ap (λ (t : List ℕ). t ++ lost) begins.is ∙ append_assoc (sealed (count + 1) check entry) rest' lost) in
    let check_is : check' ≡ check_of check (text_in first) = begins.check_is ∙ ap (check_of check) (sym same.entry) in
    record {
      is = (first, (own, sym same.entry));
      room = omega (arith, few);
      later = record {
        entries = entries;
        lawful = All-tail IsEntry first entries lawful;
        few = omega (arith, few);
        lost = lost;
        front = ap (λ (t : List ℕ). entries_text (count + 1 + 1) t (texts_of entries)) check_is ∙ same.rest;
      };
    }

pub ahead-next : (rest check entry check' rest' : List ℕ) (count : ℕ) → BeginsSealed rest (count + 1) check entry check' rest' → Ahead rest check count → Next entry rest' check' count
ahead-next rest check entry check' rest' count begins a = next-of rest check entry check' rest' a.lost count a.entries begins a.lawful a.few a.front

sound-of : (rest check lost : List ℕ) (count at : ℕ) (entries : List Entry) → All IsEntry entries → count + length entries ≤ MOST_ENTRIES → entries_text (count + 1) check (texts_of entries) ≡ rest ++ lost
    → IsDamagedAt rest (count + 1) check at → ⊥
sound-of rest check lost count at [] lawful few front bad =
    omega (arith, ap length front, ap length bad.is, length-append rest lost, length-append (lines_text bad.lines) (bad.line ++ 10 ∷ bad.more), length-append bad.line (10 ∷ bad.more))
sound-of rest check lost count at (first ∷ entries) lawful few front bad =
    sealed-sound (count + 1) check (text_in first) (entries_text (count + 1 + 1) (check_of check (text_in first)) (texts_of entries)) rest lost at (omega (arith, few))
    (entry-body first (All-head IsEntry first entries lawful)) front bad

pub ahead-sound : (rest check : List ℕ) (count at : ℕ) → Ahead rest check count → IsDamagedAt rest (count + 1) check at → ⊥
ahead-sound rest check count at a = sound-of rest check a.lost count at a.entries a.lawful a.few a.front

abbrev least : Entry
least = record { planner = 0; base = 0; watch = []; edits = [] }

is-entry-least : IsEntry least
is-entry-least = record {
  numbers = record { planner_most = omega arith; base_most = omega arith; watches_most = omega arith; edits_most = omega arith };
  watch = All-nil IsThing;
  edits = All-nil IsEdit;
}

tear-of : (rest check lost : List ℕ) (count : ℕ) (entries : List Entry) → All IsEntry entries → count + length entries ≤ MOST_ENTRIES → entries_text (count + 1) check (texts_of entries) ≡ rest ++ lost
    → IsUnsealed rest → IsTear rest (count + 1) check
tear-of rest check lost count [] lawful few front torn =
    let none : rest ≡ [] = nil_from_length rest (omega (arith, ap length front, length-append rest lost)) in
    let whole : List ℕ = sealed (count + 1) check (text_in least) in
    record {
      entry = least;
      lawful = is-entry-least;
      lost = whole;
      some = λ empty. let len = ap length empty in omega (arith, len, sealed-long (count + 1) check (text_in least));
      front = ap (λ (t : List ℕ). t ++ whole) (sym none);
    }
tear-of rest check lost count (first ∷ entries) lawful few front torn =
    let own = All-head IsEntry first entries lawful in
    let lacks = sealed-lacks (count + 1) check (text_in first) (entries_text (count + 1 + 1) (check_of check (text_in first)) (texts_of entries)) rest lost (omega (arith, few)) (entry-body first own) front torn in
    record { entry = first; lawful = own; lost = lacks.lost; some = lacks.some; front = lacks.front }

pub ahead-tear : (rest check : List ℕ) (count : ℕ) → Ahead rest check count → IsUnsealed rest → IsTear rest (count + 1) check
ahead-tear rest check count a = tear-of rest check a.lost count a.entries a.lawful a.few a.front

pub read-fault : (rest check : List ℕ) (count : ℕ) (why : ReadFault) → Ahead rest check count → FaultIs rest (count + 1) check why → why ≡ OutOfMemory
read-fault rest check count (Damaged at) a is = absurd (ahead-sound rest check count at a is)
read-fault rest check count OutOfMemory a is = refl
