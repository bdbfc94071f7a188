-- Entries that are put into a log, one after another.
use Rattle.std.proofs.Common.{◌≡◌, ◌⊎◌, inl, inr, ℕ, ◌+◌, ◌-◌, ◌<◌, List, [], ◌∷◌, ◌++◌, length, map, take, drop, get_or, Option, Some, refl, sym, ap, subst, ◌∙◌, arith, add-one, append_assoc, append-nil, length-append, take-append-drop}
use Rattle.std.specs.Prelude.{Result, Ok, Err, OnOk, OnErr}
use Rattle.std.proofs.Math.Seq.{take-suc}
use Rattle.std.proofs.lemmas.List.{map-append, length-map, nil_from_length, take_rest, drop_at}
use Rattle.desk_commits.specs.Entries.{Entry}
use Rattle.journal_text.specs.Lines.{entry_lines, text_of}
use Rattle.commit_log.specs.Text.{log_text}
use Rattle.commit_log.specs.Crashes.{Counts, IsLogOf, MayLeave}
use Rattle.commit_log.proofs.Growing.{nothing-unsealed}
use Rattle.desk_log.specs.Keeping.{texts_of, LeavesEntries}

abbrev text_in : Entry → List ℕ
text_in entry = text_of (entry_lines entry)

module _ (before entries : List Entry) (i : ℕ) (entry : Entry) (is : entry ≡ get_or entries i entry) (within : i < length entries) where
  pub taken : take (i + 1) entries ≡ take i entries ++ entry ∷ []
  taken = ap (λ n. take n entries) (add-one i) ∙ take-suc entries i entry within ∙ ap (λ y. take i entries ++ y ∷ []) (sym is)

  pub before_taken : before ++ take (i + 1) entries ≡ (before ++ take i entries) ++ entry ∷ []
  before_taken = ap (λ (l : List Entry). before ++ l) taken ∙ sym (append_assoc before (take i entries) (entry ∷ []))

  pub texts_taken : texts_of (before ++ take (i + 1) entries) ≡ texts_of (before ++ take i entries) ++ text_in entry ∷ []
  texts_taken = ap texts_of before_taken ∙ map-append text_in (before ++ take i entries) (entry ∷ [])

  -- whatever a crash leaves when the entry was put, or a part of it
  pub leaves-more : (head left : List ℕ) → LeavesEntries head left before (before ++ take i entries) ⊎ (IsLogOf head (texts_of (before ++ take i entries)) left ⊎ IsLogOf head (texts_of (before ++ take i entries) ++ text_in entry ∷ []) left)
      → LeavesEntries head left before (before ++ take (i + 1) entries)
  leaves-more head left (inl leaves) = record {
    more = leaves.more;
    lost = leaves.lost ++ entry ∷ [];
    front = before_taken ∙ ap (λ (l : List Entry). l ++ entry ∷ []) leaves.front ∙ append_assoc before (leaves.more ++ leaves.lost) (entry ∷ []) ∙ ap (λ (l : List Entry). before ++ l) (append_assoc leaves.more leaves.lost (entry ∷ []));
    stands = leaves.stands;
  }
  leaves-more head left (inr (inl stands)) = record { more = take i entries; lost = entry ∷ []; front = ap (λ (l : List Entry). before ++ l) taken; stands = stands }
  leaves-more head left (inr (inr stands)) = record {
    more = take (i + 1) entries;
    lost = [];
    front = ap (λ (l : List Entry). before ++ l) (sym (append-nil (take (i + 1) entries)));
    stands = subst (λ (t : List (List ℕ)). IsLogOf head t left) (sym texts_taken) stands;
  }

-- of the first of the entries, and so of all
pub leaves-all : (head left : List ℕ) (before entries : List Entry) (i : ℕ) → LeavesEntries head left before (before ++ take i entries) → LeavesEntries head left before (before ++ entries)
leaves-all head left before entries i leaves = record {
  more = leaves.more;
  lost = leaves.lost ++ drop i entries;
  front = ap (λ (l : List Entry). before ++ l) (sym (take-append-drop i entries)) ∙ sym (append_assoc before (take i entries) (drop i entries)) ∙ ap (λ (l : List Entry). l ++ drop i entries) leaves.front
      ∙ append_assoc before (leaves.more ++ leaves.lost) (drop i entries) ∙ ap (λ (l : List Entry). before ++ l) (append_assoc leaves.more leaves.lost (drop i entries));
  stands = leaves.stands;
}

-- whatever a crash leaves when that text was put for the entry
pub leaves-put : (head left text : List ℕ) (kept whole : Option (List ℕ)) (before entries : List Entry) (i : ℕ) (entry : Entry) → entry ≡ get_or entries i entry → i < length entries → text ≡ text_of (entry_lines entry)
    → (MayLeave kept whole left → LeavesEntries head left before (before ++ take i entries))
    → MayLeave kept whole left ⊎ (IsLogOf head (texts_of (before ++ take i entries)) left ⊎ IsLogOf head (texts_of (before ++ take i entries) ++ text ∷ []) left)
    → LeavesEntries head left before (before ++ take (i + 1) entries)
leaves-put head left text kept whole before entries i entry is within same earlier (inl may) = leaves-more before entries i entry is within head left (inl (earlier may))
leaves-put head left text kept whole before entries i entry is within same earlier (inr (inl stands)) = leaves-more before entries i entry is within head left (inr (inl stands))
leaves-put head left text kept whole before entries i entry is within same earlier (inr (inr stands)) =
    leaves-more before entries i entry is within head left (inr (inr (subst (λ (t : List ℕ). IsLogOf head (texts_of (before ++ take i entries) ++ t ∷ []) left) same stands)))

-- where a crash leaves all, it leaves the entries
pub settled-leaves : (head left : List ℕ) (kept whole : Option (List ℕ)) (before : List Entry) → whole ≡ Some (log_text head (texts_of before)) → kept ≡ whole → MayLeave kept whole left → LeavesEntries head left before (before ++ [])
settled-leaves head left kept whole before is same may =
    let log = log_text head (texts_of before) in
    let all : may.whole ≡ log = let both = sym may.text_is ∙ is in cc in
    let least : may.least ≡ log = let both = sym may.kept_is ∙ same ∙ is in cc in
    let none : may.more ≡ [] = nil_from_length may.more (omega (arith, ap length all, ap length least, ap length may.begins, ap length may.front, length-append may.least may.more, length-append left may.lost)) in
    record {
      more = [];
      lost = [];
      front = refl;
      stands = record {
        rest = [];
        unsealed = nothing-unsealed;
        is = may.begins ∙ ap (λ (t : List ℕ). may.least ++ t) none ∙ ap (λ (t : List ℕ). t ++ []) least ∙ ap (λ (b : List Entry). log_text head (texts_of b) ++ []) (sym (append-nil before));
      };
    }

-- what is put is what came since
pub since : (journal before later : List Entry) (count : ℕ) → journal ≡ before ++ later → count ≡ length (texts_of before) → take (length journal - count) (drop count journal) ≡ later
since journal before later count is counted =
    take_rest journal count ∙ ap (λ (l : List Entry). drop count l) is ∙ drop_at before later count (sym (counted ∙ length-map before text_in))

pub all-since : (journal before later : List Entry) (count : ℕ) → journal ≡ before ++ later → count ≡ length (texts_of before) → journal ≡ before ++ take (length journal - count) (drop count journal)
all-since journal before later count is counted = is ∙ ap (λ (l : List Entry). before ++ l) (sym (since journal before later count is counted))

pub on-ok : {T E P Q : Type 0} (r : Result T E) → OnOk r P → (P → Q) → OnOk r Q
on-ok (Ok value) holds gives = gives holds
on-ok (Err fault) holds gives = tt

pub on-err : {T E P Q : Type 0} (r : Result T E) → OnErr r P → (P → Q) → OnErr r Q
on-err (Ok value) holds gives = tt
on-err (Err fault) holds gives = gives holds
