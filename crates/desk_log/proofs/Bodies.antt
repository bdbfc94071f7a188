-- The text of an entry can stand in a log.
use Rattle.std.proofs.Common.{◌≡◌, ℕ, true, false, List, [], ◌∷◌, ◌++◌, length, map, refl, ap, sym, subst, ◌∙◌}
use Rattle.std.specs.Prelude.{Option, Some, None, IfSome, Vec}
use Rattle.std.specs.Global.{Global}
use Rattle.std.specs.List.{All, list_all, join_with_byte}
use Rattle.std.proofs.lemmas.List.{map-append}
use Rattle.std.proofs.lemmas.List.Folds.{list_all-append}
use Rattle.std.proofs.lemmas.List.Elements.{All-head, All-tail}
use Rattle.scene_edits.specs.declared.changes.Thing.{Thing}
use Rattle.scene_edits.specs.declared.changes.Thing.TheVariants as things
use Rattle.scene_edits.specs.declared.edits.Edit.{Edit}
use Rattle.scene_edits.specs.declared.edits.Edit.TheVariants.{Add, Drop, Goal, Path, Tail, Open, Close}
use Rattle.desk_report.specs.LineText.{line_text}
use Rattle.desk_commits.specs.Entries.{Entry}
use Rattle.journal_text.specs.Ranges.{IsThing, IsEdit, IsEntry}
use Rattle.journal_text.specs.Lines.{watch_words, edit_words, entry_words, entry_lines, text_of}
use Rattle.journal_text.proofs.PlainWords.{are_plain, plain-watch, plain-edit, plain-entry}
use Rattle.journal_text.proofs.PlainLines.{one-line-join}
use Rattle.commit_log.specs.Lines.{begins_commit, is_entry_line, lines_text, IsBody}

abbrev pub line_of : List (List ℕ) → List ℕ
line_of words = join_with_byte 32 words

plain-line : (words : List (List ℕ)) → are_plain words ≡ true → begins_commit (line_of words) ≡ false → is_entry_line (line_of words) ≡ true
plain-line words plain other = rw (one-line-join words plain, other) refl

watch-line : (thing : Thing) → IsThing thing → is_entry_line (line_of (watch_words thing)) ≡ true
watch-line (things.Agent agent) lawful = plain-line (watch_words (things.Agent agent)) (plain-watch (things.Agent agent) lawful) refl
watch-line (things.Cell cell) lawful = plain-line (watch_words (things.Cell cell)) (plain-watch (things.Cell cell) lawful) refl
watch-line things.Map lawful = refl

edit-line : (edit : Edit) → IsEdit edit → is_entry_line (line_of (edit_words edit)) ≡ true
edit-line (Add agent start goal) lawful = plain-line (edit_words (Add agent start goal)) (plain-edit (Add agent start goal) lawful) refl
edit-line (Drop agent) lawful = plain-line (edit_words (Drop agent)) (plain-edit (Drop agent) lawful) refl
edit-line (Goal agent goal) lawful = plain-line (edit_words (Goal agent goal)) (plain-edit (Goal agent goal) lawful) refl
edit-line (Path agent cells) lawful = plain-line (edit_words (Path agent cells)) (plain-edit (Path agent cells) lawful) refl
edit-line (Tail agent from cells) lawful = plain-line (edit_words (Tail agent from cells)) (plain-edit (Tail agent from cells) lawful) refl
edit-line (Open cell) lawful = plain-line (edit_words (Open cell)) (plain-edit (Open cell) lawful) refl
edit-line (Close cell) lawful = plain-line (edit_words (Close cell)) (plain-edit (Close cell) lawful) refl

watch-lines : (watch : List Thing) → All IsThing watch → list_all is_entry_line (map line_of (map watch_words watch)) ≡ true
watch-lines [] lawful = refl
watch-lines (thing ∷ watch) lawful = rw (watch-line thing (All-head IsThing thing watch lawful), watch-lines watch (All-tail IsThing thing watch lawful)) refl

edit-lines : (edits : List Edit) → All IsEdit edits → list_all is_entry_line (map line_of (map edit_words edits)) ≡ true
edit-lines [] lawful = refl
edit-lines (edit ∷ edits) lawful = rw (edit-line edit (All-head IsEdit edit edits lawful), edit-lines edits (All-tail IsEdit edit edits lawful)) refl

pub entry-lines : (entry : Entry) → IsEntry entry → list_all is_entry_line (map line_of (entry_lines entry)) ≡ true
entry-lines entry lawful =
    let first = plain-line (entry_words entry.planner entry.base (length entry.watch) (length entry.edits)) (plain-entry entry.planner entry.base (length entry.watch) (length entry.edits) lawful.numbers) refl in
    let both : list_all is_entry_line (map line_of (map watch_words entry.watch ++ map edit_words entry.edits)) ≡ true =
    ap (list_all is_entry_line) (map-append line_of (map watch_words entry.watch) (map edit_words entry.edits))
    ∙ list_all-append is_entry_line (map line_of (map watch_words entry.watch)) (map line_of (map edit_words entry.edits))
    ∙ rw (watch-lines entry.watch lawful.watch, edit-lines entry.edits lawful.edits) refl in
    rw (first, both) refl

pub joined : (lines : List (List (List ℕ))) → text_of lines ≡ lines_text (map line_of lines)
joined [] = refl
joined (words ∷ lines) = ap (λ (t : List ℕ). line_text words ++ t) (joined lines)

pub entry-body : (entry : Entry) → IsEntry entry → IsBody (text_of (entry_lines entry))
entry-body entry lawful = record { lines = map line_of (entry_lines entry); sound = entry-lines entry lawful; is = joined (entry_lines entry) }

pub body-some : (found : Option (Vec ℕ Global)) (entry : Entry) → IfSome found (λ text. text.items ≡ text_of (entry_lines entry)) → IfSome found (λ text. IsEntry entry) → IfSome found (λ text. IsBody text.items)
body-some None entry written lawful = tt
body-some (Some text) entry written lawful = subst IsBody (sym written) (entry-body entry lawful)
