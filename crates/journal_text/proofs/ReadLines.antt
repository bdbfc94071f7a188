-- What a session would take the lines of a journal for.
use Rattle.std.proofs.Common.{◌≡◌, ◌≢◌, ℕ, Ok, Err, Result, Option, Some, None, List, ◌++◌, codes, ap, sym, subst, ◌∙◌}
use Rattle.std.specs.Prelude.{IfOk, MatchOption}
use Rattle.scene_edits.specs.declared.changes.Thing.{Thing}
use Rattle.scene_edits.specs.declared.edits.Edit.{Edit}
use Rattle.desk_report.specs.LineText.{line_text}
use Rattle.session_lines.specs.Requests.{request_of, request_of_words}
use Rattle.session_lines.specs.declared.requests.Request.TheVariants as request
use Rattle.journal_text.specs.Ranges.{IsThing, IsEdit}
use Rattle.journal_text.specs.Lines.{watch_words, edit_words}
use Rattle.journal_text.specs.Places.{IsLineOf}
use Rattle.journal_text.proofs.PlainWords.{plain-watch, plain-edit}
use Rattle.journal_text.proofs.PlainLines.{line-words_of}
use Rattle.journal_text.proofs.Grammar.{request-watch, request-edit}

-- the line of a watch asks to watch that thing
pub request_of-watch : (line : List ℕ) (thing : Thing) → IsThing thing → line_text (watch_words thing) ≡ line ++ codes "\n" → request_of line ≡ Ok (request.Watch thing)
unfolding request_of
request_of-watch line thing lawful same = ap request_of_words (line-words_of (watch_words thing) line (plain-watch thing lawful) same) ∙ request-watch thing lawful

-- an edit line asks for that edit
pub request_of-edit : (line : List ℕ) (edit : Edit) → IsEdit edit → line_text (edit_words edit) ≡ line ++ codes "\n" → request_of line ≡ Ok (request.Edit edit)
unfolding request_of
request_of-edit line edit lawful same = ap request_of_words (line-words_of (edit_words edit) line (plain-edit edit lawful) same) ∙ request-edit edit lawful

-- the only value that the line can be of, where it is the line that is written of it
pub named : {A E : Type 0} (IsLawful : A → Type 0) (words : A → List (List ℕ)) (line : List ℕ) (value : A) (result : Result (Option A) E)
    → ((other : A) → IsLawful other → line_text (words other) ≡ line ++ codes "\n" → other ≡ value)
    → IfOk result (λ found. MatchOption found (line_text (words value) ≢ line ++ codes "\n") (λ same. (same ≡ value) × IsLawful value × (line_text (words value) ≡ line ++ codes "\n")))
    → IfOk result (IsLineOf IsLawful words line)
named IsLawful words line value (Err why) only is = is
named IsLawful words line value (Ok None) only is = λ other lawful same. is (ap (λ v. line_text (words v)) (sym (only other lawful same)) ∙ same)
named IsLawful words line value (Ok (Some same)) only is = (subst IsLawful (sym is.0) is.1, ap (λ v. line_text (words v)) is.0 ∙ is.2)
