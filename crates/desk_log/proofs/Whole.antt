-- An entry, from what stands in its lines.
use Rattle.std.proofs.Common.{◌≡◌, ◌++◌, ◌∷◌, [], decimal, codes, ℕ, List, length, sym, ap, ◌∙◌, arith, append_assoc, append-nil}
use Rattle.std.specs.List.{All, flat_map}
use Rattle.scene_edits.specs.declared.changes.Thing.{Thing}
use Rattle.scene_edits.specs.declared.edits.Edit.{Edit}
use Rattle.desk_report.specs.LineText.{line_text}
use Rattle.desk_commits.specs.Entries.{Entry}
use Rattle.journal_text.specs.Lines.{watch_words, edit_words, entry_words, entry_lines, text_of}
use Rattle.journal_text.specs.Ranges.{IsThing, IsEdit, AreNumbers, IsEntry}
use Rattle.journal_text.specs.Fitting.{IsEntryOf}
use Rattle.journal_text.proofs.RouteLines.{text-entry}
use Rattle.desk_log.specs.Spaced.{spaced}
use Rattle.desk_log.proofs.Spelled.{line_is}

-- the numbers of the first line
head_is : (text name one two three end lines : List ℕ) (p b w e : ℕ) → text ≡ codes "entry" ++ name → name ≡ 32 ∷ (decimal p ++ one) → one ≡ 32 ∷ (decimal b ++ two)
    → two ≡ 32 ∷ (decimal w ++ three) → three ≡ 32 ∷ (decimal e ++ end) → end ≡ 10 ∷ lines → text ≡ line_text (entry_words p b w e) ++ lines
head_is text name one two three end lines p b w e is first second third fourth last =
    is
    ∙ ap (λ (t : List ℕ). codes "entry" ++ t)
    (first ∙ ap (λ (t : List ℕ). 32 ∷ (decimal p ++ t))
    (second ∙ ap (λ (t : List ℕ). 32 ∷ (decimal b ++ t))
    (third ∙ ap (λ (t : List ℕ). 32 ∷ (decimal w ++ t))
    (fourth ∙ ap (λ (t : List ℕ). 32 ∷ (decimal e ++ t)) last))))
    ∙ sym (line_is (codes "entry") (decimal p ∷ decimal b ∷ decimal w ∷ decimal e ∷ []) lines)

pub entry_is : (text name one two three end lines others rest : List ℕ) (p b w e : ℕ) (ws : List Thing) (es : List Edit) → AreNumbers p b w e → length ws ≡ w → length es ≡ e
    → All IsThing ws → All IsEdit es → text ≡ codes "entry" ++ name → name ≡ 32 ∷ (decimal p ++ one) → one ≡ 32 ∷ (decimal b ++ two)
    → two ≡ 32 ∷ (decimal w ++ three) → three ≡ 32 ∷ (decimal e ++ end) → end ≡ 10 ∷ lines
    → lines ≡ flat_map (λ thing. line_text (watch_words thing)) ws ++ others → others ≡ flat_map (λ edit. line_text (edit_words edit)) es ++ rest
    → (entry : Entry) × IsEntry entry × (text ≡ text_of (entry_lines entry) ++ rest)
entry_is text name one two three end lines others rest p b w e ws es numbers counted numbered watched edited is first second third fourth last watches edits =
    let entry : Entry = record { planner = p; base = b; watch = ws; edits = es } in
    let head : List ℕ = line_text (entry_words p b (length ws) (length es)) in
    let fw : List ℕ = flat_map (λ thing. line_text (watch_words thing)) ws in
    let fe : List ℕ = flat_map (λ edit. line_text (edit_words edit)) es in
    let same : line_text (entry_words p b w e) ≡ line_text (entry_words p b (length ws) (length es)) =
    ap (λ (n : ℕ). line_text (entry_words p b n e)) (sym counted) ∙ ap (λ (n : ℕ). line_text (entry_words p b (length ws) n)) (sym numbered) in (
      entry,
      record {
        numbers = record {
          planner_most = numbers.planner_most;
          base_most = numbers.base_most;
          watches_most = omega (arith, numbers.watches_most, counted);
          edits_most = omega (arith, numbers.edits_most, numbered);
        };
        watch = watched;
        edits = edited;
      },
      head_is text name one two three end lines p b w e is first second third fourth last ∙ ap (λ (t : List ℕ). t ++ lines) same
          ∙ ap (λ (t : List ℕ). head ++ t) (watches ∙ ap (λ (t : List ℕ). fw ++ t) edits)
          ∙ sym (ap (λ (t : List ℕ). t ++ rest) (text-entry entry) ∙ append_assoc head (fw ++ fe) rest ∙ ap (λ (t : List ℕ). head ++ t) (append_assoc fw fe rest)),
    )

-- nothing stands behind it
pub whole_is : (text rest : List ℕ) (entry : Entry) → IsEntry entry → text ≡ text_of (entry_lines entry) ++ rest → rest ≡ [] → (entry : Entry) × IsEntryOf text entry
whole_is text rest entry lawful is none = (entry, (lawful, is ∙ ap (λ (t : List ℕ). text_of (entry_lines entry) ++ t) none ∙ append-nil (text_of (entry_lines entry))))
