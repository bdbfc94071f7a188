-- The entries of a log that are found, one after another.
use Rattle.std.proofs.Common.{◌≡◌, ◌<◌, ◌≤◌, ℕ, ◌+◌, true, List, [], ◌∷◌, ◌++◌, length, map, codes, refl, sym, ap, subst, ◌∙◌, arith, append_assoc, append-nil, length-append}
use Rattle.std.specs.List.{All, flat_map}
use Rattle.std.specs.Prelude.{Vec}
use Rattle.std.specs.Global.{Global}
use Rattle.std.proofs.lemmas.List.{map-append, length-map}
use Rattle.std.proofs.lemmas.Grind.{flat_map-append}
use Rattle.std.proofs.lemmas.List.Elements.{All-nil, All-push}
use Rattle.plan_table.specs.declared.tracks.Mode.{Mode}
use Rattle.desk_report.specs.LineText.{line_text}
use Rattle.desk_commits.specs.Entries.{Entry}
use Rattle.desk_commits.specs.declared.limits.TheConstants.{MOST_ENTRIES}
use Rattle.journal_text.specs.Ranges.{IsEntry}
use Rattle.journal_text.specs.Lines.{entry_lines, text_of, end_words, journal_text}
use Rattle.journal_text.specs.Fitting.{IsEntryOf}
use Rattle.journal_text.proofs.RouteLines.{text-journal}
use Rattle.commit_log.specs.Text.{check_of, head_text, is_digest, head_check, last_check, sealed, log_text}
use Rattle.commit_log.specs.Reads.{BeginsHead, BeginsSealed, IsUnsealed}
use Rattle.commit_log.specs.Crashes.{Counts}
use Rattle.commit_log.proofs.Growing.{log_text-push, last_check-push}
use Rattle.desk_log.specs.Keeping.{texts_of}
use Rattle.desk_log.specs.Reading.{heading_text, IsRead}
use Rattle.desk_log.specs.declared.reading.LogRead.{LogRead}

abbrev text_in : Entry → List ℕ
text_in entry = text_of (entry_lines entry)

-- the entries before the rest of the text, and the journal that they make so far
pub record Found (text : List ℕ) (mode : Mode) (scene rest journal check : List ℕ) (count : ℕ) : Type 0 where
  pub entries : List Entry
  pub lawful : All IsEntry entries
  pub few : length entries ≤ MOST_ENTRIES
  pub digest : is_digest scene ≡ true
  pub counts : Counts (head_text mode scene) (texts_of entries) count check
  pub split : text ≡ log_text (head_text mode scene) (texts_of entries) ++ rest
  pub made : journal ≡ heading_text mode ++ flat_map text_in entries

pub found-none : (text : List ℕ) (mode : Mode) (scene check rest journal : List ℕ) → BeginsHead text mode scene check rest → journal ≡ heading_text mode → Found text mode scene rest journal check 0
found-none text mode scene check rest journal head made = record {
  entries = [];
  lawful = All-nil IsEntry;
  few = omega arith;
  digest = head.digest;
  counts = record { count_is = refl; check_is = head.check_is };
  split = head.is ∙ ap (λ (t : List ℕ). t ++ rest) (sym (append-nil (head_text mode scene)));
  made = made ∙ sym (append-nil (heading_text mode));
}

pub found-count : (text : List ℕ) (mode : Mode) (scene rest journal check : List ℕ) (count : ℕ) → Found text mode scene rest journal check count → count ≤ MOST_ENTRIES
found-count text mode scene rest journal check count f = omega (arith, f.few, f.counts.count_is, length-map f.entries text_in)

module _ (text : List ℕ) (mode : Mode) (scene rest journal check : List ℕ) (count : ℕ) (f : Found text mode scene rest journal check count) where
  pub found-more : (entry check' rest' journal' : List ℕ) (e : Entry) → BeginsSealed rest (count + 1) check entry check' rest' → count < MOST_ENTRIES → IsEntryOf entry e → journal' ≡ journal ++ entry
      → Found text mode scene rest' journal' check' (count + 1)
  found-more entry check' rest' journal' e begins room is more =
      let texts : texts_of (f.entries ++ e ∷ []) ≡ texts_of f.entries ++ entry ∷ [] =
      map-append text_in f.entries (e ∷ []) ∙ ap (λ (t : List ℕ). texts_of f.entries ++ t ∷ []) (sym is.1) in
      let number : 1 + length (texts_of f.entries) ≡ count + 1 = omega (arith, f.counts.count_is) in
      let pushed : log_text (head_text mode scene) (texts_of (f.entries ++ e ∷ [])) ≡ log_text (head_text mode scene) (texts_of f.entries) ++ sealed (count + 1) check entry =
      ap (log_text (head_text mode scene)) texts ∙ log_text-push (head_text mode scene) (texts_of f.entries) entry
      ∙ ap (λ (n : ℕ). log_text (head_text mode scene) (texts_of f.entries) ++ sealed n (last_check (head_check (head_text mode scene)) (texts_of f.entries)) entry) number
      ∙ ap (λ (t : List ℕ). log_text (head_text mode scene) (texts_of f.entries) ++ sealed (count + 1) t entry) (sym f.counts.check_is) in
      record {
        entries = f.entries ++ e ∷ [];
        lawful = All-push IsEntry f.entries e f.lawful is.0;
        few = omega (arith, f.counts.count_is, length-map f.entries text_in, length-append f.entries (e ∷ []));
        digest = f.digest;
        counts = record {
          count_is = omega (arith, f.counts.count_is, ap length texts, length-append (texts_of f.entries) (entry ∷ []));
          check_is = begins.check_is ∙ ap (λ (t : List ℕ). check_of t entry) f.counts.check_is ∙ sym (last_check-push (head_check (head_text mode scene)) (texts_of f.entries) entry)
              ∙ ap (last_check (head_check (head_text mode scene))) (sym texts);
        };
        split = f.split ∙ ap (λ (t : List ℕ). log_text (head_text mode scene) (texts_of f.entries) ++ t) begins.is
            ∙ sym (append_assoc (log_text (head_text mode scene) (texts_of f.entries)) (sealed (count + 1) check entry) rest') ∙ ap (λ (t : List ℕ). t ++ rest') (sym pushed);
        made = more ∙ ap (λ (t : List ℕ). t ++ entry) f.made ∙ append_assoc (heading_text mode) (flat_map text_in f.entries) entry
            ∙ ap (λ (t : List ℕ). heading_text mode ++ t) (ap (λ (t : List ℕ). flat_map text_in f.entries ++ t) (is.1 ∙ sym (append-nil (text_in e))) ∙ sym (flat_map-append text_in f.entries (e ∷ [])));
      }

  pub found-all : (written : Vec ℕ Global) (end : ℕ) → IsUnsealed rest → written.items ≡ journal ++ line_text (end_words count) → end + length rest ≡ length text
      → IsRead text (record { mode = mode; scene = scene; journal = written; count = count; check = check; end = end })
  found-all written end unsealed made ends =
      let counted : count ≡ length f.entries = omega (arith, f.counts.count_is, length-map f.entries text_in) in
      record {
        entries = f.entries;
        lawful = f.lawful;
        few = f.few;
        scene = f.digest;
        counts = f.counts;
        rest = rest;
        unsealed = unsealed;
        split = f.split;
        ends = ends;
        journal = made ∙ ap (λ (t : List ℕ). t ++ line_text (end_words count)) f.made ∙ append_assoc (heading_text mode) (flat_map text_in f.entries) (line_text (end_words count))
            ∙ ap (λ (n : ℕ). heading_text mode ++ (flat_map text_in f.entries ++ line_text (end_words n))) counted ∙ sym (text-journal mode f.entries);
      }
