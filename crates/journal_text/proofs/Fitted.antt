-- Lines that are those of one entry, by the journal that they would stand in.
use Rattle.std.proofs.Common.{◌≡◌, ℕ, List, [], ◌∷◌, ◌++◌, length, codes, drop, get_or, refl, sym, ap, ◌∙◌, inl, arith, append-nil}
use Rattle.std.proofs.lemmas.List.Elements.{All-head, All-nil}
use Rattle.desk_commits.specs.Entries.{Entry}
use Rattle.journal_text.specs.Ranges.{IsEntry}
use Rattle.journal_text.specs.Lines.{entry_lines, text_of}
use Rattle.journal_text.specs.Fitting.{IsEntryOf}
use Rattle.journal_text.specs.declared.places.Heading.{Heading}
use Rattle.journal_text.specs.declared.places.Heading.TheVariants.{First, Second}
use Rattle.journal_text.specs.declared.places.Place.{Place}
use Rattle.journal_text.specs.declared.places.Place.TheVariants.{Start, Between}
use Rattle.journal_text.proofs.BadLines.{Stands}

-- the lines behind a journal's first line
abbrev pub behind_first : List ℕ → List ℕ
behind_first text = codes "journal 1\n" ++ text

pub stands-first : (text : List ℕ) → Stands (behind_first text) (Between First []) text
stands-first text = record { lawful = (omega arith, All-nil IsEntry); walk = (Between First [], inl (refl, refl), refl); split = refl }

fitted : (text : List ℕ) (heading : Heading) (entry : Entry) → Stands (behind_first text) (Between heading (entry ∷ [])) [] → IsEntryOf text entry
fitted text First entry stands =
    let whole : text ≡ (text_of (entry_lines entry ++ [])) ++ [] = ap (λ (t : List ℕ). drop 10 t) stands.split in
    (All-head IsEntry entry [] stands.lawful.1, whole ∙ append-nil (text_of (entry_lines entry ++ [])) ∙ ap text_of (append-nil (entry_lines entry)))
fitted text (Second mode) entry stands =
    let other : 49 ≡ 50 = ap (λ (t : List ℕ). get_or t 8 0) stands.split in
    absurd (omega (arith, other))

pub fitted-one : (text : List ℕ) (heading : Heading) (entries : List Entry) → length entries ≡ 1 → Stands (behind_first text) (Between heading entries) [] → (entry : Entry) × IsEntryOf text entry
fitted-one text heading [] one stands = absurd (omega (arith, one))
fitted-one text heading (entry ∷ []) one stands = (entry, fitted text heading entry stands)
fitted-one text heading (entry ∷ other ∷ entries) one stands = absurd (omega (arith, one))
