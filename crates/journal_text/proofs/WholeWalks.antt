-- The lines of each journal are a walk, and each place can be walked from to the end of some journal.
use Rattle.std.proofs.Common.{◌≡◌, ◌<◌, ◌≤◌, ℕ, ◌+◌, ◌-◌, true, ◌||◌, List, [], ◌∷◌, ◌++◌, length, map, refl, ap, sym, ◌∙◌, subst, inl, inr, arith, append_assoc, append-nil, length-append}
use Rattle.std.specs.Prelude.{replicate}
use Rattle.std.proofs.lemmas.List.{length-replicate}
use Rattle.std.proofs.lemmas.Bool.{cases_lt, ltb-true, lt-ltb, le-ltb, or_right, or_cases}
use Rattle.std.proofs.lemmas.List.Elements.{All-head, All-tail, All-replicate, All-nil}
use Rattle.std.specs.List.{All, flat_map}
use Rattle.scene_edits.specs.declared.changes.Thing.{Thing}
use Rattle.scene_edits.specs.declared.changes.Thing.TheVariants as things
use Rattle.scene_edits.specs.declared.edits.Edit.{Edit}
use Rattle.scene_edits.specs.declared.edits.Edit.TheVariants as edit
use Rattle.plan_table.specs.declared.tracks.Mode.TheVariants.{Stay}
use Rattle.desk_commits.specs.Entries.{Entry}
use Rattle.desk_commits.specs.declared.limits.TheConstants.{MOST_ENTRIES}
use Rattle.journal_text.specs.Ranges.{IsThing, IsEdit, IsEntry}
use Rattle.journal_text.specs.Lines.{mode_words, watch_words, edit_words, entry_lines, heading_lines, end_words, journal_lines}
use Rattle.journal_text.specs.Begun.{fresh, lacks_watch, lacks_edit, entry_of}
use Rattle.journal_text.specs.Places.{settled, Steps, IsPlace}
use Rattle.journal_text.specs.declared.places.Heading.{Heading}
use Rattle.journal_text.specs.declared.places.Heading.TheVariants.{First, Second}
use Rattle.journal_text.specs.declared.places.Head.{Head}
use Rattle.journal_text.specs.declared.places.Begun.{Begun}
use Rattle.journal_text.specs.declared.places.Place.{Place}
use Rattle.journal_text.specs.declared.places.Place.TheVariants.{Start, Versioned, Between, Inside, Over}
use Rattle.journal_text.proofs.PlainLines.{are_lines}
use Rattle.journal_text.proofs.Walks.{Walks, walk-more, walk-join, step-plain}
use Rattle.journal_text.proofs.PlaceLines.{place_lines, Reached, step-reached}

settled-watch : (heading : Heading) (entries : List Entry) (entry : Begun) → length entry.watch < entry.head.watches → settled heading entries entry ≡ Inside heading entries entry
settled-watch heading entries entry due = rw (lt-ltb (length entry.watch) entry.head.watches due) refl

settled-edit : (heading : Heading) (entries : List Entry) (entry : Begun) → length entry.edits < entry.head.edits → settled heading entries entry ≡ Inside heading entries entry
settled-edit heading entries entry due =
    let lacks : (lacks_watch entry || lacks_edit entry) ≡ true = or_right (lacks_watch entry) (lacks_edit entry) (lt-ltb (length entry.edits) entry.head.edits due) in
    rw lacks refl

settled-done : (heading : Heading) (entries : List Entry) (entry : Begun) → entry.head.watches ≤ length entry.watch → entry.head.edits ≤ length entry.edits → settled heading entries entry ≡ Between heading (entries ++ entry_of entry ∷ [])
settled-done heading entries entry watched edited = rw (le-ltb (length entry.watch) entry.head.watches watched, le-ltb (length entry.edits) entry.head.edits edited) refl

-- an entry of those numbers and lists
abbrev entry_with : Head → List Thing → List Edit → Entry
entry_with head watch edits = record { planner = head.planner; base = head.base; watch = watch; edits = edits }

abbrev begun_with : Head → List Thing → List Edit → Begun
begun_with head watch edits = record { head = head; watch = watch; edits = edits }

walk-edits : (heading : Heading) (entries : List Entry) (head : Head) (watch : List Thing) (done edits : List Edit) → head.watches ≡ length watch → head.edits ≡ length done + length edits → All IsEdit edits → Walks (settled heading entries (begun_with head watch done)) (map edit_words edits) (Between heading (entries ++ entry_with head watch (done ++ edits) ∷ []))
walk-edits heading entries head watch done [] watched count lawful =
    ap (λ (edits : List Edit). let p : Place = Between heading (entries ++ entry_with head watch edits ∷ []) in p) (append-nil done)
    ∙ sym (settled-done heading entries (begun_with head watch done) (omega arith) (omega arith))
walk-edits heading entries head watch done (one ∷ edits) watched count lawful =
    let begun : Begun = begun_with head watch done in
    let next : Begun = begun_with head watch (done ++ one ∷ []) in
    let due : length done < head.edits = omega arith in
    let here : Inside heading entries begun ≡ settled heading entries begun = sym (settled-edit heading entries begun due) in
    let step : Steps (Inside heading entries begun) (edit_words one) (settled heading entries next) =
    inr (record { edit = one; lawful = All-head IsEdit one edits lawful; watched = omega arith; due = due; line = refl; leads = refl }) in
    let later = walk-edits heading entries head watch (done ++ one ∷ []) edits watched (omega (arith, length-append done (one ∷ []))) (All-tail IsEdit one edits lawful) in (
      settled heading entries next,
      subst (λ (p : Place). Steps p (edit_words one) (settled heading entries next)) here step,
      subst (λ (all : List Edit). Walks (settled heading entries next) (map edit_words edits) (Between heading (entries ++ entry_with head watch all ∷ []))) (append_assoc done (one ∷ []) edits) later,
    )

walk-watches : (heading : Heading) (entries : List Entry) (head : Head) (done watch : List Thing) (edits : List Edit) → head.watches ≡ length done + length watch → head.edits ≡ length edits → All IsThing watch → All IsEdit edits → Walks (settled heading entries (begun_with head done [])) (map watch_words watch ++ map edit_words edits) (Between heading (entries ++ entry_with head (done ++ watch) edits ∷ []))
walk-watches heading entries head done [] edits watched count named lawful =
    subst (λ (all : List Thing). Walks (settled heading entries (begun_with head done [])) (map edit_words edits) (Between heading (entries ++ entry_with head all edits ∷ []))) (sym (append-nil done))
    (walk-edits heading entries head done [] edits (omega arith) (omega arith) lawful)
walk-watches heading entries head done (thing ∷ watch) edits watched count named lawful =
    let begun : Begun = begun_with head done [] in
    let next : Begun = begun_with head (done ++ thing ∷ []) [] in
    let due : length done < head.watches = omega arith in
    let here : Inside heading entries begun ≡ settled heading entries begun = sym (settled-watch heading entries begun due) in
    let step : Steps (Inside heading entries begun) (watch_words thing) (settled heading entries next) =
    inl (record { thing = thing; lawful = All-head IsThing thing watch named; due = due; line = refl; leads = refl }) in
    let later = walk-watches heading entries head (done ++ thing ∷ []) watch edits (omega (arith, length-append done (thing ∷ []))) count (All-tail IsThing thing watch named) lawful in (
      settled heading entries next,
      subst (λ (p : Place). Steps p (watch_words thing) (settled heading entries next)) here step,
      subst (λ (all : List Thing). Walks (settled heading entries next) (map watch_words watch ++ map edit_words edits) (Between heading (entries ++ entry_with head all edits ∷ []))) (append_assoc done (thing ∷ []) watch) later,
    )

pub walk-entry : (heading : Heading) (entries : List Entry) (entry : Entry) → length entries < MOST_ENTRIES → IsEntry entry → Walks (Between heading entries) (entry_lines entry) (Between heading (entries ++ entry ∷ []))
walk-entry heading entries entry room lawful =
    let head : Head = record { planner = entry.planner; base = entry.base; watches = length entry.watch; edits = length entry.edits } in (
      settled heading entries (fresh head),
      inl (record { head = head; numbers = lawful.numbers; room = room; line = refl; leads = refl }),
      walk-watches heading entries head [] entry.watch entry.edits (omega arith) refl lawful.watch lawful.edits,
    )

walk-entries : (heading : Heading) (entries more : List Entry) → length entries + length more ≤ MOST_ENTRIES → All IsEntry more → Walks (Between heading entries) (flat_map entry_lines more) (Between heading (entries ++ more))
walk-entries heading entries [] room lawful = ap (λ (all : List Entry). let p : Place = Between heading all in p) (append-nil entries)
walk-entries heading entries (entry ∷ more) room lawful =
    let next : List Entry = entries ++ entry ∷ [] in
    let later = walk-entries heading next more (omega (arith, length-append entries (entry ∷ []))) (All-tail IsEntry entry more lawful) in
    walk-join (Between heading entries) (Between heading next) (Between heading (entries ++ entry ∷ more)) (entry_lines entry) (flat_map entry_lines more)
    (walk-entry heading entries entry (omega arith) (All-head IsEntry entry more lawful))
    (subst (λ (all : List Entry). Walks (Between heading next) (flat_map entry_lines more) (Between heading all)) (append_assoc entries (entry ∷ []) more) later)

walk-heading : (heading : Heading) → Walks Start (heading_lines heading) (Between heading [])
walk-heading First = (Between First [], inl (refl, refl), refl)
walk-heading (Second mode) = (Versioned, inr (refl, refl), (Between (Second mode) [], (mode, refl, refl), refl))

-- the lines of a journal lead to its end
pub walk-journal : (heading : Heading) (entries : List Entry) → length entries ≤ MOST_ENTRIES → All IsEntry entries → Walks Start (journal_lines heading entries) (Over heading entries)
walk-journal heading entries few lawful =
    walk-join Start (Between heading []) (Over heading entries) (heading_lines heading) (flat_map entry_lines entries ++ end_words (length entries) ∷ []) (walk-heading heading)
    (walk-more (Between heading []) (Between heading entries) (Over heading entries) (flat_map entry_lines entries) (end_words (length entries)) (walk-entries heading [] entries (omega arith) lawful) (inr (refl, refl)))

-- a walk tells its lines, and they are of plain words
pub walk-reached : (place last : Place) (lines : List (List (List ℕ))) → IsPlace place → Walks place lines last → Reached last (place_lines place ++ lines)
walk-reached place last [] lawful walk = rw walk (record { lawful = lawful; lines_are = sym (append-nil (place_lines place)) })
walk-reached place last (words ∷ lines) lawful walk =
    let step = step-reached place walk.0 words lawful walk.1 in
    let later = walk-reached walk.0 last lines step.lawful walk.2 in
    record {
      lawful = later.lawful;
      lines_are = later.lines_are ∙ ap (λ (l : List (List (List ℕ))). l ++ lines) step.lines_are ∙ append_assoc (place_lines place) (words ∷ []) lines;
    }

pub walk-plain : (place last : Place) (lines : List (List (List ℕ))) → IsPlace place → Walks place lines last → are_lines lines ≡ true
walk-plain place last [] lawful walk = refl
walk-plain place last (words ∷ lines) lawful walk =
    let step = step-reached place walk.0 words lawful walk.1 in
    rw (step-plain place walk.0 words lawful walk.1, walk-plain walk.0 last lines step.lawful walk.2) refl

-- a walk from a place to the end of a journal
pub record Ends (place : Place) : Type 0 where
  pub heading : Heading
  pub entries : List Entry
  pub lines : List (List (List ℕ))
  pub walk : Walks place lines (Over heading entries)

end-between : (heading : Heading) (entries : List Entry) → Ends (Between heading entries)
end-between heading entries = record { heading = heading; entries = entries; lines = end_words (length entries) ∷ []; walk = (Over heading entries, inr (refl, refl), refl) }

end-inside : (heading : Heading) (entries : List Entry) (place : Place) (entry : Entry) (lines : List (List (List ℕ))) → Walks place lines (Between heading (entries ++ entry ∷ [])) → Ends place
end-inside heading entries place entry lines walk =
    let all : List Entry = entries ++ entry ∷ [] in
    record { heading = heading; entries = all; lines = lines ++ end_words (length all) ∷ []; walk = walk-more place (Between heading all) (Over heading all) lines (end_words (length all)) walk (inr (refl, refl)) }

pub can-end : (place : Place) → IsPlace place → Ends place
can-end Start lawful = record { heading = First; entries = []; lines = journal_lines First []; walk = walk-journal First [] (omega arith) (All-nil IsEntry) }
can-end Versioned lawful = record { heading = Second Stay; entries = []; lines = mode_words Stay ∷ end_words 0 ∷ []; walk = (Between (Second Stay) [], (Stay, refl, refl), (Over (Second Stay) [], inr (refl, refl), refl)) }
can-end (Between heading entries) lawful = end-between heading entries
can-end (Inside heading entries entry) lawful =
    let begun = lawful.2 in
    let more : List Edit = replicate (entry.head.edits - length entry.edits) (edit.Drop 0) in
    let few : length entry.watch ≤ entry.head.watches = begun.watched in
    let less : length entry.edits ≤ entry.head.edits = begun.edited in
    let lawful_more : All IsEdit more = All-replicate IsEdit (entry.head.edits - length entry.edits) (edit.Drop 0) (omega arith) in
    elim (cases_lt (length entry.watch) entry.head.watches) [
      | inl due ↦
          let fill : List Thing = replicate (entry.head.watches - length entry.watch) things.Map in
          let none : entry.edits ≡ [] = begun.order due in
          let here : settled heading entries (begun_with entry.head entry.watch []) ≡ Inside heading entries entry =
          ap (λ (edits : List Edit). settled heading entries (begun_with entry.head entry.watch edits)) (sym none) ∙ settled-watch heading entries entry due in
          let walk = walk-watches heading entries entry.head entry.watch fill more (omega (arith, length-replicate (entry.head.watches - length entry.watch) things.Map)) (omega (arith, length-replicate (entry.head.edits - length entry.edits) (edit.Drop 0), ap length none)) (All-replicate IsThing (entry.head.watches - length entry.watch) things.Map tt) lawful_more in
          end-inside heading entries (Inside heading entries entry) (entry_with entry.head (entry.watch ++ fill) more) (map watch_words fill ++ map edit_words more)
          (subst (λ (p : Place). Walks p (map watch_words fill ++ map edit_words more) (Between heading (entries ++ entry_with entry.head (entry.watch ++ fill) more ∷ []))) here walk)
      | inr done ↦
          let lacks : lacks_edit entry ≡ true = elim (or_cases (lacks_watch entry) (lacks_edit entry) lawful.3) [ inl no_watch ↦ absurd (omega (arith, ltb-true (length entry.watch) entry.head.watches no_watch)) | inr some ↦ some ] in
          let here : settled heading entries entry ≡ Inside heading entries entry = settled-edit heading entries entry (ltb-true (length entry.edits) entry.head.edits lacks) in
          let walk = walk-edits heading entries entry.head entry.watch entry.edits more (omega arith) (omega (arith, length-replicate (entry.head.edits - length entry.edits) (edit.Drop 0))) lawful_more in
          end-inside heading entries (Inside heading entries entry) (entry_with entry.head entry.watch (entry.edits ++ more)) (map edit_words more)
          (subst (λ (p : Place). Walks p (map edit_words more) (Between heading (entries ++ entry_with entry.head entry.watch (entry.edits ++ more) ∷ []))) here walk)
    ]
can-end (Over heading entries) lawful = record { heading = heading; entries = entries; lines = []; walk = refl }
