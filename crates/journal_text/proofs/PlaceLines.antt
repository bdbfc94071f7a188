-- The lines that lead to a place: the place behind a line has that line too.
use Rattle.std.proofs.Common.{◌≡◌, ◌<◌, ◌≤◌, ℕ, ◌||◌, List, [], ◌∷◌, ◌++◌, length, map, codes, refl, ap, sym, ◌∙◌, inl, inr, arith, rules, append_assoc, append-nil, length-append}
use Rattle.std.proofs.lemmas.Bool.{cases_Bool, ltb-false, or_parts}
use Rattle.std.proofs.lemmas.List.{map-append}
use Rattle.std.proofs.lemmas.List.Elements.{All-push}
use Rattle.std.proofs.lemmas.Grind.{flat_map-append}
use Rattle.std.specs.List.{All, flat_map}
use Rattle.scene_edits.specs.declared.changes.Thing.{Thing}
use Rattle.scene_edits.specs.declared.edits.Edit.{Edit}
use Rattle.desk_commits.specs.Entries.{Entry}
use Rattle.desk_commits.specs.declared.limits.TheConstants.{MOST_ENTRIES}
use Rattle.journal_text.specs.Ranges.{IsThing, IsEdit, IsEntry}
use Rattle.journal_text.specs.Lines.{watch_words, edit_words, entry_words, entry_lines, version_words, heading_lines, end_words, journal_lines}
use Rattle.journal_text.specs.Begun.{IsHead, head_words, fresh, lacks_watch, lacks_edit, entry_of, IsBegun}
use Rattle.journal_text.specs.Places.{settled, Steps, IsPlace}
use Rattle.journal_text.specs.declared.places.Heading.{Heading}
use Rattle.journal_text.specs.declared.places.Head.{Head}
use Rattle.journal_text.specs.declared.places.Begun.{Begun}
use Rattle.journal_text.specs.declared.places.Place.{Place}
use Rattle.journal_text.specs.declared.places.Place.TheVariants.{Start, Versioned, Between, Inside, Over}

-- the lines that lead to a place
abbrev pub begun_lines : Begun → List (List (List ℕ))
begun_lines entry = head_words entry.head ∷ (map watch_words entry.watch ++ map edit_words entry.edits)

abbrev pub place_lines : Place → List (List (List ℕ))
place_lines Start = []
place_lines Versioned = version_words (codes "2") ∷ []
place_lines (Between heading entries) = heading_lines heading ++ flat_map entry_lines entries
place_lines (Inside heading entries entry) = (heading_lines heading ++ flat_map entry_lines entries) ++ begun_lines entry
place_lines (Over heading entries) = journal_lines heading entries

-- a place, and the lines that lead to it
pub record Reached (place : Place) (lines : List (List (List ℕ))) : Type 0 where
  pub lawful : IsPlace place
  pub lines_are : place_lines place ≡ lines

flat_map-push : (entries : List Entry) (entry : Entry) → flat_map entry_lines (entries ++ entry ∷ []) ≡ flat_map entry_lines entries ++ entry_lines entry
flat_map-push entries entry = flat_map-append entry_lines entries (entry ∷ []) ∙ ap (λ (l : List (List (List ℕ))). flat_map entry_lines entries ++ l) (append-nil (entry_lines entry))

entry-begun : (entry : Begun) → length entry.watch ≡ entry.head.watches → length entry.edits ≡ entry.head.edits → entry_lines (entry_of entry) ≡ begun_lines entry
entry-begun entry watched edited =
    ap (λ (n : ℕ). entry_words entry.head.planner entry.head.base n (length entry.edits) ∷ (map watch_words entry.watch ++ map edit_words entry.edits)) watched
    ∙ ap (λ (n : ℕ). entry_words entry.head.planner entry.head.base entry.head.watches n ∷ (map watch_words entry.watch ++ map edit_words entry.edits)) edited

is-entry : (entry : Begun) → IsBegun entry → length entry.watch ≡ entry.head.watches → length entry.edits ≡ entry.head.edits → IsEntry (entry_of entry)
is-entry entry lawful watched edited =
    let numbers = lawful.numbers in
    record {
      numbers = record {
        planner_most = numbers.planner_most;
        base_most = numbers.base_most;
        watches_most = omega (arith, numbers.watches_most);
        edits_most = omega (arith, numbers.edits_most);
      };
      watch = lawful.watch;
      edits = lawful.edits;
    }

pub settled-reached : (heading : Heading) (entries : List Entry) (entry : Begun) → length entries < MOST_ENTRIES → All IsEntry entries → IsBegun entry → Reached (settled heading entries entry) ((heading_lines heading ++ flat_map entry_lines entries) ++ begun_lines entry)
settled-reached heading entries entry room all lawful =
    elim (cases_Bool (lacks_watch entry || lacks_edit entry)) [
      | inl lacks ↦ rw lacks (record { lawful = (room, all, lawful, lacks); lines_are = refl })
      | inr none ↦
          let parts = or_parts (lacks_watch entry) (lacks_edit entry) none in
          let few : length entry.watch ≤ entry.head.watches = lawful.watched in
          let less : length entry.edits ≤ entry.head.edits = lawful.edited in
          let many : entry.head.watches ≤ length entry.watch = ltb-false (length entry.watch) entry.head.watches parts.0 in
          let more : entry.head.edits ≤ length entry.edits = ltb-false (length entry.edits) entry.head.edits parts.1 in
          let watched : length entry.watch ≡ entry.head.watches = omega arith in
          let edited : length entry.edits ≡ entry.head.edits = omega arith in
          let count : length (entries ++ entry_of entry ∷ []) ≤ MOST_ENTRIES = omega (arith, length-append entries (entry_of entry ∷ [])) in
          let lines : place_lines (Between heading (entries ++ entry_of entry ∷ [])) ≡ (heading_lines heading ++ flat_map entry_lines entries) ++ begun_lines entry =
          ap (λ (l : List (List (List ℕ))). heading_lines heading ++ l) (flat_map-push entries (entry_of entry) ∙ ap (λ (l : List (List (List ℕ))). flat_map entry_lines entries ++ l) (entry-begun entry watched edited))
          ∙ sym (append_assoc (heading_lines heading) (flat_map entry_lines entries) (begun_lines entry)) in
          rw none (record { lawful = (count, All-push IsEntry entries (entry_of entry) all (is-entry entry lawful watched edited)); lines_are = lines })
    ]

pub fresh-begun : (head : Head) → IsHead head → IsBegun (fresh head)
fresh-begun head numbers = record {
  numbers = numbers;
  watched = omega arith;
  edited = omega arith;
  order = λ due. refl;
  watch = search rules;
  edits = search rules;
}

pub watched-begun : (entry : Begun) (thing : Thing) → IsBegun entry → IsThing thing → length entry.watch < entry.head.watches → IsBegun (record entry { watch = entry.watch ++ thing ∷ [] })
watched-begun entry thing lawful named due = record {
  numbers = lawful.numbers;
  watched = omega (arith, length-append entry.watch (thing ∷ []));
  edited = lawful.edited;
  order = λ later. lawful.order due;
  watch = All-push IsThing entry.watch thing lawful.watch named;
  edits = lawful.edits;
}

pub edited-begun : (entry : Begun) (edit : Edit) → IsBegun entry → IsEdit edit → entry.head.watches ≤ length entry.watch → length entry.edits < entry.head.edits → IsBegun (record entry { edits = entry.edits ++ edit ∷ [] })
edited-begun entry edit lawful named done due = record {
  numbers = lawful.numbers;
  watched = lawful.watched;
  edited = omega (arith, length-append entry.edits (edit ∷ []));
  order = λ later. absurd (omega arith);
  watch = lawful.watch;
  edits = All-push IsEdit entry.edits edit lawful.edits named;
}

watched-lines : (entry : Begun) (thing : Thing) → entry.edits ≡ [] → begun_lines (record entry { watch = entry.watch ++ thing ∷ [] }) ≡ begun_lines entry ++ watch_words thing ∷ []
watched-lines entry thing none =
    let Lines : Type 0 = List (List (List ℕ)) in
    let after : map watch_words (entry.watch ++ thing ∷ []) ++ map edit_words entry.edits ≡ (map watch_words entry.watch ++ map edit_words entry.edits) ++ watch_words thing ∷ [] =
    ap (λ (edits : List Edit). map watch_words (entry.watch ++ thing ∷ []) ++ map edit_words edits) none
    ∙ append-nil (map watch_words (entry.watch ++ thing ∷ []))
    ∙ map-append watch_words entry.watch (thing ∷ [])
    ∙ ap (λ (l : Lines). l ++ watch_words thing ∷ []) (sym (append-nil (map watch_words entry.watch)) ∙ ap (λ (edits : List Edit). map watch_words entry.watch ++ map edit_words edits) (sym none)) in
    ap (λ (l : Lines). head_words entry.head ∷ l) after

edited-lines : (entry : Begun) (edit : Edit) → begun_lines (record entry { edits = entry.edits ++ edit ∷ [] }) ≡ begun_lines entry ++ edit_words edit ∷ []
edited-lines entry edit =
    let Lines : Type 0 = List (List (List ℕ)) in
    ap (λ (l : Lines). head_words entry.head ∷ (map watch_words entry.watch ++ l)) (map-append edit_words entry.edits (edit ∷ []))
    ∙ ap (λ (l : Lines). head_words entry.head ∷ l) (sym (append_assoc (map watch_words entry.watch) (map edit_words entry.edits) (edit_words edit ∷ [])))

-- the place behind a line has that line too
pub step-reached : (place next : Place) (words : List (List ℕ)) → IsPlace place → Steps place words next → Reached next (place_lines place ++ words ∷ [])
step-reached Start next words lawful step =
    elim step [
      | inl x ↦ rw (x.1, x.0) (record { lawful = (omega arith, search rules); lines_are = refl })
      | inr x ↦ rw (x.1, x.0) (record { lawful = tt; lines_are = refl })
    ]
step-reached Versioned next words lawful step = rw (step.2, step.1) (record { lawful = (omega arith, search rules); lines_are = refl })
step-reached (Between heading entries) next words lawful step =
    elim step [
      | inl x ↦ rw (x.leads, x.line) (settled-reached heading entries (fresh x.head) x.room lawful.1 (fresh-begun x.head x.numbers))
      | inr x ↦ rw (x.1, x.0) (record { lawful = lawful; lines_are = sym (append_assoc (heading_lines heading) (flat_map entry_lines entries) (end_words (length entries) ∷ [])) })
    ]
step-reached (Inside heading entries entry) next words lawful step =
    let before : List (List (List ℕ)) = heading_lines heading ++ flat_map entry_lines entries in
    elim step [
      | inl x ↦
          let entry' : Begun = record entry { watch = entry.watch ++ x.thing ∷ [] } in
          let reached = settled-reached heading entries entry' lawful.0 lawful.1 (watched-begun entry x.thing lawful.2 x.lawful x.due) in
          let none : entry.edits ≡ [] = lawful.2.order x.due in
          rw (x.leads, x.line) (record { lawful = reached.lawful; lines_are = reached.lines_are ∙ ap (λ (l : List (List (List ℕ))). before ++ l) (watched-lines entry x.thing none) ∙ sym (append_assoc before (begun_lines entry) (watch_words x.thing ∷ [])) })
      | inr x ↦
          let entry' : Begun = record entry { edits = entry.edits ++ x.edit ∷ [] } in
          let reached = settled-reached heading entries entry' lawful.0 lawful.1 (edited-begun entry x.edit lawful.2 x.lawful x.watched x.due) in
          rw (x.leads, x.line) (record { lawful = reached.lawful; lines_are = reached.lines_are ∙ ap (λ (l : List (List (List ℕ))). before ++ l) (edited-lines entry x.edit) ∙ sym (append_assoc before (begun_lines entry) (edit_words x.edit ∷ [])) })
    ]
step-reached (Over heading entries) next words lawful step = absurd step
