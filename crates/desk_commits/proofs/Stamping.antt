-- Stamps after one more entry.
use Rattle.std.proofs.Common.{◌≡◌, ◌≢◌, ℕ, Bool, ◌+◌, ◌-◌, ◌<◌, ◌⊎◌, inl, inr, List, [], ◌∷◌, ◌++◌, length, Some, refl, sym, ap, subst, ◌∙◌, arith, slice_index, replicate, nat_lt, if◌then◌else◌, get_or-set_same, get_or-set_other}
use Rattle.std.specs.Prelude.{◌&&◌}
use Rattle.std.specs.List.{Any, slice_get}
use Rattle.std.proofs.Math.ListN.{set, length-set}
use Rattle.std.proofs.lemmas.Bool.{cases_lt}
use Rattle.std.proofs.lemmas.Bool.Decides.{nat_tests}
use Rattle.std.proofs.lemmas.List.{length_push}
use Rattle.std.proofs.lemmas.List.Quantifiers.{Any-push}
use Rattle.std.proofs.lemmas.Option.{slice_get_within, gets}
use Rattle.std.proofs.lemmas.Grind.{common_steps}
use Rattle.grid_cells.specs.Cell.{Point}
use Rattle.grid_cells.specs.Size.{Extent, Holds}
use Rattle.grid_cells.specs.Grid.{flag_index}
use Rattle.goal_fields.proofs.Neighbours.{cases_cell}
use Rattle.std.proofs.Math.Nat.{mul_comm}
use Rattle.std.proofs.lemmas.Nat.{same_from_place, mul-add-lt}
use Rattle.scene_edits.specs.declared.changes.Thing.{Thing}
use Rattle.scene_edits.specs.declared.changes.Thing.TheVariants as things
use Rattle.scene_edits.specs.declared.edits.Edit.{Edit}
use Rattle.desk_commits.specs.Entries.{Entry, thing_of, NamesThing, EntryNames}
use Rattle.desk_commits.specs.Stale.{IsNamedAt, IsFreshSince}
use Rattle.desk_commits.specs.Stamps.{IsStamp, stamp_of, HasPlaces, AreStamps, AreMarked}
use Rattle.desk_commits.specs.declared.stamps.Stamps.{Stamps}
use Rattle.desk_commits.proofs.Freshness.{fresh_at_end}
use Rattle.desk_commits.proofs.Anywhere.{Any-nil, Any-here, Any-last, Any-append}

-- no two cells of a map have one index
one_index : (size : Extent) (a b : Point) → Holds size a → Holds size b → flag_index size a ≡ flag_index size b → a ≡ b
one_index size a b held held_too same = let s = same_from_place a.y a.x b.y b.x size.width held.0 held_too.0 same in grind (arith, s)

-- an edit about a cell names that cell and the map
named_cell : (edit : Edit) (cell : Point) (thing : Thing) → thing_of edit ≡ things.Cell cell → NamesThing thing edit → (thing ≡ things.Cell cell) ⊎ (thing ≡ things.Map)
named_cell edit cell thing is names = grind arith

names_map : (edit : Edit) (cell : Point) → thing_of edit ≡ things.Cell cell → NamesThing things.Map edit
names_map edit cell is = grind arith

-- the thing has the number where the edits name it, and else what it had
abbrev Marks : Stamps → List Edit → ℕ → Stamps → Thing → Type 0
Marks old edits number new thing =
    (Any (NamesThing thing) edits × (stamp_of new thing ≡ number)) ⊎ ((Any (NamesThing thing) edits → ⊥) × (stamp_of new thing ≡ stamp_of old thing))

marks : (old new : Stamps) (edit : Edit) (number : ℕ) (thing : Thing) → NamesThing thing edit → stamp_of new thing ≡ number → Marks old (edit ∷ []) number new thing
marks old new edit number thing names is = inl (Any-here (NamesThing thing) edit [] names, is)

spares : (old new : Stamps) (edit : Edit) (number : ℕ) (thing : Thing) → (NamesThing thing edit → ⊥) → stamp_of new thing ≡ stamp_of old thing → Marks old (edit ∷ []) number new thing
spares old new edit number thing apart is =
    inr (λ any. elim (Any-last (NamesThing thing) [] edit any) [ inl none ↦ Any-nil (NamesThing thing) none | inr names ↦ apart names ], is)

-- the stamps of a cell of the map, and of the map, are written
pub marked_cell : (old new : Stamps) (edit : Edit) (cell : Point) (number : ℕ) → HasPlaces old → Holds old.size cell → thing_of edit ≡ things.Cell cell →
    new.size ≡ old.size → new.agents.items ≡ old.agents.items → new.cells.items ≡ set old.cells.items (flag_index old.size cell) number → new.map ≡ number → AreMarked old (edit ∷ []) number new
marked_cell old new edit cell number places held is size agents cells map =
    record {
      size = size;
      places = record { agents = ap length agents ∙ places.agents; cells = ap length cells ∙ length-set old.cells.items (flag_index old.size cell) number ∙ rw size places.cells };
      things = each;
    }
  where
    within : flag_index old.size cell < length old.cells.items
    within = omega (arith, mul-add-lt cell.y old.size.width cell.x old.size.height held.1 held.0, mul_comm old.size.height old.size.width, places.cells)

    at : (c : Point) → Holds old.size c → stamp_of new (things.Cell c) ≡ slice_index (set old.cells.items (flag_index old.size cell) number) (flag_index old.size c)
    at c on = let column = on.0 in let row = on.1 in rw (size, cells) (grind (arith, nat_tests))

    before : (c : Point) → Holds old.size c → stamp_of old (things.Cell c) ≡ slice_index old.cells.items (flag_index old.size c)
    before c on = let column = on.0 in let row = on.1 in grind (arith, nat_tests)

    elsewhere : (c : Point) → c ≢ cell → stamp_of new (things.Cell c) ≡ stamp_of old (things.Cell c)
    elsewhere c other =
        elim (cases_lt c.x old.size.width) [
          | inl column ↦
              elim (cases_lt c.y old.size.height) [
                | inl row ↦
                    let apart : flag_index old.size c ≢ flag_index old.size cell = λ e. other (one_index old.size c cell (column, row) held e) in
                    at c (column, row) ∙ get_or-set_other old.cells.items (flag_index old.size cell) (flag_index old.size c) number 0 apart ∙ sym (before c (column, row))
                | inr high ↦ rw (size, cells) (grind (arith, nat_tests))
              ]
          | inr wide ↦ rw (size, cells) (grind (arith, nat_tests))
        ]

    each : (thing : Thing) → Marks old (edit ∷ []) number new thing
    each (things.Agent a) = spares old new edit number (things.Agent a) (λ names. elim (named_cell edit cell (things.Agent a) is names) [ inl e ↦ cc | inr e ↦ cc ]) (rw agents refl)
    each (things.Cell c) =
        elim (cases_cell c cell) [
          | inl same ↦ marks old new edit number (things.Cell c) (inl (is ∙ ap things.Cell (sym same))) (at c (subst (Holds old.size) (sym same) held) ∙ rw same (get_or-set_same old.cells.items (flag_index old.size cell) number 0 within))
          | inr other ↦ spares old new edit number (things.Cell c) (λ names. elim (named_cell edit cell (things.Cell c) is names) [ inl e ↦ other cc | inr e ↦ cc ]) (elsewhere c other)
        ]
    each things.Map = marks old new edit number things.Map (names_map edit cell is) map

-- one more edit
pub marked_push : (old now new : Stamps) (edits : List Edit) (edit : Edit) (number : ℕ) → AreMarked old edits number now → AreMarked now (edit ∷ []) number new → AreMarked old (edits ++ edit ∷ []) number new
marked_push old now new edits edit number first last = record { size = last.size ∙ first.size; places = last.places; things = each }
  where
    each : (thing : Thing) → Marks old (edits ++ edit ∷ []) number new thing
    each thing =
        elim (last.things thing) [
          | inl (any, is) ↦ elim (Any-last (NamesThing thing) [] edit any) [
            | inl none ↦ absurd (Any-nil (NamesThing thing) none)
            | inr names ↦ inl (Any-push (NamesThing thing) edits edit names, is)
          ]
          | inr (not, same) ↦ elim (first.things thing) [
            | inl (any, is) ↦ inl (Any-append (NamesThing thing) edits (edit ∷ []) any, same ∙ is)
            | inr (none, is) ↦ inr (λ any. elim (Any-last (NamesThing thing) edits edit any) [ inl before ↦ none before | inr names ↦ not (Any-here (NamesThing thing) edit [] names) ], same ∙ is)
          ]
        ]

slice_get-front : (xs ys : List Entry) (i : ℕ) (x : Entry) → slice_get xs i ≡ Some x → slice_get (xs ++ ys) i ≡ Some x
slice_get-front xs ys i x there = grind (arith, common_steps, gets, slice_get_within xs i x there)

slice_get-last : (xs : List Entry) (y : Entry) → slice_get (xs ++ y ∷ []) (length xs) ≡ Some y
slice_get-last xs y = grind (arith, common_steps, gets)

slice_get-either : (xs : List Entry) (y : Entry) (i : ℕ) (x : Entry) → slice_get (xs ++ y ∷ []) i ≡ Some x → (slice_get xs i ≡ Some x) ⊎ ((i ≡ length xs) × (x ≡ y))
slice_get-either xs y i x there = grind (arith, common_steps, gets, slice_get_within (xs ++ y ∷ []) i x there)

-- an entry that names a thing is an earlier one or the last
pub named_push : (journal : List Entry) (entry : Entry) (thing : Thing) (number : ℕ) → IsNamedAt (journal ++ entry ∷ []) thing number → IsNamedAt journal thing number ⊎ ((number ≡ length journal + 1) × EntryNames entry thing)
named_push journal entry thing number named =
    let counted = named.counted in
    elim (slice_get-either journal entry (number - 1) named.entry named.there) [
      | inl there ↦ inl (record { entry = named.entry; counted = named.counted; there = there; names = named.names })
      | inr (at, is) ↦ inr (omega (arith, at, counted), subst (λ e. EntryNames e thing) is named.names)
    ]

-- no thing has a stamp where there is no entry
stamps_of_none : (stamps : Stamps) → HasPlaces stamps → ((thing : Thing) → stamp_of stamps thing ≡ 0) → AreStamps stamps.size [] stamps
stamps_of_none stamps places none =
    record { sized = refl; places = places; each = λ thing. record { named = λ some. absurd (omega (arith, some, none thing)); last = λ number newer named. absurd (omega (arith, slice_get_within [] (number - 1) named.entry named.there)) } }

zero_at : (n i : ℕ) → slice_index (replicate n 0) i ≡ 0
zero_at n i = grind (arith, common_steps)

either : (b : Bool) (x : ℕ) → x ≡ 0 → (if b then x else 0) ≡ 0
either b x is = grind arith

-- stamps that are all 0
pub stamps_blank : (stamps : Stamps) (agents cells : ℕ) → HasPlaces stamps → stamps.agents.items ≡ replicate agents 0 → stamps.cells.items ≡ replicate cells 0 → stamps.map ≡ 0 → AreStamps stamps.size [] stamps
stamps_blank stamps agents cells places no_agent no_cell no_map = stamps_of_none stamps places each
  where
    each : (thing : Thing) → stamp_of stamps thing ≡ 0
    each (things.Agent agent) = rw no_agent (zero_at agents agent)
    each (things.Cell cell) =
        either (nat_lt cell.x stamps.size.width && nat_lt cell.y stamps.size.height) (slice_index stamps.cells.items (flag_index stamps.size cell)) (rw no_cell (zero_at cells (flag_index stamps.size cell)))
    each things.Map = no_map

-- the stamps of a journal and one more entry
pub stamps_push : (size : Extent) (journal : List Entry) (entry : Entry) (old new : Stamps) → AreStamps size journal old → AreMarked old entry.edits (length journal + 1) new → AreStamps size (journal ++ entry ∷ []) new
stamps_push size journal entry old new are marked = record { sized = marked.size ∙ are.sized; places = marked.places; each = each }
  where
    here : (thing : Thing) → EntryNames entry thing → IsStamp (journal ++ entry ∷ []) thing (length journal + 1)
    here thing names =
        let last : length journal ≡ length journal + 1 - 1 = omega arith in
        record {
          named = λ some. record { entry = entry; counted = omega arith; there = subst (λ k. slice_get (journal ++ entry ∷ []) k ≡ Some entry) last (slice_get-last journal entry); names = names };
          last = subst (λ n. IsFreshSince (journal ++ entry ∷ []) n thing) (length_push journal entry) (fresh_at_end (journal ++ entry ∷ []) thing);
        }

    before : (thing : Thing) (stamp : ℕ) → (EntryNames entry thing → ⊥) → IsStamp journal thing stamp → IsStamp (journal ++ entry ∷ []) thing stamp
    before thing stamp apart is =
        record {
          named = λ some. let named = is.named some in record { entry = named.entry; counted = named.counted; there = slice_get-front journal (entry ∷ []) (stamp - 1) named.entry named.there; names = named.names };
          last = λ number newer named. elim (named_push journal entry thing number named) [ inl earlier ↦ is.last number newer earlier | inr last ↦ apart last.1 ];
        }

    each : (thing : Thing) → IsStamp (journal ++ entry ∷ []) thing (stamp_of new thing)
    each thing =
        elim (marked.things thing) [
          | inl (names, is) ↦ subst (IsStamp (journal ++ entry ∷ []) thing) (sym is) (here thing names)
          | inr (apart, same) ↦ subst (IsStamp (journal ++ entry ∷ []) thing) (sym same) (before thing (stamp_of old thing) apart (are.each thing))
        ]
