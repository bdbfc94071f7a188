-- Pieces that follow one another, and their parts joined.
use Rattle.std.proofs.Common.{◌≡◌, ℕ, ◌≤◌, List, [], ◌∷◌, ◌++◌, length, map, slice_range, refl, sym, subst, ◌∙◌, arith, Bool, true, false}
use Rattle.std.specs.List.{Contains}
use Rattle.grid_cells.specs.Grid.{Chart}
use Rattle.plan_table.specs.Order.{ListsAll}
use Rattle.plan_table.specs.Plans.{IsByAgent}
use Rattle.plan_table.specs.Route.{tracks_of}
use Rattle.plan_table.specs.declared.plans.Row.{Row}
use Rattle.plan_table.specs.declared.tracks.Mode.{Mode}
use Rattle.scene_edits.specs.Scene.{SceneState}
use Rattle.mapf_rules.specs.ConflictList.{Stands, AreConflicts, listing_key}
use Rattle.mapf_rules.proofs.Live.{stands_first}
use Rattle.plan_table.proofs.Fleets.{tracks_live}
use Rattle.std.proofs.lemmas.List.{take_rest}
use Rattle.mapf_rules.specs.declared.entries.Conflict.{Conflict}
use Rattle.mapf_rules.specs.Visits.{visit_key}
use Rattle.desk_report.specs.Report.{IsLine, AreLines}
use Rattle.mapf_rules.specs.Naming.{first_agent}
use Rattle.desk_audit.specs.Parts.{IsPart, IsVisitOf, AreEntriesOf}
use Rattle.desk_audit.specs.Pieces.{Tiles}
use Rattle.desk_audit.specs.declared.parts.Part.{Part}
use Rattle.desk_audit.specs.declared.threads.Piece.{Piece}
use Rattle.desk_audit.proofs.Finding.{ranked_none}
use Rattle.desk_audit.proofs.Merging.{joined, visits_joined, visits_none, EachOf-append, range_step, rank_in_all}

pub tiles-more : (scene : SceneState) (a b : ℕ) (ps : List Piece) (p : Piece) → Tiles scene a ps b → p.scene.now ≡ scene → p.from ≡ b → b ≤ p.to → Tiles scene a (ps ++ (p ∷ [])) p.to
tiles-more scene a b [] p t is from le = (is, from ∙ sym t, omega arith, refl)
tiles-more scene a b (q ∷ ps) p t is from le = (t.0, t.1, t.2, tiles-more scene q.to b ps p t.3 is from le)

-- where there are no pieces, the end is where they begin
pub tiles_none : {X : Type 0} (of : X → Piece) (scene : SceneState) (a b : ℕ) (xs : List X) → length xs ≡ 0 → Tiles scene a (map of xs) b → a ≡ b
tiles_none of scene a b [] none t = t
tiles_none of scene a b (x ∷ xs) none t = absurd (omega (arith, none))

pub apart : (b : Bool) → b ≡ true → b ≡ false → ⊥
apart b t f = cc

pub part_none : (grid : Chart) (mode : Mode) (rows : List (ℕ × Row)) (part : Part) → part.conflicts.items ≡ [] → part.visits.items ≡ [] → part.lines.items ≡ [] → IsPart grid mode rows 0 0 part
part_none grid mode rows part conflicts visits lines = record {
  entries = subst (AreEntriesOf (tracks_of mode rows) rows 0 0) (sym conflicts) (ranked_none (tracks_of mode rows) rows 0);
  visits = subst (ListsAll visit_key (IsVisitOf grid rows 0 0)) (sym visits) (visits_none grid rows 0);
  lines = subst (AreLines grid (slice_range rows 0 0)) (sym lines) tt;
}

-- a part is joined on
pub part_join : (grid : Chart) (mode : Mode) (rows : List (ℕ × Row)) → IsByAgent rows → (at to : ℕ) → at ≤ to → (whole part new : Part) → IsPart grid mode rows 0 at whole → IsPart grid mode rows at to part
    → new.conflicts.items ≡ whole.conflicts.items ++ part.conflicts.items → new.visits.items ≡ whole.visits.items ++ part.visits.items → new.lines.items ≡ whole.lines.items ++ part.lines.items → IsPart grid mode rows 0 to new
part_join grid mode rows by_agent at to le whole part new left right conflicts visits lines = record {
  entries = subst (AreEntriesOf (tracks_of mode rows) rows 0 to) (sym conflicts) (joined rows (Stands (tracks_of mode rows)) first_agent at to le whole.conflicts.items part.conflicts.items left.entries right.entries);
  visits = subst (ListsAll visit_key (IsVisitOf grid rows 0 to)) (sym visits) (visits_joined grid rows by_agent at to le whole.visits.items part.visits.items left.visits right.visits);
  lines = subst (AreLines grid (slice_range rows 0 to)) (sym lines)
      (subst (λ (r : List (ℕ × Row)). AreLines grid r (whole.lines.items ++ part.lines.items)) (range_step rows 0 at to (omega arith) le)
      (EachOf-append (IsLine grid) (slice_range rows 0 at) (slice_range rows at to) whole.lines.items part.lines.items left.lines right.lines));
}

-- the entries of all agents, in order and each once, are the conflict list
pub all_entries : (mode : Mode) (rows : List (ℕ × Row)) (entries list : List Conflict) → AreEntriesOf (tracks_of mode rows) rows 0 (length rows) entries → ListsAll listing_key (Contains entries) list → AreConflicts (tracks_of mode rows) list
all_entries mode rows entries list are lists = record {
  ascending = lists.ascending;
  exact = λ entry. (
    λ h. ((are entry).0 ((lists.exact entry).0 h)).0,
    λ is. (lists.exact entry).1 ((are entry).1 (is, rank_in_all rows (first_agent entry) (tracks_live mode rows (first_agent entry) (stands_first (tracks_of mode rows) entry is)))),
  );
}

pub range_all : {X : Type 0} (xs : List X) → slice_range xs 0 (length xs) ≡ xs
range_all xs = take_rest xs 0
