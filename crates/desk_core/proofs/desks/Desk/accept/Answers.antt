use Rattle.std.proofs.Common.{◌≡◌, List, ◌∷◌, ◌++◌, [], length, sym, ap, subst, ◌∙◌, arith}
use Rattle.std.proofs.lemmas.List.{length_push}
use Rattle.grid_cells.specs.Grid.{Chart}
use Rattle.scene_edits.specs.Scene.{SceneState}
use Rattle.scene_edits.specs.ChangedBy.{ChangedBy}
use Rattle.scene_edits.specs.InOrder.{AreAllowed, edited_all}
use Rattle.desk_commits.specs.Entries.{Entry}
use Rattle.desk_commits.specs.State.{DeskState, scene_after}
use Rattle.desk_commits.specs.Stamps.{NameCellsOfMap, WhereTheyStand}
use Rattle.desk_commits.proofs.OnMap.{all_on, same_size_all, on_map_push}
use Rattle.desk_core.specs.Kept.{WhereBooksStand}
use Rattle.desk_core.proofs.Versions.{made_on}
use Rattle.desk_core.proofs.desks.Desk.accept.Goals as goal

pub recorded-kept-requires : goal.recorded-kept-requires
recorded-kept-requires c =
    let scene = c.self.inside.scene in
    let changed = rw c.edits.ensures.is at c.in-Ok.ensures.applied in (
      scene,
      record { edits = c.args.commit.edits; is_scene = c.grid.ensures.scene; allowed = changed.0; changed = rw c.items.ensures changed.1; made = changed.2 },
      rw c.take-books.ensures.value c.self.invariant.booked,
    )

pub with_entry-stamps-requires-clause-on_map : goal.with_entry-stamps-requires-clause-on_map
with_entry-stamps-requires-clause-on_map c =
    let allowed : AreAllowed c.self.inside.scene c.args.commit.edits = rw c.edits.ensures.is at c.in-Ok.ensures.applied.0 in
    let size : c.size-size.result ≡ c.self.inside.scene.grid.size = c.size-size.ensures.is ∙ ap (λ (g : Chart). g.size) c.grid.ensures.grid in
    rw size (all_on c.self.inside.scene c.args.commit.edits allowed)

pub invariant_of-self-2 : goal.invariant_of-self-2
invariant_of-self-2 c =
    let allowed : AreAllowed c.self.inside.scene c.args.commit.edits = rw c.edits.ensures.is at c.in-Ok.ensures.applied.0 in
    let new : c.apply_all.new.self ≡ edited_all c.self.inside.scene c.args.commit.edits = rw c.edits.ensures.is at c.in-Ok.ensures.applied.2 in
    let same : c.apply_all.new.self.grid.size ≡ c.self.inside.scene.grid.size = ap (λ (s : SceneState). s.grid.size) new ∙ same_size_all c.self.inside.scene c.args.commit.edits in
    let size : c.size-size.result ≡ c.apply_all.new.self.grid.size = c.size-size.ensures.is ∙ ap (λ (g : Chart). g.size) c.grid.ensures.grid ∙ sym same in
    let journal : c.deref.result.now ≡ c.self.inside.journal.items = c.deref.ensures.value ∙ c.reserve.ensures.items in
    let items : c.push.new.self.items ≡ c.self.inside.journal.items ++ c.args.commit ∷ [] = c.in-Ok-push.ensures.items ∙ ap (λ (j : List Entry). j ++ c.args.commit ∷ []) c.reserve.ensures.items in
    let many = ap length items in
    let before : c.self.inside.journal.items ≡ c.args.self.now.journal = ap (λ (d : DeskState). d.journal) c.self.view_is in
    let most : c.self.inside.limit ≡ c.args.self.now.limit = ap (λ (d : DeskState). d.limit) c.self.view_is in
    let old = ap length before in
    let on : NameCellsOfMap c.self.inside.scene.grid.size (c.self.inside.journal.items ++ c.args.commit ∷ []) = on_map_push c.self.inside.scene.grid.size c.self.inside.journal.items c.args.commit c.self.invariant.on_map (all_on c.self.inside.scene c.args.commit.edits allowed) in
    let stand : WhereTheyStand c.apply_all.new.self.grid.size (c.self.inside.journal.items ++ c.args.commit ∷ []) c.with_entry-stamps.result = rw (← size, ← journal) c.with_entry-stamps.ensures in
    let start = c.self.inside.start.value in
    let entries = c.self.inside.journal.items in
    let made : c.apply_all.new.self ≡ scene_after start (entries ++ c.args.commit ∷ []) = made_on start c.self.inside.scene c.apply_all.new.self entries c.args.commit c.self.invariant.made new in
    let changed = rw c.edits.ensures.is at c.in-Ok.ensures.applied in
    let by : ChangedBy c.self.inside.scene c.items.result.now c.apply_all.new.self = record { edits = c.args.commit.edits; is_scene = c.grid.ensures.scene; allowed = changed.0; changed = rw c.items.ensures changed.1; made = changed.2 } in
    let booked : WhereBooksStand c.self.inside.scene c.take-books.result = rw c.take-books.ensures.value c.self.invariant.booked in
    let recounted = c.recorded-kept.ensures.history start entries c.args.commit
    (subst (λ (s : SceneState). ChangedBy s c.items.result.now c.apply_all.new.self) c.self.invariant.made by)
    (subst (λ (s : SceneState). WhereBooksStand s c.take-books.result) c.self.invariant.made booked)
    made (rw c.take-history.ensures.value c.self.invariant.recounted) in
    record {
      made = rw items made;
      within = omega (arith, many, old, most, length_push c.self.inside.journal.items c.args.commit, c.requires.in_order.room);
      on_map = rw (same, items) on;
      stamped = rw (items, c.replace-2.ensures.after) stand;
      booked = rw c.replace.ensures.after c.recorded-kept.ensures.books;
      recounted = rw (items, c.replace-in-Ok.ensures.after) recounted;
    }
