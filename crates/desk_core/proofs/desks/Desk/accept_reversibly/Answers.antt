use Rattle.std.proofs.Common.{◌≡◌, List, ◌∷◌, ◌++◌, [], length, sym, ap, subst, ◌∙◌, arith}
use Rattle.std.proofs.lemmas.List.{length_push}
use Rattle.std.proofs.lemmas.Option.{none-some}
use Rattle.scene_edits.specs.Scene.{SceneState}
use Rattle.scene_edits.specs.ChangedBy.{ChangedBy}
use Rattle.scene_edits.specs.InOrder.{AreAllowed, edited_all}
use Rattle.desk_commits.specs.Entries.{Entry}
use Rattle.desk_commits.specs.State.{DeskState, grown, scene_after}
use Rattle.desk_commits.specs.Stamps.{NameCellsOfMap}
use Rattle.desk_commits.proofs.OnMap.{all_on, same_size_all, on_map_push}
use Rattle.desk_core.specs.Kept.{WhereBooksStand}
use Rattle.desk_core.proofs.Versions.{made_on}
use Rattle.desk_core.proofs.desks.Desk.accept_reversibly.Goals as goal

pub recorded-kept-requires : goal.recorded-kept-requires
recorded-kept-requires c =
    let changed = rw c.edits.ensures.is at c.in-Ok.ensures in (
      c.self.inside.scene,
      record { edits = c.args.commit.edits; is_scene = c.grid-grid.ensures.scene; allowed = changed.0; changed = rw c.items.ensures changed.1; made = changed.2 },
      rw c.take-books.ensures.value c.self.invariant.booked,
    )

pub invariant_of-self-in-Ok-push : goal.invariant_of-self-in-Ok-push
invariant_of-self-in-Ok-push c =
    let allowed : AreAllowed c.self.inside.scene c.args.commit.edits = rw c.edits.ensures.is at c.in-Ok.ensures.0 in
    let new : c.apply_reversibly.new.self ≡ edited_all c.self.inside.scene c.args.commit.edits = rw c.edits.ensures.is at c.in-Ok.ensures.2 in
    let same : c.apply_reversibly.new.self.grid.size ≡ c.self.inside.scene.grid.size = ap (λ (s : SceneState). s.grid.size) new ∙ same_size_all c.self.inside.scene c.args.commit.edits in
    let items : c.push.new.self.items ≡ c.self.inside.journal.items ++ c.args.commit ∷ [] = c.in-Ok-push.ensures.items ∙ ap (λ (j : List Entry). j ++ c.args.commit ∷ []) c.reserve.ensures.items in
    let many = ap length items in
    let before : c.self.inside.journal.items ≡ c.args.self.now.journal = ap (λ (d : DeskState). d.journal) c.self.view_is in
    let most : c.self.inside.limit ≡ c.args.self.now.limit = ap (λ (d : DeskState). d.limit) c.self.view_is in
    let old = ap length before in
    let on : NameCellsOfMap c.self.inside.scene.grid.size (c.self.inside.journal.items ++ c.args.commit ∷ []) = on_map_push c.self.inside.scene.grid.size c.self.inside.journal.items c.args.commit c.self.invariant.on_map (all_on c.self.inside.scene c.args.commit.edits allowed) in
    let start = c.self.inside.start.value in
    let entries = c.self.inside.journal.items in
    let made : c.apply_reversibly.new.self ≡ scene_after start (entries ++ c.args.commit ∷ []) = made_on start c.self.inside.scene c.apply_reversibly.new.self entries c.args.commit c.self.invariant.made new in
    let changed = rw c.edits.ensures.is at c.in-Ok.ensures in
    let by : ChangedBy c.self.inside.scene c.items.result.now c.apply_reversibly.new.self = record { edits = c.args.commit.edits; is_scene = c.grid-grid.ensures.scene; allowed = changed.0; changed = rw c.items.ensures changed.1; made = changed.2 } in
    let booked : WhereBooksStand c.self.inside.scene c.take-books.result = rw c.take-books.ensures.value c.self.invariant.booked in
    let recounted = c.recorded-kept.ensures.history start entries c.args.commit
    (subst (λ (s : SceneState). ChangedBy s c.items.result.now c.apply_reversibly.new.self) c.self.invariant.made by)
    (subst (λ (s : SceneState). WhereBooksStand s c.take-books.result) c.self.invariant.made booked)
    made (rw c.take-history.ensures.value c.self.invariant.recounted) in
    record {
      made = rw items made;
      within = omega (arith, many, old, most, length_push c.self.inside.journal.items c.args.commit, c.requires.in_order.room);
      on_map = rw (same, items) on;
      stamped = rw c.take.ensures.after (λ stamps is. absurd (none-some stamps is));
      booked = rw c.replace.ensures.after c.recorded-kept.ensures.books;
      recounted = rw (items, c.replace-in-Ok.ensures.after) recounted;
    }

pub returns-in-Ok-push-clause-accepted : goal.returns-in-Ok-push-clause-accepted
returns-in-Ok-push-clause-accepted c =
    let changed = rw c.edits.ensures.is at c.in-Ok.ensures in
    let scene : c.self.inside.scene ≡ c.args.self.now.scene = ap (λ (d : DeskState). d.scene) c.self.view_is in
    let items : c.push.new.self.items ≡ c.self.inside.journal.items ++ c.args.commit ∷ [] = c.in-Ok-push.ensures.items ∙ ap (λ (j : List Entry). j ++ c.args.commit ∷ []) c.reserve.ensures.items in
    let by : ChangedBy c.self.inside.scene c.in-Ok.changes c.apply_reversibly.new.self = record { edits = c.args.commit.edits; is_scene = c.grid-grid.ensures.scene; allowed = changed.0; changed = changed.1; made = changed.2 } in (
      record { current = c.requires; allowed = subst (λ (s : SceneState). AreAllowed s c.args.commit.edits) scene changed.0 },
      rw (changed.2, items) (ap (λ (d : DeskState). grown d c.args.commit) c.self.view_is),
      subst (λ (s : SceneState). ChangedBy s c.in-Ok.changes c.apply_reversibly.new.self) scene by,
    )
