use Rattle.std.proofs.Common.{◌≡◌, ◌∙◌, None, sym, ap, subst}
use Rattle.std.proofs.lemmas.Option.{none-some}
use Rattle.scene_edits.specs.Scene.{SceneState}
use Rattle.scene_edits.specs.ChangedBy.{ChangedBy}
use Rattle.desk_commits.specs.State.{DeskState, grown}
use Rattle.desk_core.specs.Kept.{IsKeptDesk}
use Rattle.desk_core.proofs.desks.Desk.try_out.Goals as goal

pub take_back-requires : goal.take_back-requires
take_back-requires g c =
    let was = c.self.invariant in
    let old : DeskState = record { start = c.self.inside.start.value; scene = c.self.inside.scene; journal = c.self.inside.journal.items; limit = c.self.inside.limit } in
    let accepted = c.in-Ok-accept_reversibly.ensures.accepted in
    let before : c.make_books.new.self ≡ old = c.make_books.ensures in
    let now : c.put-answer.new.desk ≡ grown old c.in-Ok.copy = c.put-answer.ensures.same ∙ accepted.1 ∙ ap (λ (d : DeskState). grown d c.in-Ok.copy) before in
    let scene = ap (λ (d : DeskState). d.scene) c.put-answer.ensures.same in
    let kept : IsKeptDesk old.start old.scene old.journal old.limit c.take-stamps.result None c.take-history.result = record {
      made = was.made;
      within = was.within;
      on_map = was.on_map;
      stamped = rw c.take-stamps.ensures.value was.stamped;
      booked = λ books is. absurd (none-some books is);
      recounted = rw c.take-history.ensures.value was.recounted;
    } in (
      old.scene,
      old.journal,
      c.in-Ok.copy,
      ap (λ (d : DeskState). d.journal) now,
      subst (λ (s : SceneState). ChangedBy s c.in-Ok-accept_reversibly.changes c.put-answer.new.desk.scene) (ap (λ (d : DeskState). d.scene) before)
          (subst (λ (s : SceneState). ChangedBy c.make_books.new.self.scene c.in-Ok-accept_reversibly.changes s) (sym scene) accepted.2),
      subst (λ (d : DeskState). IsKeptDesk d.start old.scene old.journal d.limit c.take-stamps.result None c.take-history.result) (sym now) kept,
    )
