use Rattle.std.proofs.Common.{◌≡◌, ℕ, ◌≤◌, List, [], ◌∷◌, ◌++◌, length, take, ◌-◌, refl, sym, ap, subst, ◌∙◌, rules, arith}
use Rattle.std.proofs.lemmas.Grind.{common_steps}
use Rattle.std.proofs.lemmas.List.{length_push}
use Rattle.scene_edits.specs.Scene.{SceneState}
use Rattle.scene_edits.specs.ChangedBy.{ChangedBy}
use Rattle.scene_edits.specs.declared.changes.Change.{Change}
use Rattle.desk_commits.specs.Entries.{Entry}
use Rattle.desk_commits.specs.State.{DeskState}
use Rattle.desk_core.proofs.desks.Desk.take_back.Goals as goal

-- a list without its last item
without_last : (list front : List Entry) (last : Entry) (many : ℕ) → many ≡ length list → list ≡ front ++ last ∷ [] → take (many - 1) list ≡ front
without_last list front last many counts is = rw (counts, is) (grind (arith, common_steps, length_push front last))

pub reverted-books-requires-clause-changed : goal.reverted-books-requires-clause-changed
reverted-books-requires-clause-changed c =
    let (scene, journal, entry, is, changed, kept) = c.requires in
    let same : c.self.inside.scene ≡ c.args.self.now.scene = ap (λ (d : DeskState). d.scene) c.self.view_is in
    (scene, subst (ChangedBy scene c.args.changes) (sym same) changed)

pub reverted-books-requires-clause-stand : goal.reverted-books-requires-clause-stand
reverted-books-requires-clause-stand c = rw c.take.ensures.value c.self.invariant.booked

pub invariant_of-self : goal.invariant_of-self
invariant_of-self c =
    let (scene, journal, entry, is, changed, kept) = c.requires in
    let same : c.self.inside.scene ≡ c.args.self.now.scene = ap (λ (d : DeskState). d.scene) c.self.view_is in
    let entries : c.self.inside.journal.items ≡ c.args.self.now.journal = ap (λ (d : DeskState). d.journal) c.self.view_is in
    let limit : c.self.inside.limit ≡ c.args.self.now.limit = ap (λ (d : DeskState). d.limit) c.self.view_is in
    let back : c.reverted-books.new.scene ≡ scene = c.reverted-books.ensures.back scene (subst (ChangedBy scene c.args.changes) (sym same) changed) in
    let left : c.pop.new.self.items ≡ journal = c.pop.ensures.rest ∙ without_last c.self.inside.journal.items journal entry c.self.inside.journal.len c.self.inside.journal.ok.0 (entries ∙ is) in
    let start : c.self.inside.start.value ≡ c.args.self.now.start = ap (λ (d : DeskState). d.start) c.self.view_is in
    record {
      made = rw (back, left, start) kept.made;
      within = rw (left, limit) kept.within;
      on_map = rw (back, left) kept.on_map;
      stamped = rw (back, left, c.replace-2.ensures.after) kept.stamped;
      booked = rw c.replace.ensures.after c.reverted-books.ensures.stand;
      recounted = rw (left, start, c.replace-3.ensures.after) kept.recounted;
    }

pub returns : goal.returns
returns c = λ scene journal entry is changed.
    let same : c.self.inside.scene ≡ c.args.self.now.scene = ap (λ (d : DeskState). d.scene) c.self.view_is in
    let entries : c.self.inside.journal.items ≡ c.args.self.now.journal = ap (λ (d : DeskState). d.journal) c.self.view_is in
    let limit : c.self.inside.limit ≡ c.args.self.now.limit = ap (λ (d : DeskState). d.limit) c.self.view_is in
    let back : c.reverted-books.new.scene ≡ scene = c.reverted-books.ensures.back scene (subst (ChangedBy scene c.args.changes) (sym same) changed) in
    let left : c.pop.new.self.items ≡ journal = c.pop.ensures.rest ∙ without_last c.self.inside.journal.items journal entry c.self.inside.journal.len c.self.inside.journal.ok.0 (entries ∙ is) in
    let start : c.self.inside.start.value ≡ c.args.self.now.start = ap (λ (d : DeskState). d.start) c.self.view_is in
    rw (back, left, limit, start) refl
