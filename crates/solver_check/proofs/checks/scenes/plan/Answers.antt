use Rattle.std.proofs.Common.{◌≡◌, List, length, Some, refl, ap, subst, ◌∙◌}
use Rattle.std.specs.List.{slice_get}
use Rattle.std.proofs.lemmas.Option.{slice_get_read, slice_get_within}
use Rattle.scene_edits.specs.InOrder.{IsFirstFault}
use Rattle.scene_edits.specs.declared.edits.Edit.{Edit}
use Rattle.solver_check.specs.CheckEdits.{edits_of}
use Rattle.solver_check.proofs.OfPaths.{edit-of_paths}
use Rattle.solver_check.proofs.Refusing.{told-first}
use Rattle.solver_check.proofs.checks.scenes.plan.Goals as goal

pub refusal_of-requires : goal.refusal_of-requires
refusal_of-requires c =
    let list : List Edit = c.items-edits.result.now in
    let same : list ≡ edits_of c.args.bare c.args.spelled = c.items-edits.ensures ∙ c.in-Ok.ensures in
    let applied : IsFirstFault c.args.scene.now list c.in-Err-Faulty.index c.in-Err-Faulty.why × (c.apply_all.new.self ≡ c.args.scene.now) = rw c.in-Err-Faulty.field-0-is at c.in-Err-Faulty.ensures.applied in
    let there : slice_get list c.in-Err-Faulty.index ≡ Some c.index-edits-index.result =
    slice_get_read list (length list) c.in-Err-Faulty.index c.index-edits-index.result refl (slice_get_within list c.in-Err-Faulty.index applied.0.edit applied.0.there) c.index-edits-index.is in
    edit-of_paths c.args.bare c.args.spelled c.in-Err-Faulty.index c.index-edits-index.result (subst (λ (l : List Edit). slice_get l c.in-Err-Faulty.index ≡ Some c.index-edits-index.result) same there)

pub returns-clause-err : goal.returns-clause-err
returns-clause-err c =
    let list : List Edit = c.items-edits.result.now in
    let same : list ≡ edits_of c.args.bare c.args.spelled = c.items-edits.ensures ∙ c.in-Ok.ensures in
    let applied : IsFirstFault c.args.scene.now list c.in-Err-Faulty.index c.in-Err-Faulty.why × (c.apply_all.new.self ≡ c.args.scene.now) = rw c.in-Err-Faulty.field-0-is at c.in-Err-Faulty.ensures.applied in
    let there : slice_get list c.in-Err-Faulty.index ≡ Some c.index-edits-index.result =
    slice_get_read list (length list) c.in-Err-Faulty.index c.index-edits-index.result refl (slice_get_within list c.in-Err-Faulty.index applied.0.edit applied.0.there) c.index-edits-index.is in
    told-first c.args.scene.now list (edits_of c.args.bare c.args.spelled) c.in-Err-Faulty.index c.in-Err-Faulty.why c.index-edits-index.result c.size.result c.refusal_of.result
    same (c.size.ensures.is ∙ ap (λ g. g.size) (c.grid.ensures.grid ∙ ap (λ s. s.grid) applied.1))
    applied.0 there c.refusal_of.ensures
