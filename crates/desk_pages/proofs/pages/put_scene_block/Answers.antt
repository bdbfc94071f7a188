use Rattle.std.proofs.KnownBytes.{Appends-trans}
use Rattle.desk_report.proofs.Fronts.{front-more, front-after, err-of, ok-after, err-after}
use Rattle.std.proofs.Common.{ℕ, List, ◌++◌}
use Rattle.std.specs.Prelude.{codes}
use Rattle.desk_pages.specs.SceneText.{scene_text}
use Rattle.desk_pages.specs.Pages.{mode_name}
use Rattle.desk_pages.proofs.pages.put_scene_block.Goals as goal

abbrev opening : List ℕ
opening = codes "<script type='text/plain' id='scene' data-mode='"

abbrev middle : List ℕ
middle = codes "'>"

abbrev closing : List ℕ
closing = codes "</script>\n"

pub returns-in_err-put_all-clause-err : goal.returns-in_err-put_all-clause-err
returns-in_err-put_all-clause-err g c =
    let mode : List ℕ = mode_name c.args.scene.now.mode in
    let scene : List ℕ = scene_text c.args.scene.now in
    err-of c.from_residual.result
    (front-more _ _ (opening ++ mode ++ middle ++ scene) closing (front-more _ _ (opening ++ mode ++ middle) scene (front-more _ _ (opening ++ mode) middle (front-more _ _ opening mode c.in_err-put_all.ensures.err))))

pub returns-in_err-put_mode-clause-err : goal.returns-in_err-put_mode-clause-err
returns-in_err-put_mode-clause-err g c = err-of c.from_residual-in_err-put_mode.result (front-more _ _ _ _ (front-more _ _ _ _ (front-more _ _ _ _ (front-after _ _ _ _ _ c.in_ok-put_all.ensures.ok (rw c.mode.ensures at c.in_err-put_mode.ensures.err)))))

pub returns-in_err-put_all-2-clause-err : goal.returns-in_err-put_all-2-clause-err
returns-in_err-put_all-2-clause-err g c = err-of c.from_residual-in_err-put_all-2.result (front-more _ _ _ _ (front-more _ _ _ _ (front-after _ _ _ _ _ (Appends-trans _ _ _ _ _ c.in_ok-put_all.ensures.ok (rw c.mode.ensures at c.in_ok-put_mode.ensures.ok)) c.in_err-put_all-2.ensures.err)))

pub returns-in_err-put_scene-clause-err : goal.returns-in_err-put_scene-clause-err
returns-in_err-put_scene-clause-err g c = err-of c.from_residual-in_err-put_scene.result (front-more _ _ _ _ (front-after _ _ _ _ _ (Appends-trans _ _ _ _ _ (Appends-trans _ _ _ _ _ c.in_ok-put_all.ensures.ok (rw c.mode.ensures at c.in_ok-put_mode.ensures.ok)) c.in_ok-put_all-2.ensures.ok) c.in_err-put_scene.ensures.err))

pub returns-clause-ok : goal.returns-clause-ok
returns-clause-ok g c = ok-after _ _ _ _ _ _ (Appends-trans _ _ _ _ _ (Appends-trans _ _ _ _ _ (Appends-trans _ _ _ _ _ c.in_ok-put_all.ensures.ok (rw c.mode.ensures at c.in_ok-put_mode.ensures.ok)) c.in_ok-put_all-2.ensures.ok) c.in_ok-put_scene.ensures.ok) c.put_all-3.ensures.ok

pub returns-clause-err : goal.returns-clause-err
returns-clause-err g c = err-after _ _ _ _ _ _ (Appends-trans _ _ _ _ _ (Appends-trans _ _ _ _ _ (Appends-trans _ _ _ _ _ c.in_ok-put_all.ensures.ok (rw c.mode.ensures at c.in_ok-put_mode.ensures.ok)) c.in_ok-put_all-2.ensures.ok) c.in_ok-put_scene.ensures.ok) c.put_all-3.ensures.err
