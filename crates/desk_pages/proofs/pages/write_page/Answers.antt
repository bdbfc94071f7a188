use Rattle.std.proofs.KnownBytes.{Appends-trans}
use Rattle.desk_report.proofs.Fronts.{front-more, front-after, err-of, ok-after, err-after}
use Rattle.desk_pages.proofs.pages.write_page.Goals as goal

pub returns-in_err-put_front-clause-err : goal.returns-in_err-put_front-clause-err
returns-in_err-put_front-clause-err g c = err-of c.from_residual.result (front-more _ _ _ _ (front-more _ _ _ _ (front-more _ _ _ _ c.in_err-put_front.ensures.err)))

pub returns-in_err-put_scene_block-clause-err : goal.returns-in_err-put_scene_block-clause-err
returns-in_err-put_scene_block-clause-err g c = err-of c.from_residual-in_err-put_scene_block.result (front-more _ _ _ _ (front-more _ _ _ _ (front-after _ _ _ _ _ c.in_ok-put_front.ensures.ok c.in_err-put_scene_block.ensures.err)))

pub returns-in_err-put_report_block-clause-err : goal.returns-in_err-put_report_block-clause-err
returns-in_err-put_report_block-clause-err g c = err-of c.from_residual-in_err-put_report_block.result (front-more _ _ _ _ (front-after _ _ _ _ _ (Appends-trans _ _ _ _ _ c.in_ok-put_front.ensures.ok c.in_ok-put_scene_block.ensures.ok) c.in_err-put_report_block.ensures.err))

pub returns-clause-ok : goal.returns-clause-ok
returns-clause-ok g c = ok-after _ _ _ _ _ _ (Appends-trans _ _ _ _ _ (Appends-trans _ _ _ _ _ c.in_ok-put_front.ensures.ok c.in_ok-put_scene_block.ensures.ok) c.in_ok-put_report_block.ensures.ok) c.put_end.ensures.ok

pub returns-clause-err : goal.returns-clause-err
returns-clause-err g c = err-after _ _ _ _ _ _ (Appends-trans _ _ _ _ _ (Appends-trans _ _ _ _ _ c.in_ok-put_front.ensures.ok c.in_ok-put_scene_block.ensures.ok) c.in_ok-put_report_block.ensures.ok) c.put_end.ensures.err
