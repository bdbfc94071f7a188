use Rattle.desk_pictures.proofs.Growth.{grows-more, ok-grows-more}
use Rattle.desk_pictures.proofs.legend.put_legend.Goals as goal

pub returns-clause-ok : goal.returns-clause-ok
returns-clause-ok g c = ok-grows-more _ _ _ _ (grows-more _ _ _ (grows-more _ _ _ (grows-more _ _ _ (grows-more _ _ _ (grows-more _ _ _ c.in_ok-put_filled.ensures.ok c.in_ok-put_scene.ensures.ok) c.in_ok-put_verdict.ensures.ok) c.in_ok-put_time.ensures.ok) c.in_ok-put_rows.ensures.ok) c.in_ok-put_totals.ensures.ok) c.put_letters.ensures.ok
