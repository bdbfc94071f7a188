use Rattle.desk_pictures.proofs.Growth.{grows-more, ok-grows-around}
use Rattle.desk_pictures.proofs.pictures.write_picture.Goals as goal

pub returns-clause-ok : goal.returns-clause-ok
returns-clause-ok g c = ok-grows-around _ _ _ _ _ _ (grows-more _ _ _ c.in_ok-put_head.ensures.ok c.in_ok-put_scenery.ensures.ok) c.in_ok-put_findings.ensures.ok c.put_legend.ensures.ok
