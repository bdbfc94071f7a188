use Rattle.desk_pictures.proofs.Growth.{grows-more, ok-grows-more}
use Rattle.desk_pictures.proofs.pictures.put_head.Goals as goal

pub returns-clause-ok : goal.returns-clause-ok
returns-clause-ok g c = ok-grows-more _ _ _ _ (grows-more _ _ _ (grows-more _ _ _ (grows-more _ _ _ c.in_ok-put_first.ensures.ok c.in_ok-put_title.ensures.ok) c.in_ok-put_styles.ensures.ok) c.in_ok-put_rulers.ensures.ok) c.put_map.ensures.ok
