use Rattle.desk_pictures.proofs.Growth.{ok-grows-more}
use Rattle.desk_pictures.proofs.ways.put_time.Goals as goal

pub returns-clause-ok : goal.returns-clause-ok
returns-clause-ok g c = ok-grows-more _ _ _ _ c.in_ok-put_letters.ensures.ok c.put_share.ensures.ok
