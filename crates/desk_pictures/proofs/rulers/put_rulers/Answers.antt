use Rattle.desk_pictures.proofs.Growth.{grows-more, ok-grows-more}
use Rattle.desk_pictures.proofs.rulers.put_rulers.Goals as goal

pub returns-clause-ok : goal.returns-clause-ok
returns-clause-ok g c = ok-grows-more _ _ _ _ (grows-more _ _ _ (grows-more _ _ _ c.in_ok-put_letters.ensures.ok c.in_ok-put_ruler.ensures.ok) c.in_ok-put_ruler-2.ensures.ok) c.put_letters-2.ensures.ok
