use Rattle.desk_pictures.proofs.Growth.{grows-more, ok-grows-more, sound-on}
use Rattle.desk_pictures.proofs.routes.put_strokes.Goals as goal

pub loop-following-preserved : goal.loop-following-preserved
loop-following-preserved g c = record {
  out = grows-more _ _ _ c.loop-following.invariant.out c.in_ok-put_stroke.ensures.ok;
  sound = sound-on _ _ _ c.loop-following.invariant.sound c.in_ok-put_stroke.ensures.broken;
}

pub returns-clause-ok : goal.returns-clause-ok
returns-clause-ok g c = ok-grows-more _ _ _ _ c.loop-following.invariant.out c.put_stroke-2.ensures.ok
