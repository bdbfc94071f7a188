use Rattle.desk_pictures.proofs.Growth.{grows-more, sound-on}
use Rattle.desk_pictures.proofs.ground.put_row.Goals as goal

pub loop-x-preserved : goal.loop-x-preserved
loop-x-preserved g c = record {
  out = grows-more _ _ _ (grows-more _ _ _ c.loop-x.invariant.out c.in_ok-put_left.ensures.ok) c.in_ok-put_right.ensures.ok;
  sound = sound-on _ _ _ (sound-on _ _ _ c.loop-x.invariant.sound c.in_ok-put_left.ensures.broken) c.in_ok-put_right.ensures.broken;
}
