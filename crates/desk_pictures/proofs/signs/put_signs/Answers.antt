use Rattle.desk_pictures.proofs.Growth.{grows-more, sound-on}
use Rattle.desk_pictures.proofs.signs.put_signs.Goals as goal

pub loop-name-preserved : goal.loop-name-preserved
loop-name-preserved g c = record {
  out = grows-more _ _ _ c.loop-name.invariant.out c.in_ok-put_filled.ensures.ok;
  sound = sound-on _ _ _ c.loop-name.invariant.sound c.in_ok-put_filled.ensures.broken;
}
