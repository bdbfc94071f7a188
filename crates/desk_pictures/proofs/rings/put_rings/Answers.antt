use Rattle.desk_pictures.proofs.Growth.{grows-more, sound-on}
use Rattle.desk_pictures.proofs.rings.put_rings.Goals as goal

pub loop-entry-preserved : goal.loop-entry-preserved
loop-entry-preserved g c = record {
  out = grows-more _ _ _ c.loop-entry.invariant.out c.in_ok-put_ring.ensures.ok;
  sound = sound-on _ _ _ c.loop-entry.invariant.sound c.in_ok-put_ring.ensures.broken;
}
