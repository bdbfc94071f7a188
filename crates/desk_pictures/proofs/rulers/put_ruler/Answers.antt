use Rattle.desk_pictures.proofs.Growth.{grows-more, sound-on}
use Rattle.desk_pictures.proofs.rulers.put_ruler.Goals as goal

pub loop-index-preserved : goal.loop-index-preserved
loop-index-preserved g c = record {
  out = grows-more _ _ _ c.loop-index.invariant.out c.in_ok-put_index.ensures.ok;
  sound = sound-on _ _ _ c.loop-index.invariant.sound c.in_ok-put_index.ensures.broken;
}
