use Rattle.desk_pictures.proofs.Growth.{grows-more, sound-on}
use Rattle.desk_pictures.proofs.movers.put_movers.Goals as goal

pub loop-rank-preserved : goal.loop-rank-preserved
loop-rank-preserved g c = record {
  out = grows-more _ _ _ c.loop-rank.invariant.out c.in_ok-put_shown.ensures.ok;
  sound = sound-on _ _ _ c.loop-rank.invariant.sound c.in_ok-put_shown.ensures.broken;
}
