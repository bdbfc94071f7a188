use Rattle.desk_pictures.proofs.Growth.{grows-more, sound-on}
use Rattle.desk_pictures.proofs.counts.put_rows.Goals as goal

pub loop-down-preserved : goal.loop-down-preserved
loop-down-preserved g c = record {
  out = grows-more _ _ _ c.loop-down.invariant.out c.in_ok-put_row.ensures.ok;
  sound = sound-on _ _ _ c.loop-down.invariant.sound c.in_ok-put_row.ensures.broken;
}
