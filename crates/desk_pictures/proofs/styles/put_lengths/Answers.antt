use Rattle.desk_pictures.proofs.Growth.{grows-more, ok-grows-more, sound-on}
use Rattle.desk_pictures.proofs.styles.put_lengths.Goals as goal

pub loop-text-preserved : goal.loop-text-preserved
loop-text-preserved g c = record {
  out = grows-more _ _ _ c.loop-text.invariant.out c.in_ok-put_some.ensures.ok;
  sound = sound-on _ _ _ c.loop-text.invariant.sound c.in_ok-put_some.ensures.broken;
}

pub returns-clause-ok : goal.returns-clause-ok
returns-clause-ok g c = ok-grows-more _ _ _ _ c.loop-text.invariant.out c.put_letters.ensures.ok
