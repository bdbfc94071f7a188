use Rattle.desk_pictures.proofs.Growth.{grows-of, grows-more, ok-grows-more, sound-on}
use Rattle.desk_pictures.proofs.pieces.put_filled.Goals as goal

pub loop-piece-preserved : goal.loop-piece-preserved
loop-piece-preserved g c = record {
  out = grows-more _ _ _ c.loop-piece.invariant.out (grows-more _ _ _ (grows-of _ _ _ c.in_ok-put_all.ensures.ok) (grows-of _ _ _ c.in_ok-put_piece.ensures.ok));
  sound = sound-on _ _ _ (sound-on _ _ _ c.loop-piece.invariant.sound c.in_ok-put_all.ensures.broken) c.in_ok-put_piece.ensures.broken;
}

pub returns-clause-ok : goal.returns-clause-ok
returns-clause-ok g c = ok-grows-more _ _ _ _ c.loop-piece.invariant.out c.put_letters.ensures.ok
