use Rattle.std.proofs.Common.{inl, inr}
use Rattle.std.proofs.lemmas.Result.{on_ok_weaker}
use Rattle.where_index.proofs.moves.MoveList.put.Goals as goal

pub add-requires : goal.add-requires
add-requires c = λ m h. ((c.lose.ensures m).0 h).1

pub returns : goal.returns
returns c = on_ok_weaker c.add.result (λ gains m. (
  (λ h. elim ((gains m).0 h) [ inl o ↦ inl ((c.lose.ensures m).0 o) | inr is ↦ inr is ]),
  (λ h. (gains m).1 (elim h [ inl o ↦ inl ((c.lose.ensures m).1 o) | inr is ↦ inr is ])),
)) c.add.ensures
