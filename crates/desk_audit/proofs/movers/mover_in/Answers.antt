use Rattle.std.proofs.Common.{refl}
use Rattle.desk_audit.proofs.Index.{index_filed}
use Rattle.desk_audit.proofs.movers.mover_in.Goals as goal

pub share_at-share-requires-clause-filed : goal.share_at-share-requires-clause-filed
share_at-share-requires-clause-filed c = index_filed _ c.args.index.now c.requires.index

pub sole_mover-requires-clause-seen : goal.sole_mover-requires-clause-seen
sole_mover-requires-clause-seen c =
    let share = c.requires.index.shares _ c.share_at-share.result.now c.share_at-share.ensures.at in
    record {
      filed = share.moments_filed;
      has = λ agent cell is. share.moments agent c.args.time cell refl is;
    }
