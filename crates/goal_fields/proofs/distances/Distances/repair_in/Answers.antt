use Rattle.std.proofs.Common.{sym, refl, arith}
use Rattle.goal_fields.proofs.CountLemmas.{at_rest-few, IsRepaired-at_rest}
use Rattle.goal_fields.proofs.distances.Distances.repair_in.Goals as goal

pub returns-clause-repaired : goal.returns-clause-repaired
returns-clause-repaired c old size before =
    let mended = c.mend_for-taken in
    IsRepaired-at_rest old c.args.room.now.grid c.args.self.now.goal c.args.self.now.g.items mended.new.g.items mended.result before (rw mended.ensures.grid at mended.ensures.at_rest) mended.ensures.count
    c.args.room.now.grid refl (sym size) c.args.self.now.taken c.args.self.now.total mended.result c.saturating_add-self.result refl c.saturating_add-self.ensures

pub returns-clause-few : goal.returns-clause-few
returns-clause-few c =
    let mended = c.mend_for-taken in
    let (old, size, covered, before) = c.requires.at_rest in
    at_rest-few old mended.new.self.grid c.args.self.now.goal c.args.self.now.g.items mended.new.g.items mended.result before mended.ensures.at_rest mended.ensures.count

pub returns-clause-room : goal.returns-clause-room
returns-clause-room c =
    let mended = c.mend_for-taken in
    record {
      map = mended.ensures.grid;
      wide = c.requires.room.wide;
      whole = c.requires.room.whole;
      idle = mended.ensures.idle;
      counted = omega (arith, mended.ensures.all_told);
    }
