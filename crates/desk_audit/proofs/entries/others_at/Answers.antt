use Rattle.std.proofs.Common.{refl, inl, inr, arith}
use Rattle.std.proofs.lemmas.Bool.{cases_lt}
use Rattle.plan_table.specs.Route.{tracks_of, last_of}
use Rattle.desk_audit.specs.Index.{pass}
use Rattle.desk_audit.proofs.Index.{index_filed}
use Rattle.desk_audit.proofs.entries.others_at.Goals as goal

pub share_at-share-requires-clause-filed : goal.share_at-share-requires-clause-filed
share_at-share-requires-clause-filed c = index_filed _ c.args.index.now c.requires

-- no rest has begun, so the other is on its path
pub returns-then-time-share : goal.returns-then-time-share
returns-then-time-share c other apart there =
    let fleet = tracks_of c.args.mode c.args.plans.now.rows in
    let share = c.requires.shares _ c.share_at-share.result.now c.share_at-share.ensures.at in
    elim (cases_lt (last_of fleet other) c.args.time) [
      | inl late ↦ absurd (omega (arith, c.if-time-share.true, late, share.from other c.args.time c.args.cell (late, there)))
      | inr early ↦ (pass c.args.time other, refl, omega arith, c.in_ok-add_others.ensures.has _ (share.moments other c.args.time c.args.cell refl (early, there)) apart)
    ]

pub returns : goal.returns
returns c other apart there =
    let fleet = tracks_of c.args.mode c.args.plans.now.rows in
    let share = c.requires.shares _ c.share_at-share.result.now c.share_at-share.ensures.at in
    elim (cases_lt (last_of fleet other) c.args.time) [
      | inl late ↦ (pass (last_of fleet other) other, refl, omega arith, c.in_ok-add_others-2.ensures.has _ (share.rests other c.args.time c.args.cell (late, there)) apart)
      | inr early ↦ (pass c.args.time other, refl, omega arith, c.in_ok-add_others-2.ensures.keeps _ (c.in_ok-add_others.ensures.has _ (share.moments other c.args.time c.args.cell refl (early, there)) apart))
    ]
