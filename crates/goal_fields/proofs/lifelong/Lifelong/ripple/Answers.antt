use Rattle.std.specs.Prelude.{Some}
use Rattle.std.proofs.Common.{◌∙◌, inl, inr, sym, ap, subst, arith, ℕ}
use Rattle.grid_cells.specs.Cell.{Point}
use Rattle.grid_cells.specs.Size.{Holds}
use Rattle.goal_fields.specs.Lifelong.{IsGood}
use Rattle.goal_fields.specs.Taking.{Advances, FollowsWrite}
use Rattle.goal_fields.proofs.Neighbours.{cases_cell, cases_adjacent}
use Rattle.goal_fields.proofs.FollowLemmas.{g_read, IsSameBut-trans, Advances-update, Advances-trans, Follows-later, IsGood-apart, IsGood-unstirred}
use Rattle.goal_fields.proofs.lifelong.Lifelong.ripple.Goals as goal
use Rattle.goal_fields.proofs.lifelong.Lifelong.ripple.Goals.{then-now-was, else-now-was}

pub returns-clause-same : goal.returns-clause-same
returns-clause-same c =
    IsSameBut-trans c.args.self.now c.update.new.self c.follow_all.new.self c.update.ensures.same c.follow_all.ensures.advances.same

pub returns-clause-good : goal.returns-clause-good
returns-clause-good c g taking v held =
    let s = c.args.self.now in
    let from = c.args.from in
    let update = c.update.ensures in
    let now_is = sym (g_read s from c.place_of.result c.index-now.result.now c.requires.roomy.one_g_each c.place_of.ensures.bound c.place_of.ensures.is
    c.index-now.ensures) in
    let f0 : FollowsWrite g s from c.args.was c.index-now.result.now = subst (λ (n : ℕ). FollowsWrite g s from c.args.was n) now_is taking.follows in
    let updated : Advances s c.update.new.self = Advances-update s c.update.new.self c.if-now-was.update update.same update.here update.keeps update.others in
    let both : Advances s c.follow_all.new.self = Advances-trans s c.update.new.self c.follow_all.new.self updated c.follow_all.ensures.advances in
    let f2 : FollowsWrite g c.follow_all.new.self from c.args.was c.index-now.result.now = Follows-later g s c.follow_all.new.self from c.args.was c.index-now.result.now both f0 in
    let h1 : Holds c.update.new.self.grid.size v = rw update.same.grid held in
    let h2 : Holds c.follow_all.new.self.grid.size v = rw c.follow_all.ensures.advances.same.grid h1 in
    elim (cases_cell v from) [
      | inl e ↦ c.follow_all.ensures.advances.keeps v h1 (elim c.if-now-was.branch [
        | then-now-was w ↦ update.keeps v held (subst (IsGood s) (sym e) (taking.lowered (omega (arith, now_is, w.if-now-was.true))))
        | else-now-was w ↦ update.here v (w.update-is ∙ ap (λ (x : Point). Some x) (sym e))
      ])
      | inr apart ↦ elim (cases_adjacent from v) [
        | inr far ↦ IsGood-apart g c.follow_all.new.self from v c.args.was c.index-now.result.now f2 h2 apart far
        | inl adj ↦ elim (c.follow_all.ensures.near v h1 adj) [
          | inl good ↦ good
          | inr still ↦ IsGood-unstirred g c.follow_all.new.self from v c.args.was c.index-now.result.now f2 still h2 apart
        ]
      ]
    ]
