use Rattle.std.proofs.Common.{inl, inr}
use Rattle.grid_cells.specs.Size.{Holds}
use Rattle.goal_fields.specs.Taking.{Advances}
use Rattle.goal_fields.proofs.Neighbours.{neighbour_cases}
use Rattle.goal_fields.proofs.FollowLemmas.{Advances-trans, unstirred_later}
use Rattle.goal_fields.proofs.lifelong.Lifelong.follow_all.Goals as goal

pub returns-clause-advances : goal.returns-clause-advances
returns-clause-advances c =
    let two : Advances c.args.self.now c.follow-2.new.self = Advances-trans _ c.follow.new.self _ c.follow.ensures.advances c.follow-2.ensures.advances in
    let three : Advances c.args.self.now c.follow-3.new.self = Advances-trans _ c.follow-2.new.self _ two c.follow-3.ensures.advances in
    Advances-trans _ c.follow-3.new.self _ three c.follow-4.ensures.advances

pub returns-clause-near : goal.returns-clause-near
returns-clause-near c v held adj =
    let fourth : Advances c.follow-3.new.self c.follow-4.new.self = c.follow-4.ensures.advances in
    let third : Advances c.follow-2.new.self c.follow-4.new.self = Advances-trans _ c.follow-3.new.self _ c.follow-3.ensures.advances fourth in
    let second : Advances c.follow.new.self c.follow-4.new.self = Advances-trans _ c.follow-2.new.self _ c.follow-2.ensures.advances third in
    let h1 : Holds c.follow.new.self.grid.size v = rw c.follow.ensures.advances.same.grid held in
    let h2 : Holds c.follow-2.new.self.grid.size v = rw c.follow-2.ensures.advances.same.grid h1 in
    let h3 : Holds c.follow-3.new.self.grid.size v = rw c.follow-3.ensures.advances.same.grid h2 in
    elim (neighbour_cases c.args.self.now.grid.size c.args.from v held adj) [
      | inl e ↦ unstirred_later c.follow.new.self c.follow-4.new.self v c.args.was c.args.now second h1 (c.follow.ensures.here v (rw c.around.ensures e))
      | inr (inl e) ↦ unstirred_later c.follow-2.new.self c.follow-4.new.self v c.args.was c.args.now third h2 (c.follow-2.ensures.here v (rw c.around.ensures e))
      | inr (inr (inl e)) ↦ unstirred_later c.follow-3.new.self c.follow-4.new.self v c.args.was c.args.now fourth h3 (c.follow-3.ensures.here v (rw c.around.ensures e))
      | inr (inr (inr e)) ↦ c.follow-4.ensures.here v (rw c.around.ensures e)
    ]
