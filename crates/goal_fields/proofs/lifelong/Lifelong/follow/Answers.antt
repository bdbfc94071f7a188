use Rattle.std.specs.Prelude.{Some}
use Rattle.std.proofs.Common.{◌≡◌, ◌∙◌, sym, subst, inl, inr}
use Rattle.grid_cells.specs.Cell.{Point}
use Rattle.goal_fields.specs.Taking.{IsUnstirred}
use Rattle.goal_fields.proofs.FollowLemmas.{Advances-update, Advances-refl}
use Rattle.goal_fields.proofs.lifelong.Lifelong.follow.Goals as goal

pub returns-then-is_stirred-clause-advances : goal.returns-then-is_stirred-clause-advances
returns-then-is_stirred-clause-advances c =
    let update = c.update.ensures in
    Advances-update c.args.self.now c.update.new.self (Some c.in-Some.next) update.same update.here update.keeps update.others

pub returns-then-is_stirred-clause-here : goal.returns-then-is_stirred-clause-here
returns-then-is_stirred-clause-here c v some = inl (c.update.ensures.here v (sym c.in-Some.is ∙ some))

pub returns-else-is_stirred-clause-advances : goal.returns-else-is_stirred-clause-advances
returns-else-is_stirred-clause-advances c = Advances-refl c.args.self.now

pub returns-else-is_stirred-clause-here : goal.returns-else-is_stirred-clause-here
returns-else-is_stirred-clause-here c v some =
    let is : c.in-Some.next ≡ v = (let e : Some c.in-Some.next ≡ Some v = sym c.in-Some.is ∙ some in cc) in
    inr (subst (λ (w : Point). IsUnstirred c.args.self.now w c.args.was c.args.now) is c.if-is_stirred.ensures)
