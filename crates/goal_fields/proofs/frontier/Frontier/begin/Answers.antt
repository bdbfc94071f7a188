use Rattle.std.proofs.Common.{◌≡◌, length, refl, arith}
use Rattle.goal_fields.proofs.AStarLemmas.{undone-most}
use Rattle.goal_fields.proofs.frontier.Frontier.begin.Goals as goal

pub returns-in_ok-push-clause-few : goal.returns-in_ok-push-clause-few
returns-in_ok-push-clause-few c =
    let s = c.renew.new.self in
    let one : length c.push.new.self.items ≡ 1 = rw (c.in_ok-push.ensures.items, c.clear.ensures.items) refl in
    let zero : length c.clear-2.new.self.items ≡ 0 = rw c.clear-2.ensures.items refl in
    omega (arith, one, zero, c.renew.ensures.away, undone-most s.base s.stamps.items, c.renew.ensures.at_ease.stamped.one_stamp_each)

pub returns-else-is_open-clause-few : goal.returns-else-is_open-clause-few
returns-else-is_open-clause-few c =
    let s = c.renew.new.self in
    let none : length c.clear.new.self.items ≡ 0 = rw c.clear.ensures.items refl in
    let zero : length c.clear-2.new.self.items ≡ 0 = rw c.clear-2.ensures.items refl in
    omega (arith, none, zero, c.renew.ensures.away, undone-most s.base s.stamps.items, c.renew.ensures.at_ease.stamped.one_stamp_each)
