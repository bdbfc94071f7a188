use Rattle.std.proofs.Common.{subst}
use Rattle.change_history.specs.Moved.{Comes, Goes}
use Rattle.change_history.proofs.moves.Moves.count.Goals as goal

pub returns-then-one : goal.returns-then-one
returns-then-one g c old new turns =
    let same = c.in-Some.ensures.copy in
    let item = c.args.one.now.item in
    let comes : Comes c.args.self.now item c.come.new.self = subst (λ m. Comes m item c.come.new.self) same.1 (subst (λ k. Comes c.copy_of.new.self k c.come.new.self) same.0 c.come.ensures) in
    let w = rw c.if-one.true at turns in
    comes old new w.0 w.1

pub returns-else-one : goal.returns-else-one
returns-else-one g c old new turns =
    let same = c.in-Some.ensures.copy in
    let item = c.args.one.now.item in
    let goes : Goes c.args.self.now item c.go.new.self = subst (λ m. Goes m item c.go.new.self) same.1 (subst (λ k. Goes c.copy_of.new.self k c.go.new.self) same.0 c.go.ensures) in
    let w = rw c.if-one.false at turns in
    goes old new w.0 w.1
