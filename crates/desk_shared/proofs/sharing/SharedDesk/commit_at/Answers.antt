use Rattle.std.proofs.Common.{sym, ap, ◌∙◌, subst, Ok, arith}
use Rattle.std.proofs.lemmas.Bool.Decides.{nat_tests}
use Rattle.std.proofs.lemmas.Grind.{common_steps}
use Rattle.std.proofs.lemmas.Option.{gets}
use Rattle.desk_shared.specs.Passes.{PassState}
use Rattle.desk_shared.specs.Calls.{CommitsBy}
use Rattle.desk_shared.specs.Turns.{shown}
use Rattle.desk_shared.proofs.Told.{commits, ends_with, refused_at}
use Rattle.desk_shared.proofs.sharing.SharedDesk.commit_at.Goals as goal

pub grow-requires-clause-ready : goal.grow-requires-clause-ready
grow-requires-clause-ready g c = grind (arith, nat_tests, common_steps, gets)

pub returns-in-Ok-clause-answer : goal.returns-in-Ok-clause-answer
returns-in-Ok-clause-answer g c = let k = c.pass.inside.place.me.0 in let is = ap (λ h. h.known) c.pass.view_is in
    subst (λ (z : PassState). CommitsBy z c.args.commit (Ok c.in-Ok.version) (shown c.grow.new.place.me.0)) is
    (commits k c.win-desk.new.place.me.0 c.grow.new.place.me.0 c.args.commit c.in-Ok.version c.win-desk.result c.commit.new.self c.win-desk.ensures.found (ap (λ m. m.0) c.win-desk.ensures.won) c.win-desk.ensures.desk c.in-Ok.ensures
    (c.requires.planner ∙ sym (ap (λ h. h.known.planner) c.pass.view_is)) (ap (λ m. m.0) c.grow.ensures.grown))

pub returns-in-Ok-clause-last : goal.returns-in-Ok-clause-last
returns-in-Ok-clause-last g c = ends_with c.args.pass.now.known (shown c.grow.new.place.me.0) c.args.commit c.in-Ok.version (returns-in-Ok-clause-answer g c)

pub returns-in-Ok-clause-at : goal.returns-in-Ok-clause-at
returns-in-Ok-clause-at g c = (ends_with c.args.pass.now.known (shown c.grow.new.place.me.0) c.args.commit c.in-Ok.version (returns-in-Ok-clause-answer g c)).numbered

pub returns-in-Err-clause-at : goal.returns-in-Err-clause-at
returns-in-Err-clause-at g c = refused_at c.win-desk.new.place.me.0 c.free.new.place.me.0 c.args.commit c.in-Err.refused _ c.commit.new.self c.win-desk.result c.win-desk.ensures.desk c.in-Err.ensures c.version-version.ensures.is (ap (λ m. m.0) c.free.ensures.freed)
