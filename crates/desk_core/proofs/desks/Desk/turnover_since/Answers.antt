use Rattle.std.proofs.Common.{◌≡◌, length, ap, subst, arith}
use Rattle.desk_commits.specs.State.{DeskState, earlier}
use Rattle.desk_core.specs.Histories.{LeadsOver}
use Rattle.desk_core.proofs.Reported.{leads_since}
use Rattle.desk_core.proofs.desks.Desk.turnover_since.Goals as goal

pub returns-in-Ok-clause-told : goal.returns-in-Ok-clause-told
returns-in-Ok-clause-told c =
    let journal = c.self.inside.journal.items in
    let many : length journal ≡ length c.args.self.now.journal = ap (λ (d : DeskState). length d.journal) c.self.view_is in
    let recounts = c.self.invariant.recounted c.in-Some.history c.in-Some.is in
    subst (λ (d : DeskState). LeadsOver (earlier d c.args.version).scene d.scene c.in-Ok.turnover) c.self.view_is
    (leads_since c.self.inside.start.value c.self.inside.scene journal c.in-Some.history recounts.0 c.args.version _ c.in-Ok.turnover recounts.1 c.self.invariant.made
    (omega (arith, many, recounts.1.versions, c.versions.ensures.is, c.version-now.ensures.is))
    (omega (arith, many, c.requires))
    (omega (arith, many, recounts.1.versions, c.versions.ensures.is, c.version-now.ensures.is))
    c.in-Ok.ensures)
