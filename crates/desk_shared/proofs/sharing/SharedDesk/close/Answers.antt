use Rattle.std.proofs.Common.{ap, ◌∙◌, subst}
use mathlib.Core.Option.{some}
use Rattle.desk_shared.specs.Passes.{PassState}
use Rattle.desk_shared.specs.Calls.{IsDeskAtClose}
use Rattle.desk_shared.proofs.Told.{closes}
use Rattle.desk_shared.proofs.sharing.SharedDesk.close.Goals as goal

pub returns-in-Some : goal.returns-in-Some
returns-in-Some c = subst (λ (z : PassState). IsDeskAtClose z c.in-Some.desk) (ap (λ h. h.known) c.pass.view_is)
    (closes _ _ _ _ _ c.pass.invariant.2 c.close_with-closed.ensures.values.2 (c.word-turn.ensures ∙ ap some c.if-turn-eq0.true) c.in-Some.ensures.value)
