use Rattle.std.proofs.Common.{arith}
use Rattle.conflict_ledger.proofs.Gathers.{gathered_all}
use Rattle.conflict_ledger.proofs.gather.gather.Goals as goal

pub returns : goal.returns
returns c fleet shows fits =
    gathered_all fleet _ c.args.span.now c.own_last-last.result (c.own_last-last.ensures.is fleet shows) fits _ _ c.new-entries.ensures.items
    (c.in_ok-gather_path.ensures.gathers fleet shows (omega (arith, fits.begins, c.own_last-last.ensures.is fleet shows))) (c.in_ok-gather_path.ensures.has fleet shows (c.own_last-last.ensures.is fleet shows)) c.in_default.is _
    (c.in_ok-gather_late.ensures.gathers fleet shows (c.own_last-last.ensures.is fleet shows)) (c.in_ok-gather_late.ensures.has fleet shows (c.own_last-last.ensures.is fleet shows))
