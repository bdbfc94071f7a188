use Rattle.std.proofs.Common.{take}
use Rattle.live_report.specs.Looks.{HasFormers}
use Rattle.live_report.proofs.looks.agents_seen.Given as goal

abbrev pub invariant-loop-former : goal.invariant-loop-former
invariant-loop-former l = HasFormers (take l.former-index l.formers) l.agents.items
