use Rattle.std.proofs.Common.{sym, subst, OnOk}
use Rattle.std.specs.Io.KnownBytes.{Appends}
use Rattle.solver_check.specs.JsonTexts.{content_json}
use Rattle.solver_check.specs.declared.checks.judging.Verdict.{Verdict}
use Rattle.solver_check.proofs.checks.json.put_content.Goals as goal

pub returns-in-Judged-clause-ok : goal.returns-in-Judged-clause-ok
returns-in-Judged-clause-ok g c =
    subst (λ (v : Verdict). OnOk c.put_judged.result (Appends (g.W.Sink.held c.args.sink.now) (g.W.Sink.held c.put_judged.new.sink) (content_json c.args.quiet c.args.counts v)))
    (sym c.in-Judged.is) (rw c.items-in-Judged.ensures at c.put_judged.ensures.ok)
