use Rattle.std.proofs.Common.{Option, ap, ◌∙◌}
use Rattle.std.proofs.lemmas.Result.{IfOk-at_ok}
use Rattle.solver_check.specs.Opens.{bytes_of}
use Rattle.solver_check.specs.declared.faults.RunFault.{RunFault}
use Rattle.mapf_desk.specs.Ends.{SitsBy, fault_at_end, last_fault}
use Rattle.mapf_desk.proofs.Ending.{last_is_last}
use Rattle.mapf_desk.proofs.serving.serve_buffered.Goals as goal

pub returns-in-Ok : goal.returns-in-Ok
returns-in-Ok g c = (
  c.in-Ok.ended,
  IfOk-at_ok (SitsBy c.args.words.now (bytes_of c.args.texts.map) (bytes_of c.args.texts.scen) (bytes_of c.args.texts.journal) (g.I.Read.remaining c.args.input))
      c.in-Ok.is c.serve_lines-ended.ensures.sat,
  last_is_last (fault_at_end c.in-Ok.ended) c.send_last-last.result.0 c.note_end-fault.result
      (c.note_end-fault.ensures ∙ ap (λ (before : Option RunFault). last_fault before c.send_last-last.result.0) c.fault_of.ensures),
)
