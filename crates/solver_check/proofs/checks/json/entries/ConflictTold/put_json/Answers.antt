use Rattle.std.proofs.Common.{sym, subst}
use Rattle.desk_report.specs.Bytes.{Puts}
use Rattle.solver_check.specs.JsonTexts.{entry_json}
use Rattle.mapf_rules.specs.declared.entries.Conflict.{Conflict}
use Rattle.solver_check.proofs.checks.json.entries.ConflictTold.put_json.Goals as goal

pub returns-in-Vertex : goal.returns-in-Vertex
returns-in-Vertex g c =
    subst (λ (x : Conflict). Puts g.W.Sink.held g.W.Sink.broken c.args.sink.now c.put_pair.new.sink c.put_pair.result (entry_json x)) (sym c.in-Vertex.is) c.put_pair.ensures

pub returns-in-Parked : goal.returns-in-Parked
returns-in-Parked g c =
    subst (λ (x : Conflict). Puts g.W.Sink.held g.W.Sink.broken c.args.sink.now c.put_pair-in-Parked.new.sink c.put_pair-in-Parked.result (entry_json x)) (sym c.in-Parked.is) c.put_pair-in-Parked.ensures

pub returns-in-Edge : goal.returns-in-Edge
returns-in-Edge g c =
    subst (λ (x : Conflict). Puts g.W.Sink.held g.W.Sink.broken c.args.sink.now c.put_moves.new.sink c.put_moves.result (entry_json x)) (sym c.in-Edge.is) c.put_moves.ensures

pub returns-in-Following : goal.returns-in-Following
returns-in-Following g c =
    subst (λ (x : Conflict). Puts g.W.Sink.held g.W.Sink.broken c.args.sink.now c.put_pair-in-Following.new.sink c.put_pair-in-Following.result (entry_json x)) (sym c.in-Following.is) c.put_pair-in-Following.ensures

pub returns-in-Swapping : goal.returns-in-Swapping
returns-in-Swapping g c =
    subst (λ (x : Conflict). Puts g.W.Sink.held g.W.Sink.broken c.args.sink.now c.put_moves-in-Swapping.new.sink c.put_moves-in-Swapping.result (entry_json x)) (sym c.in-Swapping.is) c.put_moves-in-Swapping.ensures
