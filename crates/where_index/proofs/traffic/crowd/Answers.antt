use Rattle.std.proofs.Common.{sym, ◌∙◌}
use Rattle.std.proofs.lemmas.Result.{on_ok_weaker}
use Rattle.where_index.specs.Records.{hop}
use Rattle.where_index.proofs.ByCell.{cell_exact, apart_from}
use Rattle.where_index.proofs.Crowding.{waits, joins}
use Rattle.where_index.proofs.traffic.crowd.Goals as goal

pub returns-then-eq : goal.returns-then-eq
returns-then-eq c = λ f has is beside. waits f c.args.step.agent c.args.time (hop c.args.cell c.args.step.to) is c.args.crowds.now (cell_exact c.args.step.to c.args.cell (sym c.eq.ensures ∙ c.if-eq.true)) has

pub returns : goal.returns
returns c = on_ok_weaker c.join.result (λ changes f has is beside.
    joins f c.args.step.agent c.args.time (hop c.args.cell c.args.step.to) is c.args.crowds.now c.join.new.self c.args.beside (apart_from c.args.step.to c.args.cell (sym c.eq.ensures ∙ c.if-eq.false)) beside changes has) c.join.ensures
