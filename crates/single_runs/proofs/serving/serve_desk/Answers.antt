use Rattle.single_runs.specs.Sittings.{source_failed}
use Rattle.session_protocol.proofs.Reading.{until-then}
use Rattle.single_runs.proofs.serving.serve_desk.Goals as goal

-- The map was read to its end, and then the session's reads followed.
pub returns-clause-reads : goal.returns-clause-reads
returns-clause-reads g c =
    until-then g.R.Source.gives (source_failed c.serve_over-2.result) c.args.reader.now c.hear_map.new.reader c.serve_over-2.new.reader c.in-Ok.ensures.reads c.serve_over-2.ensures.reads
