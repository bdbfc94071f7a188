use Rattle.std.proofs.Common.{rules}
use Rattle.std.specs.Prelude.{[], unwrap_or}
use mathlib.Core.Logic.{inl}
use Rattle.solver_check.specs.Opens.{bytes_of}
use Rattle.mapf_desk.proofs.RowsOf.{unjudged}
use Rattle.mapf_desk.proofs.checking_row.row_of.Goals as goal

pub returns-in-Ok-ended : goal.returns-in-Ok-ended
returns-in-Ok-ended g c = inl (record {
  paths = c.in-Ok.bytes.items;
  are = c.in-Ok.ensures.read;
  text = c.into_inner-text.result.items;
  checked = c.in-Ok-ended.checked;
  checks = rw (c.problem_of.ensures.map, c.problem_of.ensures.scen, c.problem_of.ensures.agents, c.problem_of.ensures.mode, c.as_slice.ensures.value, c.style_asked.ensures, c.new-writer.ensures.held, c.new.ensures.items, ← c.into_inner-text.ensures) at c.in-Ok-ended.ensures.ok;
  shown = search rules;
  end = search rules;
})

pub returns : goal.returns
returns g c =
    unjudged (g.F.Folder.holds c.args.folder.now) c.args.words.now (unwrap_or (bytes_of c.args.texts.map) []) (bytes_of c.args.texts.scen) c.args.file.now c.in-Ok.bytes.items
    c.in-Err-ended.fault c.faulty-in-Err-ended.result c.faulty-in-Err-ended.ensures.end c.faulty-in-Err-ended.ensures.text c.in-Ok.ensures.read
    (rw (c.problem_of.ensures.map, c.problem_of.ensures.scen, c.problem_of.ensures.agents, c.problem_of.ensures.mode, c.as_slice.ensures.value) at c.in-Err-ended.ensures.err)
