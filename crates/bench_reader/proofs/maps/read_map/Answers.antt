use Rattle.std.proofs.Common.{ap, ◌∙◌}
use Rattle.grid_cells.specs.Grid.{Chart}
use Rattle.bench_reader.specs.Lines.{lines_of}
use Rattle.bench_reader.proofs.MapLemmas.{map_lines, extra_line}
use Rattle.bench_reader.proofs.maps.read_map.Goals as goal

pub returns-in-Some : goal.returns-in-Some
returns-in-Some c =
    extra_line (lines_of c.args.text.now) (lines_of c.in-Ok.header.1.now) (lines_of c.in_ok-tail.tail.now) c.read_rows.new.grid c.in-Ok.header.0 c.in-Some.line
    (c.in_ok-tail.ensures.size ∙ ap (λ (grid : Chart). grid.size) c.in-Ok-all_open.ensures) c.in-Ok.ensures.answer.0 c.in-Ok.ensures.answer.1 c.in_ok-tail.ensures.answer (rw c.height.ensures.is at c.in-Some.ensures)

pub returns-in-None : goal.returns-in-None
returns-in-None c =
    map_lines (lines_of c.args.text.now) (lines_of c.in-Ok.header.1.now) (lines_of c.in_ok-tail.tail.now) c.read_rows.new.grid c.in-Ok.header.0
    (c.in_ok-tail.ensures.size ∙ ap (λ (grid : Chart). grid.size) c.in-Ok-all_open.ensures) c.in-Ok.ensures.answer.0 c.in-Ok.ensures.answer.1 c.in_ok-tail.ensures.answer c.in-None.ensures
