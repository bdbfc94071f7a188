use Rattle.std.proofs.Common.{ap, ◌∙◌, sym, List, ℕ, arith}
use Rattle.bench_reader.specs.Announced.{rows_announced}
use Rattle.bench_reader.specs.Lines.{lines_of}
use Rattle.session_protocol.proofs.MapLines.{told-fourth, told-other}
use Rattle.session_protocol.proofs.hearing.wanted_of.Goals as goal

pub returns-then-lines-eq4 : goal.returns-then-lines-eq4
returns-then-lines-eq4 c = λ before count same next told less.
    let rows = c.rows_announced.ensures.is ∙ ap (λ (text : List ℕ). rows_announced (lines_of text)) same in
    rw (same, next) (told-fourth before count _ _ told (sym next ∙ c.if-lines-eq4.true) rows c.rows_announced.ensures.bound, omega arith)

pub returns-else-lines-eq4 : goal.returns-else-lines-eq4
returns-else-lines-eq4 c = λ before count same next told less.
    rw (same, next) (told-other before count _ told (λ four. c.if-lines-eq4.false (next ∙ four)), omega arith)
