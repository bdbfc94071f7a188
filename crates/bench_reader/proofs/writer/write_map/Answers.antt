use Rattle.std.proofs.Common.{rules, append-nil, ◌≡◌, ◌-◌, ◌∙◌, sym, ap, subst, arith}
use Rattle.bench_reader.specs.MapSpelling.{map_spelling}
use Rattle.bench_reader.specs.MapText.{IsMapText}
use Rattle.bench_reader.proofs.SpellingLemmas.{row_written, map_reads}
use Rattle.bench_reader.proofs.writer.write_map.Goals as goal

pub loop-row-preserved : goal.loop-row-preserved
loop-row-preserved c = row_written c.loop-row.text.items c.write_row.new.text.items _ c.args.grid.now.flags c.args.grid.now.size.width c.args.grid.now.size.height c.loop-row.row (omega (arith, ap (λ size. size.height) c.size-size.ensures.is, c.height-row-end.ensures.is)) (search rules) c.loop-row.invariant

pub returns-clause-reads : goal.returns-clause-reads
returns-clause-reads c =
    let height : c.size-size.result.height ≡ c.args.grid.now.size.height = ap (λ size. size.height) c.size-size.ensures.is in
    let over : c.args.grid.now.size.height - c.loop-row.row ≡ 0 = omega (arith, height, c.height-row-end.ensures.is, c.loop-row-test.false) in
    let whole : c.loop-row.text.items ≡ map_spelling c.args.grid.now = sym (append-nil c.loop-row.text.items) ∙ (rw over at c.loop-row.invariant) in
    subst (λ text. IsMapText text c.args.grid.now) (sym whole) (map_reads c.args.grid.now (rw c.size-size.ensures.is at c.height-row-end.ensures.size) c.size-size.ensures.whole)
