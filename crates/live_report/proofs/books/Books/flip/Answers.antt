use Rattle.std.proofs.Common.{None}
use Rattle.live_report.specs.Books.{Keep}
use Rattle.live_report.proofs.books.Books.flip.Goals as goal

pub flip-requires-clause-covered : goal.flip-requires-clause-covered
flip-requires-clause-covered c = λ k d below cell holds differ.
    let was = rw c.into_parts-fleet.ensures at c.requires.2 in
    let same = was.prices.fields k d below in
    c.requires.4 cell (rw same at holds) (rw c.grid-2.ensures.grid at (rw same at differ))

pub returns-clause-kept : goal.returns-clause-kept
returns-clause-kept c = λ old rows keep size covers.
    let was = rw c.into_parts-fleet.ensures at keep in
    let rest : Keep c.args.scene.now.mode old rows (record { fleet = c.into_parts-fleet.result.1; prices = c.into_parts-fleet.result.2; lines = None }) = record { fleet = was.fleet; prices = was.prices; lines = tt } in
    record {
      fleet = was.fleet;
      prices = rw c.grid-2.ensures.grid at (c.in-Ok.ensures.kept c.args.scene.now.mode old rows rest (rw c.grid-2.ensures.grid size) (rw c.grid-2.ensures.grid covers));
      lines = rw c.grid.ensures.grid at (c.unflipped-lines.ensures old rows was.prices (rw c.grid.ensures.grid size) (rw c.grid.ensures.grid covers) was.lines);
    }
