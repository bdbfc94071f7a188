use Rattle.std.proofs.Common.{ℕ, slice_index_or}
use Rattle.std.proofs.lemmas.List.{get_or_default}
use Rattle.desk_report.proofs.Fronts.{err-of}
use Rattle.desk_report.proofs.Lines.{front-item}
use Rattle.desk_pages.specs.Pages.{escaped_byte}
use Rattle.desk_pages.proofs.titles.put_escaped.Goals as goal

pub returns-in_err-put_byte-clause-err : goal.returns-in_err-put_byte-clause-err
returns-in_err-put_byte-clause-err g c =
    let byte : ℕ = slice_index_or c.args.text.now c.loop-byte.byte-index 0 in
    let read = get_or_default c.args.text.now c.loop-byte.byte-index 0 byte c.loop-byte-test.true in
    err-of c.from_residual.result (front-item escaped_byte c.args.text.now _ _ _ c.loop-byte.byte-index byte read c.loop-byte-test.true c.loop-byte.invariant.out c.in_err-put_byte.ensures.err)
