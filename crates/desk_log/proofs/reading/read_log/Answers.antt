use Rattle.std.proofs.Common.{arith, ◌-◌, length, ap, length-append}
use Rattle.std.proofs.lemmas.Result.{err_from_is_err_and}
use Rattle.commit_log.specs.Text.{head_text, log_text}
use Rattle.desk_log.specs.Keeping.{texts_of}
use Rattle.desk_log.proofs.Found.{found-none, found-more, found-all}
use Rattle.desk_log.proofs.Ahead.{ahead-first, ahead-next, ahead-tear, read-fault}
use Rattle.desk_log.proofs.reading.read_log.Goals as goal

pub entries-init : goal.entries-init
entries-init c = record {
  found = found-none _ _ _ _ _ _ (rw c.in-Some.is at c.in_ok-head.ensures) c.in_ok-journal.ensures;
  ahead = ahead-first _ _ _ _ _ (rw c.in-Some.is at c.in_ok-head.ensures);
}

pub entries-preserved : goal.entries-preserved
entries-preserved c =
    let looked = c.in_ok-look_at_entry-in-Ok-Some.ensures in
    let begins = rw c.in-Ok-Some.field-0-is at c.in-Ok-Some.ensures in
    record {
      found = found-more c.args.text.now c.in-Some.head.mode c.in-Some.head.scene c.entries.rest.now c.entries.journal.items c.entries.check c.entries.count c.entries.invariant.found
          c.in-Ok-Some.found.entry.now c.in-Ok-Some.found.check c.in-Ok-Some.found.rest.now c.extend_from_slice.new.self.items looked.0 begins (omega (arith, c.if-count-from.false, c.from.ensures)) looked.1
          c.in_ok-extend_from_slice-in-Ok-Some.ensures.items;
      ahead = λ f. (ahead-next c.entries.rest.now c.entries.check c.in-Ok-Some.found.entry.now c.in-Ok-Some.found.check c.in-Ok-Some.found.rest.now c.entries.count begins (c.entries.invariant.ahead f)).later;
    }

pub returns-in_err-look_at_entry-in-Ok-Some : goal.returns-in_err-look_at_entry-in-Ok-Some
returns-in_err-look_at_entry-in-Ok-Some c =
    let begins = rw c.in-Ok-Some.field-0-is at c.in-Ok-Some.ensures in
    let p = err_from_is_err_and c.from_residual-in_err-look_at_entry-in-Ok-Some.result c.from_residual-in_err-look_at_entry-in-Ok-Some.ensures.1 in
    rw (p.1, p.2) (λ f.
    let next = ahead-next c.entries.rest.now c.entries.check c.in-Ok-Some.found.entry.now c.in-Ok-Some.found.check c.in-Ok-Some.found.rest.now c.entries.count begins (c.entries.invariant.ahead f) in
    c.in_err-look_at_entry-in-Ok-Some.ensures next.is.0 next.is.1)

pub returns-then-count-from : goal.returns-then-count-from
returns-then-count-from c f =
    let begins = rw c.in-Ok-Some.field-0-is at c.in-Ok-Some.ensures in
    let next = ahead-next c.entries.rest.now c.entries.check c.in-Ok-Some.found.entry.now c.in-Ok-Some.found.check c.in-Ok-Some.found.rest.now c.entries.count begins (c.entries.invariant.ahead f) in
    absurd (omega (arith, next.room, c.if-count-from.true, c.from.ensures))

pub returns-in-Err : goal.returns-in-Err
returns-in-Err c f = c.fault_of.ensures (read-fault c.entries.rest.now c.entries.check c.entries.count c.in-Err.why (c.entries.invariant.ahead f) c.in-Err.ensures)

pub returns-in_err-look_at_tear : goal.returns-in_err-look_at_tear
returns-in_err-look_at_tear c =
    let unsealed = rw c.in-Ok-None.field-0-is at c.in-Ok-None.ensures in
    let p = err_from_is_err_and c.from_residual-in_err-look_at_tear.result c.from_residual-in_err-look_at_tear.ensures.1 in
    rw (p.1, p.2) (λ f. c.in_err-look_at_tear.ensures (ahead-tear c.entries.rest.now c.entries.check c.entries.count (c.entries.invariant.ahead f) unsealed))

pub returns : goal.returns
returns c =
    let f = c.entries.invariant.found in
    let unsealed = rw c.in-Ok-None.field-0-is at c.in-Ok-None.ensures in
    found-all c.args.text.now c.in-Some.head.mode c.in-Some.head.scene c.entries.rest.now c.entries.journal.items c.entries.check c.entries.count f
    c.put_end.new.journal (length c.args.text.now - length c.entries.rest.now) unsealed c.in_ok-put_end.ensures
    (omega (arith, ap length f.split, length-append (log_text (head_text c.in-Some.head.mode c.in-Some.head.scene) (texts_of f.entries)) c.entries.rest.now))
