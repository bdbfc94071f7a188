use Rattle.std.proofs.Common.{rules, arith, ◌≡◌, ◌<◌, false, nat_eq, length}
use Rattle.std.proofs.lemmas.Result.{err_from_is_err_and}
use Rattle.session_protocol.proofs.Progress.{progress-byte, progress-line}
use Rattle.session_protocol.proofs.Reading.{reads-on}
use Rattle.session_protocol.proofs.Endings.{ends-next, ends-no_memory, ends-line_unwritten, ends-last_unwritten, ends-last, ends-empty}
use Rattle.session_protocol.proofs.Unkept.{stops-unkept}
use Rattle.session_protocol.proofs.serving.serve_lines.Goals as goal

pub returns-in_err-byte-clause-session : goal.returns-in_err-byte-clause-session
returns-in_err-byte-clause-session g c =
    let p = err_from_is_err_and c.from_residual.result c.from_residual.ensures.1 in
    rw (p.1, p.2) (ends-next _ c.args.bounds _ _ _ _ _ _ _ _ _ _ c.session.invariant.so_far c.in_err-byte.field-0.0 c.in_err-byte.ensures.next c.session.invariant.lines_within c.session.invariant.bytes_within c.session.invariant.room)

pub returns-then-is_empty-clause-session : goal.returns-then-is_empty-clause-session
returns-then-is_empty-clause-session g c =
    let next = rw c.in_default.is at c.in_ok-byte.ensures.next in
    let none : length c.session.line.items ≡ 0 = search rules in
    ends-empty _ c.args.bounds _ _ _ _ _ _ _ _ _ _ 0 c.session.invariant.so_far next.0 next.1 none c.session.invariant.lines_within c.session.invariant.bytes_within

pub returns-in_err-answer_line-clause-session : goal.returns-in_err-answer_line-clause-session
returns-in_err-answer_line-clause-session g c =
    let next = rw c.in_default.is at c.in_ok-byte.ensures.next in
    let p = err_from_is_err_and c.from_residual-in_err-answer_line.result c.from_residual-in_err-answer_line.ensures.1 in
    let put = c.in_err-answer_line.ensures.answered in
    let asked = rw c.as_slice-last.ensures.value at put.answered in
    let some : 0 < length c.session.line.items = search rules in
    rw (p.1, p.2, c.in_err-answer_line.ensures.unwritten)
    (ends-last_unwritten _ c.args.bounds _ _ _ _ _ _ _ _ _ _ 0 c.session.invariant.so_far _ _ put.reply next.0 next.1 some (search rules) (search rules) asked put.cut)

pub returns-in_default-clause-session : goal.returns-in_default-clause-session
returns-in_default-clause-session g c =
    let next = rw c.in_default.is at c.in_ok-byte.ensures.next in
    let put = c.in_ok-answer_line.ensures.answered in
    let asked = rw c.as_slice-last.ensures.value at put.answered in
    let some : 0 < length c.session.line.items = search rules in
    ends-last _ c.args.bounds _ _ _ _ _ _ _ _ _ _ 0 c.session.invariant.so_far _ _ put.reply next.0 next.1 some (search rules) (search rules) asked put.sent

pub returns-in-Err-clause-session : goal.returns-in-Err-clause-session
returns-in-Err-clause-session g c =
    let next = rw c.in-Some.is at c.in_ok-byte.ensures.next in
    let other : nat_eq c.in-Some.byte 10 ≡ false = search rules in
    ends-no_memory _ c.args.bounds _ _ _ _ _ _ _ _ _ _ c.in-Some.byte c.session.invariant.so_far next.0 other (omega arith) (omega arith)

pub returns-in_err-answer_line-2-clause-session : goal.returns-in_err-answer_line-2-clause-session
returns-in_err-answer_line-2-clause-session g c =
    let next = rw c.in-Some.is at c.in_ok-byte.ensures.next in
    let p = err_from_is_err_and c.from_residual-in_err-answer_line-2.result c.from_residual-in_err-answer_line-2.ensures.1 in
    let put = c.in_err-answer_line-2.ensures.answered in
    let asked = rw c.as_slice-whole.ensures.value at put.answered in
    rw (p.1, p.2, c.in_err-answer_line-2.ensures.unwritten)
    (ends-line_unwritten _ c.args.bounds _ _ _ _ _ _ _ _ _ _ c.in-Some.byte c.session.invariant.so_far _ _ put.reply next.0 c.if-byte-ne10.false (omega arith) (omega arith) asked put.cut)

pub session-preserved-in-Ok : goal.session-preserved-in-Ok
session-preserved-in-Ok g c =
    let next = rw c.in-Some.is at c.in_ok-byte.ensures.next in
    let other : nat_eq c.in-Some.byte 10 ≡ false = search rules in
    record {
      so_far = rw c.in-Ok.ensures.items (progress-byte _ _ _ _ _ _ _ _ _ _ _ c.in-Some.byte c.session.invariant.so_far next.0 other);
      lines_within = search rules;
      bytes_within = omega arith;
      room = λ _. omega arith;
      read = reads-on _ _ c.session.bytes 1 _ _ _ _ c.session.invariant.read c.in_ok-byte.ensures.read (omega arith);
      read_sound = search rules;
      write_sound = search rules;
      keep_sound = search rules;
      kept = search rules;
    }

pub session-preserved : goal.session-preserved
session-preserved g c =
    let next = rw c.in-Some.is at c.in_ok-byte.ensures.next in
    let put = c.in_ok-answer_line-2.ensures.answered in
    let asked = rw c.as_slice-whole.ensures.value at put.answered in
    record {
      so_far = rw c.clear.ensures.items (progress-line _ _ _ _ _ _ _ _ _ _ _ c.in-Some.byte _ _ put.reply c.session.invariant.so_far next.0 c.if-byte-ne10.false asked put.sent);
      lines_within = omega arith;
      bytes_within = omega arith;
      room = search rules;
      read = reads-on _ _ c.session.bytes 1 _ _ _ _ c.session.invariant.read c.in_ok-byte.ensures.read (omega arith);
      read_sound = search rules;
      write_sound = search rules;
      keep_sound = search rules;
      kept = search rules;
    }

-- No read is made after one that failed, and no more bytes are taken than the bound and one.
pub returns-in_err-byte-clause-read : goal.returns-in_err-byte-clause-read
returns-in_err-byte-clause-read g c =
    let p = err_from_is_err_and c.from_residual.result c.from_residual.ensures.1 in
    rw (p.1, p.2) (reads-on _ _ c.session.bytes 1 _ _ _ _ c.session.invariant.read c.in_err-byte.ensures.read (omega arith))

pub returns-then-is_empty-clause-read : goal.returns-then-is_empty-clause-read
returns-then-is_empty-clause-read g c = reads-on _ _ c.session.bytes 1 _ _ _ _ c.session.invariant.read c.in_ok-byte.ensures.read (omega arith)

pub returns-in_default-clause-read : goal.returns-in_default-clause-read
returns-in_default-clause-read g c = reads-on _ _ c.session.bytes 1 _ _ _ _ c.session.invariant.read c.in_ok-byte.ensures.read (omega arith)

pub returns-in-Err-clause-read : goal.returns-in-Err-clause-read
returns-in-Err-clause-read g c = reads-on _ _ c.session.bytes 1 _ _ _ _ c.session.invariant.read c.in_ok-byte.ensures.read (omega arith)

pub returns-in_err-answer_line-clause-read : goal.returns-in_err-answer_line-clause-read
returns-in_err-answer_line-clause-read g c =
    let p = err_from_is_err_and c.from_residual-in_err-answer_line.result c.from_residual-in_err-answer_line.ensures.1 in
    rw (p.1, p.2, c.in_err-answer_line.ensures.unwritten) (reads-on _ _ c.session.bytes 1 _ _ _ _ c.session.invariant.read c.in_ok-byte.ensures.read (omega arith))

pub returns-in_err-answer_line-2-clause-read : goal.returns-in_err-answer_line-2-clause-read
returns-in_err-answer_line-2-clause-read g c =
    let p = err_from_is_err_and c.from_residual-in_err-answer_line-2.result c.from_residual-in_err-answer_line-2.ensures.1 in
    rw (p.1, p.2, c.in_err-answer_line-2.ensures.unwritten) (reads-on _ _ c.session.bytes 1 _ _ _ _ c.session.invariant.read c.in_ok-byte.ensures.read (omega arith))

-- What a line did that wasn't kept has no answer.
pub returns-in_err-answer_line-clause-unkept : goal.returns-in_err-answer_line-clause-unkept
returns-in_err-answer_line-clause-unkept g c failed =
    let said = c.in_err-answer_line.ensures in
    let silent = said.silent failed in
    let asked = rw c.as_slice-last.ensures.value at said.answered.answered in
    rw silent.1 (stops-unkept _ _ _ _ _ _ _ _ c.session.line.items c.session.lines c.session.bytes said.answered.reply _ c.session.invariant.so_far asked (λ kept. said.left failed (c.session.invariant.kept kept)))

pub returns-in_err-answer_line-2-clause-unkept : goal.returns-in_err-answer_line-2-clause-unkept
returns-in_err-answer_line-2-clause-unkept g c failed =
    let said = c.in_err-answer_line-2.ensures in
    let silent = said.silent failed in
    let asked = rw c.as_slice-whole.ensures.value at said.answered.answered in
    rw silent.1 (stops-unkept _ _ _ _ _ _ _ _ c.session.line.items c.session.lines c.session.bytes said.answered.reply _ c.session.invariant.so_far asked (λ kept. said.left failed (c.session.invariant.kept kept)))
