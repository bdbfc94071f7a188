use Rattle.std.proofs.Common.{◌<◌, ◌^◌, sym, ap, ◌∙◌, arith}
use Rattle.commit_log.specs.Text.{commit_line}
use Rattle.desk_log.proofs.Torn.{torn, starts-so}
use Rattle.desk_log.proofs.tears.look_at_tear.Goals as goal

pub returns-in-Ok-Bad : goal.returns-in-Ok-Bad
returns-in-Ok-Bad c t =
    let split = c.split_at_last_line.ensures in
    let small : c.args.number < 2 ^ 64 = omega (arith, c.ranges.number.fits) in
    let parts = torn c.args.text.now c.split_at_last_line.result.0.now c.split_at_last_line.result.1.now c.args.number c.args.before.now small split.whole split.lines t in
    let bad = rw c.in-Ok-Bad.field-0-is at c.in-Ok-Bad.ensures in
    absurd (bad parts.front)

pub returns-in-Ok-Whole : goal.returns-in-Ok-Whole
returns-in-Ok-Whole c t =
    let split = c.split_at_last_line.ensures in
    let small : c.args.number < 2 ^ 64 = omega (arith, c.ranges.number.fits) in
    let parts = torn c.args.text.now c.split_at_last_line.result.0.now c.split_at_last_line.result.1.now c.args.number c.args.before.now small split.whole split.lines t in
    let whole = rw c.in-Ok-Whole.field-0-is at c.in-Ok-Whole.ensures in
    let due = parts.due whole.0 whole.1 in
    absurd (starts-so c.as_slice.result.now c.split_at_last_line.result.1.now due.0
    (c.as_slice.ensures.value ∙ c.in_ok-due-in-Ok-Whole.ensures ∙ ap (commit_line c.args.number) c.check_of.ensures ∙ due.1)
    (sym c.if-starts_with.false ∙ c.starts_with.ensures.value))
