use Rattle.std.proofs.Common.{◌+◌, ℕ, length, ap, sym, subst, ◌∙◌, arith, length-append, ◌∷◌}
use Rattle.std.proofs.lemmas.Bool.{eqb-false}
use Rattle.journal_text.specs.Reading.{IsFaultyLine}
use Rattle.journal_text.proofs.BadLines.{bad-line}
use Rattle.journal_text.proofs.ReaderSteps.{goes-on, sticks-line, sticks-end, not-empty}
use Rattle.journal_text.proofs.reading.read_journal.Goals as goal

pub returns-in-Ok-None : goal.returns-in-Ok-None
returns-in-Ok-None c =
    let text = c.args.text.now in
    let line = c.in-Some.ensures in
    let stuck = sticks-line text c.lines.rest.now c.in-Some.line.now c.in-Some.behind.now c.lines.place c.lines.invariant.stands line.0 line.1 (rw c.in-Ok-None.field-0-is at c.in-Ok-None.ensures) in
    let bad = bad-line text c.lines.rest.now c.lines.place c.lines.invariant.stands stuck (λ heading entries over none. not-empty c.lines.rest.now c.in-Some.line.now c.in-Some.behind.now line.0 none) in
    subst (λ (n : ℕ). IsFaultyLine text (n + 1)) c.lines.invariant.count bad

pub lines-preserved : goal.lines-preserved
lines-preserved c =
    let line = c.in-Some.ensures in
    let on = goes-on c.args.text.now c.lines.rest.now c.in-Some.line.now c.in-Some.behind.now c.lines.place c.in-Ok-Some.after c.lines.invariant.stands line.0 (rw c.in-Ok-Some.field-0-is at c.in-Ok-Some.ensures) in
    record {
      stands = on.stands;
      count = on.count ∙ ap (λ (n : ℕ). n + 1) c.lines.invariant.count;
      bound = omega (arith, c.lines.invariant.bound, on.some, ap length line.0, length-append c.in-Some.line.now (10 ∷ c.in-Some.behind.now));
    }

pub returns-in-Over : goal.returns-in-Over
returns-in-Over c =
    let text = c.args.text.now in
    let stuck = sticks-end c.lines.rest.now c.lines.place c.in_default.ensures in
    let bad = bad-line text c.lines.rest.now c.lines.place c.lines.invariant.stands stuck (λ heading entries over none. eqb-false (length c.lines.rest.now) 0 (sym c.is_empty.ensures ∙ c.if-is_empty.false) (ap length none)) in
    subst (λ (n : ℕ). IsFaultyLine text (n + 1)) c.lines.invariant.count bad

pub returns : goal.returns
returns c =
    let text = c.args.text.now in
    let stuck = sticks-end c.lines.rest.now c.lines.place c.in_default.ensures in
    let bad = bad-line text c.lines.rest.now c.lines.place c.lines.invariant.stands stuck (λ heading entries over none. c.in_default-place.not-Over heading entries over) in
    subst (λ (n : ℕ). IsFaultyLine text (n + 1)) c.lines.invariant.count bad
