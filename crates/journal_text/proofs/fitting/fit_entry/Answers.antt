use Rattle.std.proofs.Common.{rules, ◌≡◌, ◌∷◌, length, ap, sym, ◌∙◌, arith, length-append}
use Rattle.std.proofs.lemmas.List.{nil_from_length}
use Rattle.std.proofs.lemmas.Bool.{eqb-false}
use Rattle.journal_text.proofs.ReaderSteps.{goes-on, sticks-line, sticks-end, not-empty}
use Rattle.journal_text.proofs.Fitted.{behind_first}
use Rattle.journal_text.proofs.EntryFronts.{front-stuck, fits-so, behind-so}
use Rattle.journal_text.proofs.fitting.fit_entry.Goals as goal

pub lines-preserved : goal.lines-preserved
lines-preserved c =
    let line = c.in-Some.ensures in
    let on = goes-on (behind_first c.args.text.now) c.lines.rest.now c.in-Some.line.now c.in-Some.behind.now c.lines.place c.in-Some-2.after c.lines.invariant.stands line.0 (rw c.in-Some-2.is at c.in_ok-after.ensures) in
    record {
      stands = on.stands;
      bound = omega (arith, c.lines.invariant.bound, on.some, ap length line.0, length-append c.in-Some.line.now (10 ∷ c.in-Some.behind.now));
    }

pub returns-then-is_empty : goal.returns-then-is_empty
returns-then-is_empty c =
    let none : length c.lines.rest.now ≡ 0 = search rules in
    fits-so c.args.text.now c.lines.rest.now c.lines.place c.fit_at.result c.lines.invariant.stands (nil_from_length c.lines.rest.now none) c.fit_at.ensures.whole c.fit_at.ensures.begun c.fit_at.ensures.bad

pub returns-then-is_behind : goal.returns-then-is_behind
returns-then-is_behind c =
    let line = c.in-Some.ensures in
    let found = c.is_behind.ensures c.if-is_behind.true in
    behind-so c.args.text.now c.lines.rest.now c.lines.place found.0 found.1 c.lines.invariant.stands found.2 found.3 (not-empty c.lines.rest.now c.in-Some.line.now c.in-Some.behind.now line.0)

pub returns-in-None : goal.returns-in-None
returns-in-None c f =
    let line = c.in-Some.ensures in
    let stuck = sticks-line (behind_first c.args.text.now) c.lines.rest.now c.in-Some.line.now c.in-Some.behind.now c.lines.place c.lines.invariant.stands line.0 line.1 (rw c.in-None.is at c.in_ok-after.ensures) in
    front-stuck c.args.text.now c.lines.rest.now c.lines.place c.lines.invariant.stands f stuck (not-empty c.lines.rest.now c.in-Some.line.now c.in-Some.behind.now line.0)

pub returns-else-is_empty : goal.returns-else-is_empty
returns-else-is_empty c f =
    let stuck = sticks-end c.lines.rest.now c.lines.place c.in_default.ensures in
    front-stuck c.args.text.now c.lines.rest.now c.lines.place c.lines.invariant.stands f stuck (λ none. eqb-false (length c.lines.rest.now) 0 (sym c.is_empty.ensures ∙ c.if-is_empty.false) (ap length none))
