use Rattle.std.proofs.Common.{◌<◌, inl, inr, arith, ◌∷◌, [], length, ap, length-append}
use Rattle.std.proofs.lemmas.Bool.{or_cases, ltb-true}
use Rattle.std.proofs.lemmas.List.Elements.{All-append, All-cons, All-nil}
use Rattle.journal_text.specs.Begun.{lacks_watch, lacks_edit}
use Rattle.journal_text.specs.Ranges.{IsEdit}
use Rattle.journal_text.proofs.steps.inside.Goals as goal

pub settled-requires-2 : goal.settled-requires-2
settled-requires-2 c =
    let entry = c.args.entry in
    let count = ap length c.items.ensures in
    let due : length entry.edits < entry.head.edits = elim (or_cases (lacks_watch entry) (lacks_edit entry) c.requires.3) [
      | inl some ↦ absurd (omega (arith, count, ltb-true (length entry.watch) entry.head.watches some))
      | inr some ↦ ltb-true (length entry.edits) entry.head.edits some
    ] in
    let lawful = rw c.in-Some-2.is at c.in_ok-edit.ensures in
    record {
      numbers = c.requires.2.numbers;
      watched = c.requires.2.watched;
      edited = rw c.in_ok-edits.ensures (omega (arith, due, length-append entry.edits (c.in-Some-2.edit ∷ [])));
      order = λ lacks. absurd (omega (arith, count, c.if-items-head.false, lacks));
      watch = c.requires.2.watch;
      edits = rw c.in_ok-edits.ensures (All-append IsEdit entry.edits (c.in-Some-2.edit ∷ []) c.requires.2.edits (All-cons IsEdit c.in-Some-2.edit [] lawful.0 (All-nil IsEdit)));
    }
