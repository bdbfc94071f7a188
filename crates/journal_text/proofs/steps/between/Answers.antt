use Rattle.std.proofs.Common.{◌≡◌, Option, Some, length, codes, ◌++◌, refl, ap, subst, ◌∙◌, inl, inr, arith}
use Rattle.desk_report.specs.LineText.{line_text}
use Rattle.journal_text.specs.Lines.{end_words}
use Rattle.journal_text.specs.Begun.{IsHead, head_words}
use Rattle.journal_text.specs.Places.{settled, IsLineOf}
use Rattle.journal_text.specs.declared.places.Begun.{Begun}
use Rattle.journal_text.specs.declared.places.Head.{Head}
use Rattle.journal_text.proofs.steps.between.Goals as goal

pub returns-then-is_end : goal.returns-then-is_end
returns-then-is_end c =
    let line : line_text (end_words (length c.args.entries)) ≡ c.args.line.now ++ codes "\n" = rw c.items-count.ensures at ((c.if-is_end.ensures).0 refl) in
    (end_words (length c.args.entries), line, inr (refl, refl))

pub returns-in_ok-settled-in-Some : goal.returns-in_ok-settled-in-Some
returns-in_ok-settled-in-Some c =
    let named : IsLineOf IsHead head_words c.args.line.now (Some c.in-Some.head) = subst (λ (o : Option Head). IsLineOf IsHead head_words c.args.line.now o) c.in-Some.is c.in_ok-head.ensures in
    let few = c.if-count.false in
    let count : length c.items-count.result.now ≡ length c.args.entries = ap length c.items-count.ensures in
    (head_words c.in-Some.head, named.1, inl (record { head = c.in-Some.head; numbers = named.0; room = omega arith; line = refl; leads = c.in_ok-settled-in-Some.ensures ∙ ap (λ (entry : Begun). settled c.args.heading c.args.entries entry) c.fresh-entry.ensures }))
