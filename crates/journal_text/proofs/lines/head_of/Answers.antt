use Rattle.std.proofs.Common.{◌≡◌, ap, arith, ◌∙◌}
use Rattle.std.proofs.lemmas.Bool.{iff_false}
use Rattle.desk_report.specs.LineText.{line_text}
use Rattle.journal_text.specs.Begun.{head_words}
use Rattle.journal_text.specs.declared.places.Head.{Head}
use Rattle.journal_text.proofs.PlainWords.{plain-entry}
use Rattle.journal_text.proofs.PlainLines.{line-words_of}
use Rattle.journal_text.proofs.lines.head_of.Goals as goal

pub returns-in_default : goal.returns-in_default
returns-in_default c = λ head lawful same.
    let words = line-words_of _ c.args.line.now (plain-entry head.planner head.base head.watches head.edits lawful) same in
    c.in_default.not-Some head (c.numbers_of.ensures head lawful words)

pub returns-then-head-gt-MOST_WATCHES : goal.returns-then-head-gt-MOST_WATCHES
returns-then-head-gt-MOST_WATCHES c = λ head lawful same.
    let words = line-words_of _ c.args.line.now (plain-entry head.planner head.base head.watches head.edits lawful) same in
    let some = c.in-Some.is in
    let found = c.numbers_of.ensures head lawful words in
    let one : c.in-Some.head ≡ head = cc in
    let watches : c.in-Some.head.watches ≡ head.watches = ap (λ (h : Head). h.watches) one in
    let edits : c.in-Some.head.edits ≡ head.edits = ap (λ (h : Head). h.edits) one in
    omega (arith, lawful.watches_most, lawful.edits_most, c.then-head-gt-MOST_WATCHES.either)

pub returns-else-branch : goal.returns-else-branch
returns-else-branch c = λ head lawful same.
    let words = line-words_of _ c.args.line.now (plain-entry head.planner head.base head.watches head.edits lawful) same in
    let some = c.in-Some.is in
    let found = c.numbers_of.ensures head lawful words in
    let one : c.in-Some.head ≡ head = cc in
    iff_false c.in_ok-is_head.ensures c.if-branch.false (ap (λ (h : Head). line_text (head_words h)) one ∙ same)
