use Rattle.std.proofs.Common.{◌≡◌, true, ap, sym, ◌∙◌, Some}
use Rattle.bench_reader.specs.Words.{ends_word}
use Rattle.session_lines.proofs.PlainLemmas.{cell_read}
use Rattle.session_lines.proofs.plain.cell_at_front.Goals as goal

pub returns : goal.returns
returns c =
    let end : ends_word c.in_ok-y.rest.now ≡ true = sym c.ends_word.ensures ∙ c.if-not-ends_word.false in
    let (word, words, is) = cell_read c.behind_space.result.now c.in_ok-x.rest.now c.in_ok-behind_comma.field-0.now c.in_ok-y.rest.now c.in_ok-x.x c.in_ok-y.y c.in_ok-x.ensures c.in_ok-behind_comma.ensures c.in_ok-y.ensures end in
    (word, sym c.behind_space.ensures ∙ words, is ∙ ap Some (sym c.in_ok-new.ensures.1))
