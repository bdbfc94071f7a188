use Rattle.std.proofs.Common.{◌≡◌, ap, sym, ◌∙◌, [], ◌∷◌}
use Rattle.bench_reader.specs.Words.{words_of}
use Rattle.session_lines.specs.Kinds.{both_kinds, named_kinds, kinds_after}
use Rattle.session_lines.proofs.KindLemmas.{kinds_after-kind}
use Rattle.session_lines.proofs.kinds.kinds_after.Goals as goal

pub loop-word-preserved : goal.loop-word-preserved
loop-word-preserved c =
    let before = c.loop-word.kinds in
    let word = c.in-Some.word.now in
    let words = words_of c.in-Some.behind.now in
    let more : both_kinds before (named_kinds (word ∷ [])) ≡ c.joined-kinds.result = ap (both_kinds before) (sym c.in_ok-kind_of.ensures.1) ∙ sym c.joined-kinds.ensures in
    c.loop-word.invariant ∙ ap (kinds_after before) c.in-Some.ensures ∙ kinds_after-kind before word words c.in_ok-kind_of.ensures.0 ∙ ap (λ kinds. kinds_after kinds words) more
